-- An engine that runs, and whose device was asked without a failure.
use Rattle.std.proofs.Common.{◌≡◌, length, true, Option, None, Some, Result, Ok, Err, refl, sym, ap, subst, ◌∙◌, ◌⊎◌, inl, inr, IsOk, IsErr, IfSome, IfErr}
use Rattle.std.specs.Prelude.{is_some}
use Rattle.rep_types.specs.declared.refusal.Refusal.{Refusal}
use Rattle.rep_types.specs.declared.refusal.Refusal.TheVariants.{Stopped, Corrupt, DiskFault as Failed}
use Rattle.rep_types.specs.declared.refusal.Part.{Part}
use Rattle.rep_types.proofs.Choices.{none_not_some}
use Rattle.rep_disk.specs.declared.disk.Disk.{Ghosts}
use Rattle.rep_disk.specs.declared.disk.DiskFault.{DiskFault}
use Rattle.rep_disk.specs.History.{stable, IsImage}
use Rattle.rep_disk.specs.Devices.{Calls, SameHistory}
use Rattle.rep_layout.specs.declared.place.Layout.{Layout}
use Rattle.rep_cells.specs.Known.{Assigns}
use Rattle.rep_log.specs.declared.phase.Phase.{Phase}
use Rattle.rep_log.specs.Moves.{fault_of}
use Rattle.rep_steps.specs.Nodes.{Node}
use Rattle.rep_checkpoint.specs.Nodes.{StandsAs}
use Rattle.rep_engine.specs.Engines.{Engine, facts_of}
use Rattle.rep_engine.specs.Holding.{Stands, Holds}
use Rattle.rep_engine.specs.Reading.{halted_by}
use Rattle.rep_engine.specs.Donating.{Asks}

module _ {D : Type 0} (g : Ghosts D) (old : Engine D) (runs : old.halted ≡ None) (disk : D) (same : g.failures disk ≡ g.failures old.disk) where
  -- It has the facts that it had,
  pub facts_asked : facts_of g (record old { disk = disk; halted = None }) ≡ facts_of g old
  facts_asked = rw same (rw runs refl)

  -- and stands for the node for which it stood.
  pub holds_asked : (n : Node) → Holds g n old → g.honest disk → g.history disk ≡ g.history old.disk → Holds g n (record old { disk = disk; halted = None })
  holds_asked n holds is_honest past = record {
    is_honest = is_honest;
    facts = holds.facts ∙ sym facts_asked;
    node = holds.node;
    runs = λ on. record {
      states = there.states;
      assigns = subst (λ h. Assigns old.layout h there.states) (sym past) there.assigns;
      blocks = there.blocks;
      sealed = there.sealed;
      stands = subst (λ h. StandsAs n (length (stable h)) old.checkpoint old.log there.blocks there.sealed there.states) (sym past) there.stands;
      versions = there.versions;
      gates = there.gates;
    };
    images = λ image here. holds.images image (subst (λ h. IsImage h image) past here);
  }
    where
      there : Stands g n old
      there = holds.runs runs

-- The same, as the engine is inside of the call: with the device behind it, in the same layout.
pub holds_read : {D T : Type 0} (g : Ghosts D) (within old : Engine D) (disk : D) (l : Layout) (result : Result T DiskFault)
    → within ≡ old → within.halted ≡ None → l ≡ within.layout → Calls g within.disk disk result → IsOk result → (g.honest within.disk → g.history disk ≡ g.history within.disk)
    → (n : Node) → Holds g n old → Holds g n (record within { disk = disk; layout = l })
holds_read g within old disk l result is runs layout call ok same n holds =
    let before = subst (Holds g n) (sym is) holds in
    let after = holds_asked g within runs disk (call.no_cause ok) n before (call.stays_honest before.is_honest) (same before.is_honest) in
    subst (λ (k : Layout). Holds g n (record within { disk = disk; layout = k })) (sym layout)
    (subst (λ (h : Option Phase). Holds g n (record within { disk = disk; halted = h })) (sym runs) after)

-- ---- where nothing is asked

pub none_asked : {D : Type 0} (g : Ghosts D) (disk : D) → Calls {T = Unit {0}} g disk disk (Ok tt)
none_asked g disk = record { same_size = refl; stays_honest = λ is. is; was_honest = λ is. is; cause = λ e. absurd cc; no_cause = λ ok. refl }

-- for the device has failed before
pub asks_stopped : {D T : Type 0} (g : Ghosts D) (part : Part) (old : Engine D) → is_some old.halted ≡ true → Asks {T = T} g part old old (Err Stopped)
asks_stopped {T} g part old stopped = record {
  call = none_asked g old.disk;
  same = λ is. refl;
  rest = refl;
  stopped = stays old.halted;
  running = λ runs. absurd (none_not_some old.halted stopped runs);
}
  where
    stays : (o : Option Phase) → IfSome o (λ _. (◌≡◌ {A = Result T Refusal} (Err Stopped) (Err Stopped)) × (old ≡ old))
    stays None = tt
    stays (Some phase) = (refl, refl)

-- for there is nothing to read
pub asks_none : {D T : Type 0} (g : Ghosts D) (part : Part) (old : Engine D) (x : T) → old.halted ≡ None → Asks g part old old (Ok x)
asks_none g part old x runs = record {
  call = none_asked g old.disk;
  same = λ is. refl;
  rest = refl;
  stopped = subst (λ (o : Option Phase). IfSome o (λ _. (Ok x ≡ Err Stopped) × (old ≡ old))) (sym runs) tt;
  running = λ on. (runs, tt);
}

-- ---- where it was asked, inside of the call

pub asks_by : {D T : Type 0} (g : Ghosts D) (part : Part) (within old : Engine D) (disk : D) (l : Layout) (halted : Option Phase) (result : Result T Refusal)
    → within ≡ old → within.halted ≡ None → l ≡ within.layout → Calls g within.disk disk (fault_of result) → (g.honest within.disk → g.history disk ≡ g.history within.disk) → halted ≡ halted_by within.log.phase result → IfErr result (λ e. (e ≡ Failed) ⊎ (e ≡ Corrupt part))
    → Asks g part old (record within { disk = disk; layout = l; halted = halted }) result
asks_by {D} g part within old disk l halted result is runs layout call same by refused =
    let new : Engine D = record within { disk = disk; layout = l; halted = halted } in
    subst (λ (e : Engine D). Asks g part e new result) is (record {
      call = call;
      same = same;
      rest = ap (λ (k : Layout). record within { disk = disk; layout = k; halted = halted }) layout;
      stopped = subst (λ (o : Option Phase). IfSome o (λ _. (result ≡ Err Stopped) × (new ≡ within))) (sym runs) tt;
      running = λ on. (by, refused);
    })

module _ {D S T : Type 0} (g : Ghosts D) (part : Part) (within old : Engine D) (disk : D) (l : Layout) (read : Result S DiskFault) (is : within ≡ old) (runs : within.halted ≡ None) (layout : l ≡ within.layout)
    (call : Calls g within.disk disk read) (same : SameHistory g within.disk disk) where
  -- and didn't fail: what it gave is of its form, or is not
  pub asks_found : IsOk read → (result : Result T Refusal) → IfErr result (λ e. e ≡ Corrupt part) → Asks g part old (record within { disk = disk; layout = l }) result
  asks_found ok result refused = by result refused
    where
      done : Calls {T = Unit {0}} g within.disk disk (Ok tt)
      done = record { same_size = call.same_size; stays_honest = call.stays_honest; was_honest = call.was_honest; cause = λ e. absurd cc; no_cause = λ e. call.no_cause ok }

      by : (result : Result T Refusal) → IfErr result (λ e. e ≡ Corrupt part) → Asks g part old (record within { disk = disk; layout = l }) result
      by (Ok x) refused = asks_by g part within old disk l within.halted (Ok x) is runs layout done same runs tt
      by (Err e) refused =
          subst (λ (r : Refusal). Asks {T = T} g part old (record within { disk = disk; layout = l }) (Err r)) (sym refused)
          (asks_by {T = T} g part within old disk l within.halted (Err (Corrupt part)) is runs layout done same runs (inr refl))

  -- and failed
  pub asks_failed : IsErr read → (phase : Phase) → phase ≡ within.log.phase → Asks {T = T} g part old (record within { disk = disk; layout = l; halted = Some phase }) (Err Failed)
  asks_failed err phase at =
      let done : Calls {T = Unit {0}} g within.disk disk (Err (record {})) = record { same_size = call.same_size; stays_honest = call.stays_honest; was_honest = call.was_honest; cause = λ e. call.cause err; no_cause = λ e. absurd cc } in
      asks_by {T = T} g part within old disk l (Some phase) (Err Failed) is runs layout done same (ap Some at) (inl refl)
