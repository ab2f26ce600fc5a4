-- Asks of the device as parts of a life: each is a snapshot that was given up before any of it came.
use Rattle.std.proofs.Common.{◌≡◌, ◌≢◌, ◌⊎◌, inl, inr, ℕ, Bool, true, false, List, Option, None, Some, Result, Ok, Err, refl, sym, ap, subst, ◌∙◌}
use Rattle.std.specs.Prelude.{◌||◌, is_some}
use Rattle.rep_types.specs.declared.refusal.Refusal.{Refusal}
use Rattle.rep_types.specs.declared.refusal.Refusal.TheVariants.{Stopped, DiskFault}
use Rattle.rep_types.specs.declared.refusal.Part.{Part}
use Rattle.rep_types.proofs.Choices.{neither_some}
use Rattle.rep_disk.specs.declared.disk.Disk.{Ghosts}
use Rattle.rep_disk.specs.History.{IsImage}
use Rattle.rep_disk.specs.Leaving.{leaves_none}
use Rattle.rep_log.specs.declared.phase.Phase.{Phase}
use Rattle.rep_steps.specs.Nodes.{Node, IsNode}
use Rattle.rep_steps.specs.Parts.{part_of}
use Rattle.rep_steps.specs.Images.{IsFrontAt}
use Rattle.rep_recover.specs.Meanings.{Means}
use Rattle.rep_recover.specs.Engines.{phase_at, facts_of as engine_facts}
use Rattle.rep_recover.specs.Holding.{Holds as EngineHolds}
use Rattle.rep_recover.specs.Installing.{halted_at, halted_node}
use Rattle.rep_recover.specs.Reading.{halted_by}
use Rattle.rep_replica.specs.Replicas.{Replica, facts_of}
use Rattle.rep_replica.specs.Holding.{Holds}
use Rattle.rep_replica.specs.Donating.{Asks}
use Rattle.rep_replica.specs.Episodes.{GaveUp}
use Rattle.rep_replica.specs.Asking.{IsAsked, AsksAreGivenUp}

-- ---- the device failed

-- what a node is bounded by does not speak of the device
is_halted_node : (failures : ℕ) (n : Node) → IsNode n → IsNode (halted_node failures n)
is_halted_node failures n h = record {
  facts = record { allowed = h.facts.allowed; undefined = h.facts.undefined; based = h.facts.based; near = h.facts.near; limit = h.facts.limit; block = h.facts.block; few = h.facts.few; started = h.facts.started; room = h.facts.room; goal = h.facts.goal };
  position = h.position;
  enough = h.enough;
  ahead = h.ahead;
}

-- a front of a node is one of the node whose device failed
front_halted : (failures : ℕ) (n : Node) (image : List ℕ) → IsFrontAt Means n image → IsFrontAt Means (halted_node failures n) image
front_halted failures n image f = record { meaning = f.meaning; reads = f.reads; end = f.end; least = f.least; front = f.front }

module _ {D : Type 0} (g : Ghosts D) (old : Replica D) (disk : D) (runs : old.engine.halted ≡ None) (inside : old.stopped ≡ false) where
  abbrev pub failed : Replica D
  failed = record old { engine = record old.engine { disk = disk; halted = Some old.engine.log.phase } }

  engine_failed : halted_at (g.failures disk) (engine_facts g old.engine) ≡ engine_facts g failed.engine
  engine_failed = ap (λ (h : Option Phase). record (engine_facts g old.engine) { phase = phase_at old.engine.log.phase h; failures = g.failures disk; stopped = true }) runs

  facts_failed : halted_at (g.failures disk) (facts_of g old) ≡ facts_of g failed
  facts_failed =
      ap (λ (h : Option Phase). record (facts_of g old) { phase = phase_at old.engine.log.phase h; failures = g.failures disk; stopped = true }) runs
      ∙ ap (λ (b : Bool). record (facts_of g old) { phase = old.engine.log.phase; failures = g.failures disk; stopped = b || true }) (sym inside)

  module _ (n : Node) (holds : Holds g n old) (is_honest : g.honest disk) (past : g.history disk ≡ g.history old.engine.disk) where
    engine_holds : EngineHolds g (part_of old.engine.block holds.taken (halted_node (g.failures disk) n)) failed.engine
    engine_holds = record {
      is_honest = is_honest;
      facts = ap (halted_at (g.failures disk)) holds.engine.facts ∙ engine_failed;
      node = is_halted_node (g.failures disk) (part_of old.engine.block holds.taken n) holds.engine.node;
      runs = λ on. absurd (let never : Some old.engine.log.phase ≡ None = on in cc);
      images = λ image here. front_halted (g.failures disk) (part_of old.engine.block holds.taken n) image (holds.engine.images image (subst (λ h. IsImage h image) past here));
    }

    -- It stands for the node, whose device has failed.
    failed_holds : Holds g (halted_node (g.failures disk) n) failed
    failed_holds = record {
      running = holds.running;
      facts = ap (halted_at (g.failures disk)) holds.facts ∙ facts_failed;
      node = is_halted_node (g.failures disk) n holds.node;
      judged = holds.judged;
      taken = holds.taken;
      within = holds.within;
      engine = engine_holds;
      waiting = holds.waiting;
      windows = holds.windows;
    }

    pub failed_gave_up : GaveUp g n old failed
    failed_gave_up = record { node = halted_node (g.failures disk) n; still = refl; holds = failed_holds; leaves = leaves_none (g.history old.engine.disk) (g.history disk) past }

-- ---- an ask

module _ {D : Type 0} (g : Ghosts D) (old new : Replica D) (asked : IsAsked g old new) (n : Node) (holds : Holds g n old) where
  past : g.history new.engine.disk ≡ g.history old.engine.disk
  past = asked.same holds.engine.is_honest

  pub gave_up_by : (new.engine.halted ≡ old.engine.halted) ⊎ ((old.engine.halted ≡ None) × (new.engine.halted ≡ Some old.engine.log.phase)) → GaveUp g n old new
  gave_up_by (inl same) = record { node = n; still = refl; holds = asked.still n holds same; leaves = leaves_none (g.history old.engine.disk) (g.history new.engine.disk) past }
  gave_up_by (inr halts) =
      let is : new ≡ record old { engine = record old.engine { disk = new.engine.disk; halted = Some old.engine.log.phase } } =
      asked.rest ∙ ap (λ (h : Option Phase). record old { engine = record old.engine { disk = new.engine.disk; halted = h } }) halts.1 in
      subst (GaveUp g n old) (sym is) (failed_gave_up g old new.engine.disk halts.0 holds.running n holds (asked.stays_honest holds.engine.is_honest) past)

pub asks_given_up : {D : Type 0} (g : Ghosts D) → AsksAreGivenUp g
asks_given_up g old new asked n holds = gave_up_by g old new asked n holds asked.halts

-- ---- what is asked for a joiner

module _ {D T : Type 0} (g : Ghosts D) (part : Part) (old new : Replica D) (result : Result T Refusal) (asks : Asks g part old new result)
    (on : (n : Node) → Holds g n old → result ≢ Err DiskFault → Holds g n new) where
  -- by what came of it, where the replica ran
  halts_by : (r : Result T Refusal) → old.engine.halted ≡ None → new.engine.halted ≡ halted_by old.engine.log.phase r
      → (new.engine.halted ≡ old.engine.halted) ⊎ ((old.engine.halted ≡ None) × (new.engine.halted ≡ Some old.engine.log.phase))
  halts_by (Ok x) runs is = inl (is ∙ sym runs)
  halts_by (Err DiskFault) runs is = inr (runs, is)
  halts_by (Err e) runs is = inl (is ∙ sym runs)

  halts_either : (b : Bool) → (old.stopped || is_some old.engine.halted) ≡ b
      → (new.engine.halted ≡ old.engine.halted) ⊎ ((old.engine.halted ≡ None) × (new.engine.halted ≡ Some old.engine.log.phase))
  halts_either true stopped = inl (ap (λ (r : Replica D). r.engine.halted) (asks.stopped stopped).1)
  halts_either false runs = halts_by result ((neither_some old.stopped old.engine.halted runs).1) (asks.running runs).0

  -- where it is as it was, the device didn't fail
  no_fault : (b : Bool) → (old.stopped || is_some old.engine.halted) ≡ b → new.engine.halted ≡ old.engine.halted → result ≢ Err DiskFault
  no_fault true stopped same is = let never : Err Stopped ≡ Err DiskFault = sym (asks.stopped stopped).0 ∙ is in cc
  no_fault false runs same is =
      let never : Some old.engine.log.phase ≡ None = sym (ap (halted_by old.engine.log.phase) is) ∙ sym (asks.running runs).0 ∙ same ∙ (neither_some old.stopped old.engine.halted runs).1 in cc

  pub is_asked : IsAsked g old new
  is_asked = record {
    stays_honest = asks.call.stays_honest;
    same = asks.same;
    rest = asks.rest;
    halts = halts_either (old.stopped || is_some old.engine.halted) refl;
    still = λ n holds same. on n holds (no_fault (old.stopped || is_some old.engine.halted) refl same);
  }

-- nothing was asked
pub asked_none : {D : Type 0} (g : Ghosts D) (r : Replica D) → IsAsked g r r
asked_none g r = record { stays_honest = λ is. is; same = λ is. refl; rest = refl; halts = inl refl; still = λ n holds same. holds }
