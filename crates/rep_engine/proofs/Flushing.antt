-- Pages that are flushed, of an engine that stands for a node.
use Rattle.std.proofs.Common.{◌≡◌, ◌⊎◌, inl, inr, ℕ, ◌+◌, ◌≤◌, Bool, true, false, List, [], length, Option, None, Some, Result, Ok, Err, refl, sym, ap, subst, ◌∙◌, arith, IfSome, IfErr, OnErr}
use Rattle.std.specs.Prelude.{is_some, if◌then◌else◌, ◌==◌, IsTrue}
use Rattle.std.specs.List.{list_any}
use Rattle.rep_types.specs.declared.judged.Judged.{Judged}
use Rattle.rep_types.specs.declared.refusal.Refusal.{Refusal}
use Rattle.rep_types.specs.declared.refusal.Refusal.TheVariants.{DiskFault, NotDue, Corrupt}
use Rattle.rep_types.specs.declared.refusal.Part.TheVariants.{Pages}
use Rattle.rep_types.specs.declared.verdict.Verdict.TheVariants.{Commit}
use Rattle.std.proofs.lemmas.Bool.Decides.{nat_tests}
use Rattle.rep_types.specs.declared.limits.TheConstants.{MAX_PAGES}
use Rattle.rep_types.specs.Settings.{Setting, IsRow, is_setting, pages_of}
use Rattle.rep_types.specs.Order.{State}
use Rattle.rep_disk.specs.declared.disk.Disk.{Ghosts}
use Rattle.rep_disk.specs.History.{History, stable, IsImage}
use Rattle.rep_disk.specs.Calls.{Rises}
use Rattle.rep_disk.specs.Moments.{LeavesOnly}
use Rattle.rep_disk.specs.Leaving.{leaves_weaker}
use Rattle.rep_disk.specs.Devices.{Calls}
use Rattle.rep_layout.specs.declared.place.Layout.{Layout}
use Rattle.rep_layout.specs.declared.rows.RowPlace.{RowPlace}
use Rattle.rep_layout.specs.declared.super_body.SuperBody.{SuperBody}
use Rattle.rep_layout.specs.Rows.{RowPlacesAreTold}
use Rattle.rep_cells.specs.Known.{Assigns}
use Rattle.rep_versions.specs.Versions.{Kept}
use Rattle.rep_log.specs.declared.phase.Phase.{Phase}
use Rattle.rep_log.specs.Standing.{Standing as Log}
use Rattle.rep_log.specs.Moves.{fault_of}
use Rattle.rep_steps.specs.declared.event.Event.TheVariants.{Flush}
use Rattle.rep_steps.specs.declared.answer.Answer.TheVariants.{Wrote, Refused}
use Rattle.rep_steps.specs.Standings.{Standing, Stage as StageOf, HasGoal, flush_refusal as flush_refusal_at, refusal_here}
use Rattle.rep_steps.specs.Moves.{Found, Moves, after}
use Rattle.rep_steps.specs.Nodes.{Node, Steps, NodesStayNodes, found, moved}
use Rattle.rep_steps.specs.Images.{IsFrontAt}
use Rattle.rep_checkpoint.specs.Meanings.{Means}
use Rattle.rep_checkpoint.specs.declared.stage.Part.{Part}
use Rattle.rep_checkpoint.specs.declared.stage.Part.TheVariants.{Flushing, Saving, Ready, SuperFilling, SuperFilled, SuperOpening}
use Rattle.rep_checkpoint.specs.declared.stage.Stage.{Stage}
use Rattle.rep_checkpoint.specs.declared.stage.Stage.TheVariants.{Off, Toward, Retiring}
use Rattle.rep_checkpoint.specs.Next.{Next, is_in}
use Rattle.rep_checkpoint.specs.Standing.{Standing as Checkpoint, stage_in, stage_of, IsNext, IsCheckpoint}
use Rattle.rep_checkpoint.specs.Moves.{flushed, flushed_in, flush_refusal, position_in}
use Rattle.rep_pool.specs.BasePages.{IsPageReadable}
use Rattle.rep_checkpoint.specs.Calls.{IsRefused, Flushes, FlushesAsSpelled, AreAt, Steps as CheckpointSteps}
use Rattle.rep_checkpoint.specs.Laws.{TheStageIsTheFacts, TheCheckpointIsApart}
use Rattle.rep_checkpoint.specs.States.{CheckpointIs}
use Rattle.rep_checkpoint.specs.Nodes.{IsLedTo, StandsAs, VersionsLeadToTheState, NodesLeaveTheirFronts}
use Rattle.rep_engine.specs.Engines.{Engine, IsEngine, HasItemsBehind, facts_of, durable_of}
use Rattle.rep_engine.specs.Holding.{Stands, Holds, wrote}
use Rattle.rep_engine.specs.Reading.{halted_by}
use Rattle.rep_engine.proofs.Steps.{refused_moves, done_moves, fault_moves, corrupt_moves, refused_steps, done_steps, fault_steps, halted_node}
use Rattle.rep_engine.proofs.Refusing.{refused_after, checkpoint_stays, stays_stopped}
use Rattle.rep_engine.proofs.Going.{stage_or_same}
use Rattle.rep_engine.proofs.Standing.{places, long, same_front, fronts_of, stands_at_stage}
use Rattle.rep_engine.proofs.Checking.{here, next_in}

-- its goal stays
same_goal : (base durable page : ℕ) (log : Log) (stage : Stage) → HasGoal base durable log.start log.next (stage_in stage) → HasItemsBehind (stage_in stage) log → HasGoal base durable log.start log.next (stage_in (flushed_in page stage)) × HasItemsBehind (stage_in (flushed_in page stage)) log
same_goal base durable page log Off goal behind = (tt, tt)
same_goal base durable page log (Toward to part) goal behind = (record { above = goal.above; within = goal.within; started = goal.started; begun = goal.begun }, behind)
same_goal base durable page log (Retiring written) goal behind = (tt, tt)

-- the page is no longer left, or the checkpoint stands as it did
went_by : {D : Type 0} (g : Ghosts D) (l : Layout) (kept : _) (page : ℕ) (c d : Checkpoint) (old disk : D) (result : Result (Unit {0}) Refusal) → Flushes g l kept page c d old disk result → (d ≡ c) ⊎ (d ≡ flushed page c)
went_by g l kept page c d old disk (Ok x) h = inr h.done
went_by g l kept page c d old disk (Err e) h = inl h.fault.1

pub engine_went : {D : Type 0} (g : Ghosts D) (l : Layout) (c d : Checkpoint) (log : Log) (kept : _) (block : List Judged) (page : ℕ) (old disk : D) (result : Result (Unit {0}) Refusal)
    → IsEngine l c log kept block → IsCheckpoint d → IfSome (flush_refusal l c page) (λ e. IsRefused e c d old disk result) → (flush_refusal l c page ≡ None → Flushes g l kept page c d old disk result) → IsEngine l d log kept block
engine_went g l c d log kept block page old disk result h is refused flushes =
    stage_or_same l c d (flushed_in page c.stage) log kept block old disk result (flush_refusal l c page) h is (same_goal c.base.position (durable_of log) page log c.stage h.goal h.behind_goal) refused (λ none. went_by g l kept page c d old disk result (flushes none))

-- ---- a page that is left

-- only while pages are flushed
flushing : (page : ℕ) (stage : Stage) → flush_refusal_at (stage_in stage) page ≡ None → (to : Next) × (stage ≡ Toward to Flushing)
flushing page (Toward to Flushing) e = (to, refl)
flushing page _ e = absurd cc

-- the part of a stage
abbrev part_in : Part → Stage → Part
part_in none Off = none
part_in none (Toward next part) = part
part_in none (Retiring written) = none

-- the next base is the one that it was, but for what is left
flushed_toward : (page : ℕ) (stage : Stage) (to : Next) (part : Part) → flushed_in page stage ≡ Toward to part → (before : Next) × (stage ≡ Toward before part) × (to.super ≡ before.super)
flushed_toward page Off to part e = absurd cc
flushed_toward page (Toward old before) to part e = (old, ap (λ (k : Stage). Toward old (part_in before k)) e, ap (λ (k : Stage). (next_in old k).super) (sym e))
flushed_toward page (Retiring written) to part e = absurd cc

-- a flush that isn't due speaks of no page
pub refused_spelled : (l : Layout) (b : SuperBody) (kept : Kept) (position page : ℕ) (old new : History) (e : Refusal) → (e ≡ Corrupt Pages → ⊥) → FlushesAsSpelled {T = Unit {0}} l b kept position page old new (Err e)
refused_spelled l b kept position page old new e other = record { done = tt; bad = λ bad. refl; corrupt = λ f. absurd (other (same_error f)) }
  where
    same_error : {f : Refusal} → ◌≡◌ {A = Result (Unit {0}) Refusal} (Err e) (Err f) → e ≡ f
    same_error p = cc

-- What a flush did, on any device.
pub record IsFlushed {D : Type 0} (g : Ghosts D) (old : Engine D) (dk : D) (d : Checkpoint) (hl : Option Phase) (page : ℕ) (result : Result (Unit {0}) Refusal) : Type 0 where
  pub engine : IsEngine old.layout old.checkpoint old.log old.kept old.block
  pub runs : old.halted ≡ None
  pub call : Calls g old.disk dk (fault_of result)
  pub halted : hl ≡ halted_by old.log.phase result
  pub refused : IfSome (flush_refusal old.layout old.checkpoint page) (λ e. IsRefused e old.checkpoint d old.disk dk result)
  pub flushes : flush_refusal old.layout old.checkpoint page ≡ None → Flushes g old.layout old.kept page old.checkpoint d old.disk dk result
  pub unchanged : OnErr result (d ≡ old.checkpoint)

module _ {D : Type 0} (g : Ghosts D) (sized : (disk : D) → g.honest disk → length (stable (g.history disk)) ≡ g.size disk) (laws : TheStageIsTheFacts)
    (old : Engine D) (dk : D) (d : Checkpoint) (hl : Option Phase) (page : ℕ) where
  abbrev was : Standing
  was = facts_of g old

  abbrev to : Engine D
  to = record old { disk = dk; checkpoint = d; halted = hl }

  abbrev c : Checkpoint
  c = old.checkpoint

  facts_flushed : (f : Found) → old.halted ≡ None → d ≡ flushed page c → g.failures dk ≡ g.failures old.disk → hl ≡ None → facts_of g to ≡ after was (Flush page) f
  facts_flushed f runs same rose still =
      let moved_on : facts_of g to ≡ record was { stage = stage_of (flushed page c) } = rw same (rw rose (rw still (rw runs refl))) in
      moved_on ∙ ap (λ (stage : StageOf). record was { stage = stage }) (laws.flushed c page)

  facts_same : old.halted ≡ None → d ≡ c → g.failures dk ≡ g.failures old.disk → hl ≡ None → facts_of g to ≡ was
  facts_same runs same rose still = rw same (rw rose (rw still (rw runs refl)))

  -- what it did where it was left
  left_flushes : (result : Result (Unit {0}) Refusal) → IsFlushed g old dk d hl page result → flush_refusal_at (stage_of c) page ≡ None → Flushes g old.layout old.kept page c d old.disk dk result
  left_flushes result h none = h.flushes (here old.layout c (flush_refusal_at (stage_of c) page) h.engine.layout ∙ none)

  -- and where it wasn't: nothing
  nothing_done : (result : Result (Unit {0}) Refusal) → IsFlushed g old dk d hl page result → (r : Refusal) → r ≡ NotDue → flush_refusal_at (stage_of c) page ≡ Some r → (result ≡ Err r) × (to ≡ old)
  nothing_done result h r not_due some =
      let at = here old.layout c (flush_refusal_at (stage_of c) page) h.engine.layout ∙ some in
      let refused : IsRefused r c d old.disk dk result = subst (λ (o : Option Refusal). IfSome o (λ e. IsRefused e c d old.disk dk result)) at h.refused in
      let still : hl ≡ None = h.halted ∙ ap (halted_by old.log.phase) (refused.refused ∙ ap Err not_due) in (
        refused.refused,
        ap (λ (o : Option Phase). record old { disk = dk; checkpoint = d; halted = o }) (still ∙ sym h.runs)
            ∙ ap (λ (k : Checkpoint). record old { disk = dk; checkpoint = k }) refused.checkpoint ∙ ap (λ (x : D). record old { disk = x }) refused.disk,
      )

  -- on any device, where it was left
  left_moves : (result : Result (Unit {0}) Refusal) → IsFlushed g old dk d hl page result → flush_refusal_at (stage_of c) page ≡ None → Moves was (Flush page) (wrote result) (facts_of g to)
  left_moves (Ok x) h none =
      let f : Found = record { verdict = Commit; stale = false; left = []; row = None } in
      let goes = left_flushes (Ok x) h none in
      done_moves was (Flush page) f (facts_of g to) (ap is_some h.runs) none (facts_flushed f h.runs goes.done (h.call.no_cause refl) h.halted)
  left_moves (Err e) h none =
      let goes = left_flushes (Err e) h none in
      elim goes.fault.0 [
        | inl fault ↦
            let call = subst (λ (r : Refusal). Calls g old.disk dk (fault_of {T = Unit {0}} (Err r))) fault h.call in
            let still = subst (λ (r : Refusal). hl ≡ halted_by {T = Unit {0}} old.log.phase (Err r)) fault h.halted in
            subst (λ (r : Refusal). Moves was (Flush page) (Refused r) (facts_of g to)) (sym fault)
            (fault_moves was (Flush page) (facts_of g to) (ap is_some h.runs) none refl (call.cause refl) (rw goes.fault.1 (rw still (rw h.runs refl))))
        | inr bad ↦
            let call = subst (λ (r : Refusal). Calls g old.disk dk (fault_of {T = Unit {0}} (Err r))) bad h.call in
            let still = subst (λ (r : Refusal). hl ≡ halted_by {T = Unit {0}} old.log.phase (Err r)) bad h.halted in
            subst (λ (r : Refusal). Moves was (Flush page) (Refused r) (facts_of g to)) (sym bad)
            (corrupt_moves was (Flush page) (facts_of g to) (ap is_some h.runs) none refl (facts_same h.runs goes.fault.1 (call.no_cause refl) still))
      ]

  -- and where it wasn't
  other_moves : (result : Result (Unit {0}) Refusal) → IsFlushed g old dk d hl page result → (r : Refusal) → r ≡ NotDue → flush_refusal_at (stage_of c) page ≡ Some r → Moves was (Flush page) (wrote result) (facts_of g to)
  other_moves result h r not_due some =
      let nothing = nothing_done result h r not_due some in
      subst (λ (a : _). Moves was (Flush page) a (facts_of g to)) (ap wrote (sym nothing.0))
      (subst (λ (e : Engine D). Moves was (Flush page) (Refused r) (facts_of g e)) (sym nothing.1) (refused_moves was (Flush page) r (ap is_some h.runs) some))

  -- ---- what a refusal leaves

  abbrev Left : Refusal → Type 0
  Left e = (e ≡ DiskFault) ⊎ (((e ≡ Corrupt Pages) × (to ≡ record old { disk = dk })) ⊎ (to ≡ old))

  left_due : (result : Result (Unit {0}) Refusal) → IsFlushed g old dk d hl page result → flush_refusal_at (stage_of c) page ≡ None → IfErr result Left
  left_due (Ok x) h none = tt
  left_due (Err e) h none =
      let goes = left_flushes (Err e) h none in
      refused_after {T = Unit {0}} old to (Err e) h.runs (checkpoint_stays {T = Unit {0}} old to (Err e) refl h.halted h.unchanged) goes.fault.0

  left_other : (result : Result (Unit {0}) Refusal) → IsFlushed g old dk d hl page result → (r : Refusal) → r ≡ NotDue → flush_refusal_at (stage_of c) page ≡ Some r → IfErr result Left
  left_other result h r not_due some = let nothing = nothing_done result h r not_due some in subst (λ (a : Result (Unit {0}) Refusal). IfErr a Left) (sym nothing.0) (inr (inr nothing.1))

  -- ---- what the bytes say

  abbrev Spelled : Result (Unit {0}) Refusal → Type 0
  Spelled result = g.honest old.disk → IsPageReadable old.layout (g.history old.disk) c.base page → FlushesAsSpelled old.layout c.base old.kept (position_in c.stage) page (g.history old.disk) (g.history dk) result

  spelled_due : (result : Result (Unit {0}) Refusal) → IsFlushed g old dk d hl page result → flush_refusal_at (stage_of c) page ≡ None → Spelled result
  spelled_due result h none = (left_flushes result h none).spelled

  spelled_other : (result : Result (Unit {0}) Refusal) → IsFlushed g old dk d hl page result → (r : Refusal) → r ≡ NotDue → flush_refusal_at (stage_of c) page ≡ Some r → Spelled result
  spelled_other result h r not_due some =
      subst Spelled (sym (nothing_done result h r not_due some).0) (λ is_honest readable. refused_spelled old.layout c.base old.kept (position_in c.stage) page (g.history old.disk) (g.history dk) r (λ corrupt. let never = sym not_due ∙ corrupt in absurd cc))

  -- ---- at a node

  module _ (n : Node) (holds : Holds g n old) where
    at_node : refusal_here n.facts (Flush page) ≡ flush_refusal_at (stage_of c) page
    at_node = ap (λ (t : Standing). refusal_here t (Flush page)) holds.facts

    stopped_not : old.halted ≡ None → n.facts.stopped ≡ false
    stopped_not runs = ap (λ (t : Standing). t.stopped) holds.facts ∙ ap is_some runs

    -- where the page isn't left
    other_holds : (result : Result (Unit {0}) Refusal) → IsFlushed g old dk d hl page result → (r : Refusal) → r ≡ NotDue → flush_refusal_at (stage_of c) page ≡ Some r
        → (m : Node) × Steps n (Flush page) (wrote result) m × Holds g m to
    other_holds result h r not_due some =
        let nothing = nothing_done result h r not_due some in (
          n,
          subst (λ (a : _). Steps n (Flush page) a n) (ap wrote (sym nothing.0)) (refused_steps n (Flush page) r (stopped_not h.runs) (at_node ∙ some)),
          subst (λ (e : Engine D). Holds g n e) (sym nothing.1) holds,
        )

    module _ (nodes : NodesStayNodes) (law : NodesLeaveTheirFronts) (apart : TheCheckpointIsApart) (lead : VersionsLeadToTheState) (result : Result (Unit {0}) Refusal) (h : IsFlushed g old dk d hl page result)
        (none : flush_refusal_at (stage_of c) page ≡ None) where
      there : Stands g n old
      there = holds.runs h.runs

      abbrev m : Node
      m = moved n (Flush page)

      goes : Flushes g (places old) old.kept page c d old.disk dk result
      goes = subst (λ (k : Layout). Flushes g k old.kept page c d old.disk dk result) h.engine.layout (left_flushes result h none)

      toward_goal : (next : Next) × (c.stage ≡ Toward next Flushing)
      toward_goal = flushing page c.stage none

      led : IsLedTo n old.log there.blocks toward_goal.0.super there.stands.goal
      led = there.stands.toward toward_goal.0 Flushing toward_goal.1

      -- the rows of the next base's state
      are_at : AreAt c.base.params.rows old.kept (position_in c.stage) n.base.content there.stands.goal.content
      are_at =
          let leads = (lead n old.kept led.past there.stands.judged (λ key out. there.stands.checkpoint.base.content.outside key (λ inside. out (subst (λ (p : Setting). IsRow p.rows key) (sym there.stands.setting) inside))) there.versions).rows in
          let goal = subst (λ (y : State). AreAt n.facts.setting.rows old.kept (n.base.position + led.past) n.base.content y.content) (sym led.state) leads in
          let position : n.base.position + led.past ≡ position_in c.stage = sym led.position ∙ sym (ap position_in toward_goal.1) in
          subst (λ (p : Setting). AreAt p.rows old.kept (position_in c.stage) n.base.content there.stands.goal.content) there.stands.setting (subst (λ i. AreAt n.facts.setting.rows old.kept i n.base.content there.stands.goal.content) position goal)

      moving : CheckpointSteps (long g old) (places old) (g.history old.disk) (g.history dk) there.states c (flushed page c) n.base there.stands.goal result
      moving = goes.steps holds.is_honest (long g old) there.states n.base there.stands.goal (subst (λ (k : Layout). Assigns k (g.history old.disk) there.states) h.engine.layout there.assigns) there.stands.checkpoint are_at

      -- during the call, and where it failed, it stands as it did
      stands_during : StandsAs n (long g old) c old.log there.blocks there.sealed moving.states
      stands_during =
          stands_at_stage n n.facts.stage (long g old) c c.stage old.log there.blocks there.sealed there.states moving.states there.stands.goal there.stands moving.during_is there.stands.toward
          (apart (places old) old.log (c.base.position + 1) there.blocks there.sealed there.states moving.states moving.elsewhere there.stands.log_is)

      long_stays : length (stable (g.history dk)) ≡ (long g old)
      long_stays = sized dk (h.call.stays_honest holds.is_honest) ∙ h.call.same_size ∙ sym (sized old.disk holds.is_honest)

      images : (image : List ℕ) → IsImage (g.history dk) image → IsFrontAt Means n image
      images = fronts_of law n (g.history dk) (long g old) c old.log there.blocks there.sealed moving.states holds.node stands_during long_stays moving.reaches.images

      left_leaves : LeavesOnly (g.history old.disk) (g.history dk) (IsFrontAt Means n)
      left_leaves = leaves_weaker (g.history old.disk) (g.history dk) images moving.reaches.moments

      steps : Steps n (Flush page) Wrote m
      steps = done_steps n (Flush page) (stopped_not h.runs) (at_node ∙ none)

      halts : Rises (g.failures old.disk) (g.failures dk) → Steps n (Flush page) (Refused DiskFault) (halted_node (g.failures dk) n)
      halts rises = fault_steps n (Flush page) (g.failures dk) (stopped_not h.runs) (at_node ∙ none) refl (subst (λ k. Rises k (g.failures dk)) (sym (ap (λ (t : Standing). t.failures) holds.facts)) rises)

      holds_done : CheckpointIs (long g old) (flushed page c) n.base there.stands.goal moving.states → Assigns (places old) (g.history dk) moving.states → d ≡ flushed page c → g.failures dk ≡ g.failures old.disk → hl ≡ None
          → (m : Node) × Steps n (Flush page) Wrote m × Holds g m to
      holds_done is assigns same rose still = (
        m,
        steps,
        record {
          is_honest = h.call.stays_honest holds.is_honest;
          facts = ap (λ (t : Standing). after t (Flush page) (found n (Flush page))) holds.facts ∙ sym (facts_flushed (found n (Flush page)) h.runs same rose still);
          node = nodes n m (Flush page) Wrote holds.node steps;
          runs = λ on. record {
            states = moving.states;
            assigns = subst (λ (k : Layout). Assigns k (g.history dk) moving.states) (sym h.engine.layout) assigns;
            blocks = there.blocks;
            sealed = there.sealed;
            stands = subst (λ (k : Checkpoint). StandsAs m (length (stable (g.history dk))) k old.log there.blocks there.sealed moving.states) (sym same)
                (subst (λ i. StandsAs m i (flushed page c) old.log there.blocks there.sealed moving.states) (sym long_stays)
                (stands_at_stage n m.facts.stage (long g old) c (flushed_in page c.stage) old.log there.blocks there.sealed moving.states moving.states there.stands.goal stands_during is
                (λ other part e.
                let before = flushed_toward page c.stage other part e in
                subst (λ b. IsLedTo n old.log there.blocks b there.stands.goal) (sym before.2) (there.stands.toward before.0 part before.1)) stands_during.log_is));
            versions = there.versions;
            gates = there.gates;
          };
          images = λ image at. same_front n m image refl refl refl refl refl (images image at);
        },
      )

      holds_halted : d ≡ c → Rises (g.failures old.disk) (g.failures dk) → hl ≡ Some old.log.phase → (m : Node) × Steps n (Flush page) (Refused DiskFault) m × Holds g m to
      holds_halted same rises still = (
        halted_node (g.failures dk) n,
        halts rises,
        record {
          is_honest = h.call.stays_honest holds.is_honest;
          facts = rw holds.facts (rw same (rw still (rw h.runs refl)));
          node = nodes n (halted_node (g.failures dk) n) (Flush page) (Refused DiskFault) holds.node (halts rises);
          runs = λ on. let never : Some old.log.phase ≡ None = sym still ∙ on in absurd cc;
          images = λ image at. same_front n (halted_node (g.failures dk) n) image refl refl refl refl refl (images image at);
        },
      )

-- ---- how a flush comes out

only_not_due : (page : ℕ) (stage : Stage) (r : Refusal) → flush_refusal_at (stage_in stage) page ≡ Some r → r ≡ NotDue
only_not_due page Off r e = cc
only_not_due page (Toward next Flushing) r e = by (list_any (λ (p : ℕ). p == page) next.left) e
  where
    by : (b : Bool) → (if b then None else Some NotDue) ≡ Some r → r ≡ NotDue
    by true e = absurd cc
    by false e = cc
only_not_due page (Toward next Saving) r e = cc
only_not_due page (Toward next Ready) r e = cc
only_not_due page (Toward next SuperFilling) r e = cc
only_not_due page (Toward next SuperFilled) r e = cc
only_not_due page (Toward next SuperOpening) r e = cc
only_not_due page (Retiring written) r e = cc

module _ {D : Type 0} (g : Ghosts D) (sized : (disk : D) → g.honest disk → length (stable (g.history disk)) ≡ g.size disk) (laws : TheStageIsTheFacts)
    (old : Engine D) (dk : D) (d : Checkpoint) (hl : Option Phase) (page : ℕ) (result : Result (Unit {0}) Refusal) (h : IsFlushed g old dk d hl page result) where
  abbrev into : Engine D
  into = record old { disk = dk; checkpoint = d; halted = hl }

  moves_by : (o : Option Refusal) → flush_refusal_at (stage_of old.checkpoint) page ≡ o → Moves (facts_of g old) (Flush page) (wrote result) (facts_of g into)
  moves_by None none = left_moves g sized laws old dk d hl page result h none
  moves_by (Some r) some = other_moves g sized laws old dk d hl page result h r (only_not_due page old.checkpoint.stage r some) some

  left_by : (o : Option Refusal) → flush_refusal_at (stage_of old.checkpoint) page ≡ o → IfErr result (λ e. (e ≡ DiskFault) ⊎ (((e ≡ Corrupt Pages) × (into ≡ record old { disk = dk })) ⊎ (into ≡ old)))
  left_by None none = left_due g sized laws old dk d hl page result h none
  left_by (Some r) some = left_other g sized laws old dk d hl page result h r (only_not_due page old.checkpoint.stage r some) some

  pub flush_left : IfErr result (λ e. (e ≡ DiskFault) ⊎ (((e ≡ Corrupt Pages) × (into ≡ record old { disk = dk })) ⊎ (into ≡ old)))
  flush_left = left_by (flush_refusal_at (stage_of old.checkpoint) page) refl

  pub flush_stops : IfErr result (λ e. e ≡ DiskFault → into ≡ record old { disk = dk; halted = Some old.log.phase })
  flush_stops = stays_stopped old into result refl h.halted h.unchanged

  spelled_by : (o : Option Refusal) → flush_refusal_at (stage_of old.checkpoint) page ≡ o
      → g.honest old.disk → IsPageReadable old.layout (g.history old.disk) old.checkpoint.base page → FlushesAsSpelled old.layout old.checkpoint.base old.kept (position_in old.checkpoint.stage) page (g.history old.disk) (g.history dk) result
  spelled_by None none = spelled_due g sized laws old dk d hl page result h none
  spelled_by (Some r) some = spelled_other g sized laws old dk d hl page result h r (only_not_due page old.checkpoint.stage r some) some

  pub flush_spelled : g.honest old.disk → IsPageReadable old.layout (g.history old.disk) old.checkpoint.base page → FlushesAsSpelled old.layout old.checkpoint.base old.kept (position_in old.checkpoint.stage) page (g.history old.disk) (g.history dk) result
  flush_spelled = spelled_by (flush_refusal_at (stage_of old.checkpoint) page) refl

  pub flush_moves : Moves (facts_of g old) (Flush page) (wrote result) (facts_of g into)
  flush_moves = moves_by (flush_refusal_at (stage_of old.checkpoint) page) refl

  module _ (n : Node) (holds : Holds g n old) (nodes : NodesStayNodes) (law : NodesLeaveTheirFronts) (apart : TheCheckpointIsApart) (lead : VersionsLeadToTheState) where
    leaves_by : (o : Option Refusal) → flush_refusal_at (stage_of old.checkpoint) page ≡ o → LeavesOnly (g.history old.disk) (g.history dk) (IsFrontAt Means n)
    leaves_by None none = left_leaves g sized laws old dk d hl page n holds nodes law apart lead result h none
    leaves_by (Some r) some =
        let nothing = nothing_done g sized laws old dk d hl page result h r (only_not_due page old.checkpoint.stage r some) some in
        subst (λ (e : Engine D). LeavesOnly (g.history old.disk) (g.history e.disk) (IsFrontAt Means n)) (sym nothing.1) (record { later = omega arith; since = λ t image le since. inl since })

    pub flush_leaves : LeavesOnly (g.history old.disk) (g.history dk) (IsFrontAt Means n)
    flush_leaves = leaves_by (flush_refusal_at (stage_of old.checkpoint) page) refl

-- where the page is left
left_holds : {D : Type 0} (g : Ghosts D) (sized : (disk : D) → g.honest disk → length (stable (g.history disk)) ≡ g.size disk) (laws : TheStageIsTheFacts)
    (old : Engine D) (dk : D) (d : Checkpoint) (hl : Option Phase) (page : ℕ) (result : Result (Unit {0}) Refusal) → IsFlushed g old dk d hl page result
    → NodesStayNodes → NodesLeaveTheirFronts → TheCheckpointIsApart → VersionsLeadToTheState → (n : Node) → Holds g n old → flush_refusal_at (stage_of old.checkpoint) page ≡ None
    → (m : Node) × Steps n (Flush page) (wrote result) m × Holds g m (record old { disk = dk; checkpoint = d; halted = hl })
left_holds g sized laws old dk d hl page (Ok x) h nodes law apart lead n holds none =
    let on = moving g sized laws old dk d hl page n holds nodes law apart lead (Ok x) h none in
    let did = goes g sized laws old dk d hl page n holds nodes law apart lead (Ok x) h none in
    holds_done g sized laws old dk d hl page n holds nodes law apart lead (Ok x) h none on.after_is on.reaches.ok did.done (h.call.no_cause refl) h.halted
left_holds g sized laws old dk d hl page (Err e) h nodes law apart lead n holds none =
    let did = goes g sized laws old dk d hl page n holds nodes law apart lead (Err e) h none in
    let there_now = holds.runs h.runs in
    elim did.fault.0 [
      | inl fault ↦
          let call = subst (λ (r : Refusal). Calls g old.disk dk (fault_of {T = Unit {0}} (Err r))) fault h.call in
          let still = subst (λ (r : Refusal). hl ≡ halted_by {T = Unit {0}} old.log.phase (Err r)) fault h.halted in
          let came = holds_halted g sized laws old dk d hl page n holds nodes law apart lead (Err e) h none did.fault.1 (call.cause refl) still in
          (came.0, subst (λ (r : Refusal). Steps n (Flush page) (Refused r) came.0) (sym fault) came.1, came.2)
      | inr bad ↦
          absurd (did.whole holds.is_honest (length (stable (g.history old.disk))) there_now.states n.base there_now.stands.goal (subst (λ (k : Layout). Assigns k (g.history old.disk) there_now.states) h.engine.layout there_now.assigns) there_now.stands.checkpoint (ap Err bad))
    ]

pub flush_holds : {D : Type 0} (g : Ghosts D) (sized : (disk : D) → g.honest disk → length (stable (g.history disk)) ≡ g.size disk) (laws : TheStageIsTheFacts)
    (old : Engine D) (dk : D) (d : Checkpoint) (hl : Option Phase) (page : ℕ) (result : Result (Unit {0}) Refusal) → IsFlushed g old dk d hl page result
    → NodesStayNodes → NodesLeaveTheirFronts → TheCheckpointIsApart → VersionsLeadToTheState → (n : Node) → Holds g n old → (o : Option Refusal) → flush_refusal_at (stage_of old.checkpoint) page ≡ o
    → (m : Node) × Steps n (Flush page) (wrote result) m × Holds g m (record old { disk = dk; checkpoint = d; halted = hl })
flush_holds g sized laws old dk d hl page result h nodes law apart lead n holds None none = left_holds g sized laws old dk d hl page result h nodes law apart lead n holds none
flush_holds g sized laws old dk d hl page result h nodes law apart lead n holds (Some r) some = other_holds g sized laws old dk d hl page n holds result h r (only_not_due page old.checkpoint.stage r some) some

-- ---- no page has so great a number

few_pages : (p : Setting) → is_setting p ≡ true → pages_of p.rows ≤ MAX_PAGES
few_pages p allowed = grind (arith, nat_tests)

too_far_by : (places : RowPlacesAreTold) (b : SuperBody) (to : Next) (page : ℕ) → IsTrue (is_setting b.params) → IsNext b to → 4294967296 ≤ page → (t : Bool) → is_in to.left page ≡ t → t ≡ false
too_far_by places b to page allowed follows far true is =
    let first = follows.pages page is in
    let inside = places.within b.params.rows first.0 first.1.row in
    absurd (omega (arith, inside, ap (λ (r : RowPlace). r.page) first.1.there, few_pages b.params allowed, far))
too_far_by places b to page allowed follows far false is = refl

pub too_far : (places : RowPlacesAreTold) (b : SuperBody) (stage : Stage) (page : ℕ) → IsCheckpoint (record { base = b; stage = stage }) → 4294967296 ≤ page → flush_refusal_at (stage_in stage) page ≡ Some NotDue
too_far places b Off page h far = refl
too_far places b (Toward next Flushing) page h far = ap (λ t. if t then None else Some NotDue) (too_far_by places b next page h.is_super.setting h.going far (is_in next.left page) refl)
too_far places b (Toward next Saving) page h far = refl
too_far places b (Toward next Ready) page h far = refl
too_far places b (Toward next SuperFilling) page h far = refl
too_far places b (Toward next SuperFilled) page h far = refl
too_far places b (Toward next SuperOpening) page h far = refl
too_far places b (Retiring written) page h far = refl

pub far_steps : {D : Type 0} (g : Ghosts D) (places : RowPlacesAreTold) (old : Engine D) (page : ℕ) (n : Node) → Holds g n old → old.halted ≡ None → IsCheckpoint old.checkpoint → 4294967296 ≤ page
    → Steps n (Flush page) (Refused NotDue) n
far_steps g places old page n holds runs h far =
    refused_steps n (Flush page) NotDue (ap (λ (t : Standing). t.stopped) holds.facts ∙ ap is_some runs) (ap (λ (t : Standing). refusal_here t (Flush page)) holds.facts ∙ too_far places old.checkpoint.base old.checkpoint.stage page h far)
