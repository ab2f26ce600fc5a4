-- An engine stays one where its checkpoint is at another stage, and where its log goes on.
use Rattle.std.proofs.Common.{◌≡◌, ◌⊎◌, inl, inr, ℕ, ◌+◌, ◌≤◌, List, Option, None, Some, Result, IfSome, refl, sym, subst, ◌∙◌, arith}
use Rattle.rep_types.specs.declared.judged.Judged.{Judged}
use Rattle.rep_types.specs.declared.refusal.Refusal.{Refusal}
use Rattle.rep_layout.specs.declared.place.Layout.{Layout}
use Rattle.rep_versions.specs.Versions.{Kept}
use Rattle.rep_log.specs.Standing.{Standing as Log, busy}
use Rattle.rep_steps.specs.Standings.{Stage, Off, Toward, Retiring, HasGoal}
use Rattle.rep_checkpoint.specs.declared.stage.Stage.{Stage as Stages}
use Rattle.rep_checkpoint.specs.Standing.{Standing as Checkpoint, IsCheckpoint, stage_in, stage_of}
use Rattle.rep_checkpoint.specs.Calls.{IsRefused}
use Rattle.rep_engine.specs.Engines.{IsEngine, IsWhole, HasItemsBehind, durable_of}

-- there are no more blocks than items where no more blocks came than items
pub behind_more : (stage : Stage) (log more : Log) → more.next + log.seqno ≤ log.next + more.seqno → HasItemsBehind stage log → HasItemsBehind stage more
behind_more Off log more le h = tt
behind_more (Toward goal part) log more le h = omega (arith, h, le)
behind_more (Retiring written) log more le h = tt

-- a goal within what is durable stays within more
pub further : (base : ℕ) {durable more start begun next later : ℕ} → (stage : Stage) → durable ≤ more → start ≡ begun → next ≤ later → HasGoal base durable start next stage → HasGoal base more begun later stage
further base Off up same on h = tt
further base (Toward goal part) up same on h = record { above = h.above; within = omega (arith, h.within, up); started = omega (arith, h.started, same); begun = omega (arith, h.begun, on) }
further base (Retiring written) up same on h = tt

module _ (l : Layout) (c : Checkpoint) (log : Log) (kept : Kept) (block : List Judged) (h : IsEngine l c log kept block) where
  -- where its checkpoint is at another stage
  pub with_stage : (next : Stages) → IsCheckpoint (record c { stage = next }) → HasGoal c.base.position (durable_of log) log.start log.next (stage_in next) → HasItemsBehind (stage_in next) log → IsEngine l (record c { stage = next }) log kept block
  with_stage next is goal behind = search

  -- where no block becomes durable
  pub with_log : (next : Log) → next.cells ≡ log.cells → next.start ≡ log.start → next.seqno ≡ log.seqno → next.next ≡ log.next → next.next + busy next.phase ≤ log.start + log.cells → IsWhole next.phase block → IsEngine l c next kept block
  with_log next cells start seqno number room whole = record {
    checkpoint = h.checkpoint;
    layout = h.layout;
    cells = cells ∙ h.cells;
    start = start ∙ h.start;
    behind = omega (arith, h.behind, seqno);
    begun = omega (arith, h.begun, start, number);
    room = omega (arith, room, start, cells);
    goal = further c.base.position (stage_of c) (omega (arith, seqno)) (sym start) (omega (arith, number)) h.goal;
    items = omega (arith, h.items, start, seqno, number);
    behind_goal = behind_more (stage_of c) log next (omega (arith, seqno, number)) h.behind_goal;
    follow = rw seqno h.follow;
    fits = h.fits;
    few = h.few;
    whole = whole;
    limit = omega (arith, h.limit, seqno);
    undefined = λ nil. (seqno ∙ (h.undefined nil).0, (h.undefined nil).1);
    within = rw seqno h.within;
  }

-- where a call took the checkpoint to that stage, or left it
pub stage_or_same : {D : Type 0} (l : Layout) (c d : Checkpoint) (next : Stages) (log : Log) (kept : Kept) (block : List Judged) (old disk : D) (result : Result (Unit {0}) Refusal) (o : Option Refusal) → IsEngine l c log kept block → IsCheckpoint d
    → HasGoal c.base.position (durable_of log) log.start log.next (stage_in next) × HasItemsBehind (stage_in next) log → IfSome o (λ e. IsRefused e c d old disk result) → (o ≡ None → (d ≡ c) ⊎ (d ≡ record c { stage = next })) → IsEngine l d log kept block
stage_or_same l c d next log kept block old disk result (Some e) h is goal refused goes = subst (λ (k : Checkpoint). IsEngine l k log kept block) (sym refused.checkpoint) h
stage_or_same l c d next log kept block old disk result None h is goal refused goes = elim (goes refl) [
  | inl same ↦ subst (λ (k : Checkpoint). IsEngine l k log kept block) (sym same) h
  | inr on ↦ subst (λ (k : Checkpoint). IsEngine l k log kept block) (sym on) (with_stage l c log kept block h next (subst IsCheckpoint on is) goal.0 goal.1)
]
