-- The log's next write: what it makes of the log, and of an engine.
use Rattle.std.proofs.Common.{◌≡◌, ℕ, ◌+◌, ◌<◌, ◌≤◌, Bool, true, false, cond, leb, List, [], length, take, None, Some, refl, sym, subst, arith}
use Rattle.std.proofs.lemmas.Bool.Decides.{nat_tests}
use Rattle.std.proofs.lemmas.List.{take_all}
use Rattle.std.specs.Prelude.{nat_le, ◌==◌, if◌then◌else◌}
use Rattle.rep_types.specs.declared.judged.Judged.{Judged}
use Rattle.rep_types.specs.declared.refusal.Refusal.TheVariants.{NotDue, LogFull}
use Rattle.rep_log.specs.declared.phase.Phase.{Phase}
use Rattle.rep_log.specs.declared.phase.Phase.TheVariants.{Resting, Closing, Filling, Filled, Opening}
use Rattle.rep_log.specs.declared.phase.Step.TheVariants.{Recycle, Seal, Full}
use Rattle.rep_log.specs.Standing.{Standing as Log, stands_at, index_of, due_in, due_of, busy}
use Rattle.rep_steps.specs.declared.event.Event.TheVariants.{Log as to_log}
use Rattle.rep_steps.specs.Standings.{gathered, log_refusal, underway}
use Rattle.rep_steps.specs.Moves.{Found, after, logged}
use Rattle.rep_engine.specs.Engines.{Engine, IsEngine, IsWhole, facts_of}
use Rattle.rep_engine.proofs.Going.{with_log}
use Rattle.rep_engine.specs.Writing.{IsWrite, written_in, coming_in}
use Rattle.rep_disk.specs.declared.disk.Disk.{Ghosts}

-- whether the next block's cell is live, and whether it stands open
abbrev pub is_live : Log → Bool
is_live log = leb (log.start + log.cells) log.next

abbrev pub is_stale : Log → Bool
is_stale log = stands_at log (index_of log)

-- the log with its next block so far
abbrev pub at_phase : Phase → Log → Log
at_phase phase log = record log { phase = phase }

-- ---- what is written

written_at_rest : (log : Log) (n : ℕ) (live stale : Bool) → IsWrite (cond live Full (cond stale Recycle Seal))
    → written_in (cond live Full (cond stale Recycle Seal)) n log ≡ at_phase (logged n stale Resting) log
written_at_rest log n true stale due = absurd due
written_at_rest log n false true due = refl
written_at_rest log n false false due = refl

written_by : (log : Log) (n : ℕ) (phase : Phase) → log.phase ≡ phase → IsWrite (due_in log phase) → written_in (due_in log phase) n log ≡ at_phase (logged n (is_stale log) phase) log
written_by log n Resting e due = written_at_rest log n (is_live log) (is_stale log) due
written_by log n Closing e due = absurd due
written_by log n (Filling k) e due = absurd due
written_by log n (Filled k) e due = rw e refl
written_by log n (Opening k) e due = absurd due

-- the log is then that of the next phase
pub written_is : (log : Log) (n : ℕ) → IsWrite (due_of log) → written_in (due_of log) n log ≡ at_phase (logged n (is_stale log) log.phase) log
written_is log n due = written_by log n log.phase refl due

-- and the records on their way are those of the block
coming_at_rest : (block sealed : List Judged) (live stale : Bool) → IsWrite (cond live Full (cond stale Recycle Seal)) → sealed ≡ []
    → coming_in (cond live Full (cond stale Recycle Seal)) block sealed ≡ take (underway (logged (length block) stale Resting)) block
coming_at_rest block sealed true stale due none = absurd due
coming_at_rest block sealed false true due none = none
coming_at_rest block sealed false false due none = sym (take_all (length block) block (omega arith))

pub coming_is : (log : Log) (block sealed : List Judged) (phase : Phase) → IsWrite (due_in log phase) → sealed ≡ take (underway phase) block
    → coming_in (due_in log phase) block sealed ≡ take (underway (logged (length block) (is_stale log) phase)) block
coming_is log block sealed Resting due is = coming_at_rest block sealed (is_live log) (is_stale log) due is
coming_is log block sealed Closing due is = absurd due
coming_is log block sealed (Filling k) due is = absurd due
coming_is log block sealed (Filled k) due is = is
coming_is log block sealed (Opening k) due is = absurd due

-- ---- when something is written

-- a block begins where something was gathered and its cell isn't live
free_by : (n : ℕ) (none live : Bool) → (if none then Some NotDue else if live then Some LogFull else None) ≡ None → (none ≡ false) × (live ≡ false)
free_by n true live e = absurd cc
free_by n false true e = absurd cc
free_by n false false e = (refl, refl)

write_at_rest : (live stale : Bool) → live ≡ false → IsWrite (cond live Full (cond stale Recycle Seal))
write_at_rest true stale e = absurd cc
write_at_rest false true e = tt
write_at_rest false false e = tt

module _ {D : Type 0} (g : Ghosts D) (e : Engine D) (h : IsEngine e.layout e.checkpoint e.log e.kept e.block) where
  record Free : Type 0 where
    some : 0 < length e.block
    room : e.log.next < e.log.start + e.log.cells

  free : log_refusal (facts_of g e) Resting ≡ None → Free
  free none =
      let tests = free_by 0 (gathered (facts_of g e) == 0) (nat_le (e.log.start + e.checkpoint.base.params.cells) e.log.next) none in
      let some : gathered (facts_of g e) ≡ length e.block = h.fits in
      record { some = grind (arith, nat_tests); room = grind (arith, nat_tests, h.cells) }

  write_by : (phase : Phase) → log_refusal (facts_of g e) phase ≡ None → IsWrite (due_in e.log phase)
  write_by Resting none =
      let room = (free none).room in
      write_at_rest (is_live e.log) (is_stale e.log) (grind (arith, nat_tests))
  write_by Closing none = absurd cc
  write_by (Filling k) none = absurd cc
  write_by (Filled k) none = tt
  write_by (Opening k) none = absurd cc

  -- where the log isn't refused, there is something to write
  pub is_write : log_refusal (facts_of g e) e.log.phase ≡ None → IsWrite (due_of e.log)
  is_write none = write_by e.log.phase none

  record Goes (phase : Phase) : Type 0 where
    room : e.log.next + busy phase ≤ e.log.start + e.log.cells
    whole : IsWhole phase e.block

  goes : (stale : Bool) (phase : Phase) → e.log.phase ≡ phase → log_refusal (facts_of g e) phase ≡ None → Goes (logged (length e.block) stale phase)
  goes true Resting at none = record { room = omega (arith, (free none).room); whole = (free none).some }
  goes false Resting at none = record { room = omega (arith, (free none).room); whole = record { all = refl; some = (free none).some } }
  goes stale Closing at none = absurd cc
  goes stale (Filling k) at none = absurd cc
  goes stale (Filled k) at none = record {
    room = subst (λ p. e.log.next + busy p ≤ e.log.start + e.log.cells) at h.room;
    whole = record { all = (subst (λ p. IsWhole p e.block) at h.whole).all; some = (subst (λ p. IsWhole p e.block) at h.whole).some };
  }
  goes stale (Opening k) at none = absurd cc

  -- what is so of an engine goes on being so
  pub engine_logged : (stale : Bool) → log_refusal (facts_of g e) e.log.phase ≡ None → IsEngine e.layout e.checkpoint (at_phase (logged (length e.block) stale e.log.phase) e.log) e.kept e.block
  engine_logged stale none =
      let on = goes stale e.log.phase refl none in
      with_log e.layout e.checkpoint e.log e.kept e.block h (at_phase (logged (length e.block) stale e.log.phase) e.log) refl refl refl refl on.room on.whole

-- the facts after it
pub facts_logged : {D : Type 0} (g : Ghosts D) (e new : Engine D) (f : Found) → e.halted ≡ None → new.halted ≡ None → gathered (facts_of g e) ≡ length e.block → g.failures new.disk ≡ g.failures e.disk
    → new.checkpoint ≡ e.checkpoint → new.block ≡ e.block → new.log ≡ at_phase (logged (length e.block) f.stale e.log.phase) e.log
    → facts_of g new ≡ after (facts_of g e) to_log f
facts_logged g e new f runs still fits rose same_checkpoint same_block log = rw log (rw same_checkpoint ((rw same_block (rw rose (rw still (rw fits (rw runs refl)))))))
