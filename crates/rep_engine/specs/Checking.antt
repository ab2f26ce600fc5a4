-- How a checkpoint begins, and goes on.
use Rattle.std.specs.Prelude.{◌≡◌, ◌⊎◌, ℕ, ◌<◌, ◌≤◌, nat_le, true, false, List, Option, None, Some, Result, Ok, Err, IfOk, IfErr, IfSome, OnErr}
use Rattle.rep_types.specs.declared.refusal.Refusal.{Refusal}
use Rattle.rep_types.specs.declared.refusal.Refusal.TheVariants.{NotDue, OutOfMemory}
use Rattle.rep_types.specs.declared.item.Item.{Item}
use Rattle.rep_types.specs.Windows.{Window}
use Rattle.rep_types.specs.Items.{IsWithin}
use Rattle.rep_types.specs.Settings.{Setting}
use Rattle.rep_cert.specs.Holdings.{Holding, IsAskable, Admits, window_of, made_at}
use Rattle.rep_disk.specs.declared.disk.Disk.{Ghosts}
use Rattle.rep_disk.specs.Devices.{Calls}
use Rattle.rep_layout.specs.Windows.{IsWindowAt}
use Rattle.rep_versions.specs.Versions.{Kept, ArePages}
use Rattle.rep_log.specs.Standing.{Standing as Log}
use Rattle.rep_log.specs.Moves.{fault_of}
use Rattle.rep_steps.specs.declared.answer.Answer.{Answer}
use Rattle.rep_steps.specs.declared.answer.Answer.TheVariants.{Began, Wrote, Refused}
use Rattle.rep_checkpoint.specs.Standing.{Standing as Checkpoint}
use Rattle.rep_checkpoint.specs.Moves.{begun, next_of, next_refusal}
use Rattle.rep_checkpoint.specs.Calls.{IsRefused, GoesOn, Begins as BeginsAt}
use Rattle.rep_engine.specs.Engines.{Engine, durable_of}
use Rattle.rep_engine.specs.Reading.{halted_by}

-- What the caller owes: the certifier holds the window at what is durable, and a superblock of these parameters can be written with
-- that window beside it.
pub record HoldsWindow (p : Setting) (durable : ℕ) (h : Holding) : Type 0 where
  pub askable : IsAskable h durable
  pub window : IsWindowAt p durable (window_of h durable)

-- a check's answer, as a replica gives it
abbrev pub checked : Result (Option ℕ) Refusal → Answer
checked (Ok (Some position)) = Began position
checked (Ok None) = Wrote
checked (Err r) = Refused r

-- A checkpoint began, to what is durable, and says so: pages with a change since the base are left, and the window is the certifier's
-- there.
pub record HasBegun (h : Holding) (log : Log) (kept : Kept) (old new : Checkpoint) (answer : Option ℕ) : Type 0 where
  pub says : answer ≡ Some (durable_of log)
  pub later : old.base.position < durable_of log
  pub left : List ℕ
  pub pages : ArePages kept old.base.params.rows old.base.position (durable_of log) left
  pub checkpoint : new ≡ begun old (durable_of log) log.next (window_of h (durable_of log)) left
  pub begins : BeginsAt kept old new (next_of old.base (durable_of log) log.next (window_of h (durable_of log)) left)

-- What a beginning comes to: it is refused where the base stands at what is durable, and else for memory alone.
pub record Begins (h : Holding) (log : Log) (kept : Kept) (old new : Checkpoint) (result : Result (Option ℕ) Refusal) : Type 0 where
  pub begun : IfOk result (HasBegun h log kept old new)
  pub refused : IfErr result (λ e. (new ≡ old) × (((e ≡ NotDue) × (nat_le (durable_of log) old.base.position ≡ true)) ⊎ ((e ≡ OutOfMemory) × (nat_le (durable_of log) old.base.position ≡ false))))

-- A checkpoint under way went on by a write, or was refused. Where the device failed, the engine is stopped.
pub record WentOn {D : Type 0} (g : Ghosts D) (old new : Engine D) (result : Result (Unit {0}) Refusal) : Type 0 where
  pub call : Calls g old.disk new.disk (fault_of result)
  pub rest : new ≡ record old { disk = new.disk; checkpoint = new.checkpoint; halted = halted_by old.log.phase result }
  pub refused : IfSome (next_refusal old.layout old.checkpoint) (λ e. IsRefused e old.checkpoint new.checkpoint old.disk new.disk result)
  pub goes : next_refusal old.layout old.checkpoint ≡ None → GoesOn g old.layout old.checkpoint new.checkpoint old.disk new.disk result
  pub unchanged : OnErr result (new.checkpoint ≡ old.checkpoint)

-- Each window that the certifier can be asked for can be written.
abbrev pub HoldsWindows : Holding → Type 0
HoldsWindows h = (k : ℕ) → IsAskable h k → IsWindowAt h.setting k (window_of h k)

-- A certifier that was made with a window has it at its position, and holds windows; and so it does with each further item.
pub record CertifiersHoldWindows : Type 0 where
  pub first : (p : Setting) (position : ℕ) (v : Window) → IsWindowAt p position v → window_of (made_at p position v) position ≡ v
  pub made : (p : Setting) (position : ℕ) (v : Window) → IsWindowAt p position v → HoldsWindows (made_at p position v)
  pub admits : (h new : Holding) (i : Item) → h.made ≤ h.delivered → IsWithin i → HoldsWindows h → Admits h i new → HoldsWindows new
