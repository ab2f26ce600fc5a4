-- How a node ends that follows an order.
use Rattle.std.specs.Prelude.{◌≡◌, ℕ, ◌<◌, Bool, true, false, List, [], length, Option, Result, Ok, Err, IfErr, OnOk}
use Rattle.rep_types.specs.declared.refusal.Refusal.{Refusal}
use Rattle.rep_types.specs.declared.refusal.Refusal.TheVariants.{OutOfOrder, Malformed, Exhausted}
use Rattle.rep_disk.specs.declared.disk.Disk.{Ghosts}
use Rattle.rep_replica.specs.Replicas.{Replica, facts_of}
use Rattle.rep_replica.specs.Settling.{is_quiet}
use Rattle.rep_script.specs.Scripts.{IsOpening}
use Rattle.rep_service.specs.Living.{FollowsText}

-- whether the refusal is one of a line, behind all that came before it
abbrev pub is_of_line : Refusal → Bool
is_of_line (OutOfOrder n) = true
is_of_line (Malformed n) = true
is_of_line Exhausted = true
is_of_line e = false

-- How a text ends: where bytes without a line feed are left it is malformed there, and nothing is done; else the node is quiet where it ends well.
pub record EndsText {D : Type 0} (g : Ghosts D) (left : List ℕ) (number : ℕ) (old new : Replica D) (before after : Option (List ℕ)) (result : Result (Unit {0}) Refusal) : Type 0 where
  pub cut : 0 < length left → (result ≡ Err (Malformed number)) × (new ≡ old) × (after ≡ before)
  pub quiet : OnOk result (is_quiet (facts_of g new) ≡ true)

-- Where a node ended well, all that was delivered is durable, and no checkpoint is under way; where it ended at a line, all that came before is durable.
pub record EndsWell {D : Type 0} (g : Ghosts D) (last : Replica D) (result : Result (Unit {0}) Refusal) : Type 0 where
  pub quiet : OnOk result (is_quiet (facts_of g last) ≡ true)
  pub told : IfErr result (λ e. is_of_line e ≡ true → (facts_of g last).ahead ≡ [])

-- How a node ended that goes on behind this opening, and the disk that came back; and what was delivered to the replica that was opened: items of the
-- lines of the text.
abbrev pub EndsBehind : {D : Type 0} → Ghosts D → Result (Replica D) (D × Refusal) → Option (List ℕ) → D → Option (List ℕ) → Option (List ℕ) → Result (Unit {0}) Refusal → Type 0
EndsBehind g (Ok first) text new before after result = (last : _) × (new ≡ last.engine.disk) × EndsWell g last result × FollowsText g first last text before after result
EndsBehind g (Err x) text new before after result = (new ≡ x.0) × (result ≡ Err x.1) × (after ≡ before)

-- How a node ended on a disk, and the disk that came back: where the opening was refused, what came back there; else that of the last replica; where it
-- ended well, all that was delivered is durable there, and no checkpoint is under way.
pub record EndsOnDisk {D : Type 0} (g : Ghosts D) (old : D) (text : Option (List ℕ)) (new : D) (before after : Option (List ℕ)) (result : Result (Unit {0}) Refusal) : Type 0 where
  pub opening : Result (Replica D) (D × Refusal)
  pub is_opening : IsOpening g old opening
  pub ends : EndsBehind g opening text new before after result
