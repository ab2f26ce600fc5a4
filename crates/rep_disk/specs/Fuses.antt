-- What the disks that fail some calls on purpose show, and one on a file.
use Rattle.std.specs.Prelude.{◌≡◌, ◌↔◌, ℕ, zero, suc, ◌+◌, ◌-◌, Bool, true, false, Option, None, Some, Result, Ok, Err, IsErr}
use Rattle.rep_disk.specs.declared.disk.DiskFault.{DiskFault}
use Rattle.rep_disk.specs.declared.file.FileDisk.{FileDisk}
use Rattle.rep_disk.specs.declared.faulty.Call.{Call}
use Rattle.rep_disk.specs.declared.faulty.Call.TheVariants.{Read, Write, Sync}
use Rattle.rep_disk.specs.declared.faulty.FaultyDisk.{FaultyDisk}
use Rattle.rep_disk.specs.declared.fuse.Fuse.{Fuse}
use Rattle.rep_disk.specs.declared.fault_once.Once.{Once}
use Rattle.rep_disk.specs.declared.held.Held.{Held}
use Rattle.rep_disk.specs.Calls.{IsCall, capped}

-- A call that fails on purpose answers a fault and leaves the disk inside untouched.
pub record IsRefused {D T : Type 0} (old new : D) (result : Result T DiskFault) : Type 0 where
  pub fault : IsErr result
  pub untouched : new ≡ old

-- Where the faults say so a call is refused, and any other is one of the disk inside.
pub record FailsAs {D F T : Type 0} (says : F → Call → Bool → F → Type 0) (call : Call) (before after : F) (size failures : D → ℕ) (honest : D → Type 0) (old new : D) (result : Result T DiskFault) : Type 0 where
  pub fails : Bool
  pub said : says before call fails after
  pub refused : fails ≡ true → IsRefused old new result
  pub passed : (fails ≡ true → ⊥) → IsCall size failures honest old new result

-- the disk inside
abbrev pub inside_of : {D F : Type 0} → FaultyDisk D F → D
inside_of disk = disk.inner

-- its faults
abbrev pub faults_of : {D F : Type 0} → FaultyDisk D F → F
faults_of disk = disk.faults

-- how many calls it refused
abbrev pub refusals_of : {D F : Type 0} → FaultyDisk D F → ℕ
refusals_of disk = disk.refusals

-- how many calls a fuse still passes
abbrev pub calls_left : Fuse → ℕ
calls_left fuse = fuse.calls_left

-- It fails a call where it passes none any more, and else passes one less.
abbrev pub BurnsDown : ℕ → ℕ → Bool → Type 0
BurnsDown old new fails = ((fails ≡ true) ↔ (old ≡ 0)) × (new ≡ old - 1)

-- how many calls it passes before the one that fails; None once that one came
abbrev pub calls_before : Once → Option ℕ
calls_before once = once.calls_before

-- one call less
abbrev pub counted_down : Option ℕ → Option ℕ
counted_down None = None
counted_down (Some zero) = None
counted_down (Some (suc n)) = Some n

-- It fails the call before which it passes none.
abbrev pub CountsDown : Option ℕ → Option ℕ → Bool → Type 0
CountsDown old new fails = ((fails ≡ true) ↔ (old ≡ Some 0)) × (new ≡ counted_down old)

-- what lets its writes go
abbrev pub hold_of : {H : Type 0} → Held H → H
hold_of held = held.hold

-- It may fail a write, and nothing else.
abbrev pub HoldsBack : Call → Bool → Type 0
HoldsBack Read fails = fails ≡ false
HoldsBack Write fails = Unit {0}
HoldsBack Sync fails = fails ≡ false

-- how often a disk on a file has failed
abbrev pub file_failures : {F : Type 0} → FileDisk F → ℕ
file_failures disk = disk.failures

-- the file
abbrev pub file_inside : {F : Type 0} → FileDisk F → F
file_inside disk = disk.file

-- the size that was found or asked for
abbrev pub file_size : {F : Type 0} → FileDisk F → ℕ
file_size disk = disk.size

-- whether a sync of it has failed
abbrev pub file_lost : {F : Type 0} → FileDisk F → Bool
file_lost disk = disk.lost

-- how many of its syncs ended well
abbrev pub file_syncs : {F : Type 0} → FileDisk F → ℕ
file_syncs disk = disk.syncs

-- how many they are behind one that ended so
abbrev pub syncs_behind : ℕ → Result (Unit {0}) DiskFault → ℕ
syncs_behind syncs (Ok x) = capped (syncs + 1)
syncs_behind syncs (Err e) = syncs
