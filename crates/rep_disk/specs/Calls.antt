-- What each call of a disk does.
use Rattle.std.specs.Prelude.{◌≡◌, ℕ, min, ◌-◌, ◌^◌, ◌<◌, ◌⊎◌, List, length, Result, IsOk, IsErr, OnOk, OnErr}
use Rattle.rep_disk.specs.declared.disk.DiskFault.{DiskFault}
use Rattle.rep_disk.specs.History.{History, Wrote, Spoiled, Synced, Reads}

-- The count of failures rose. At the greatest number it stays there.
abbrev pub Rises : ℕ → ℕ → Type 0
Rises old new = (old < new) ⊎ ((old ≡ 2 ^ 64 - 1) × (new ≡ 2 ^ 64 - 1))

-- a count, or the greatest number where it is past that
abbrev pub capped : ℕ → ℕ
capped n = min n (2 ^ 64 - 1)

-- What any call does on any disk: the size stays, an honest disk stays honest and no other one becomes so, and exactly
-- where it answers an error the count of failures rises.
pub record IsCall {D T : Type 0} (size failures : D → ℕ) (honest : D → Type 0) (old new : D) (result : Result T DiskFault) : Type 0 where
  pub same_size : size new ≡ size old
  pub stays_honest : honest old → honest new
  pub was_honest : honest new → honest old
  pub cause : IsErr result → Rises (failures old) (failures new)
  pub no_cause : IsOk result → failures new ≡ failures old

-- After a failed write of n bytes: nothing happened, or the range holds some bytes, and is pending.
abbrev pub MaySpoil : ℕ → ℕ → History → History → Type 0
MaySpoil at n old new = (new ≡ old) ⊎ ((junk : List ℕ) × (length junk ≡ n) × (new ≡ Spoiled at junk old))

-- A read that gives these bytes: of an honest disk they are what was written, and nothing happens to it.
pub record IsRead {D : Type 0} (size failures : D → ℕ) (honest : D → Type 0) (history : D → History) (at : ℕ) (out : List ℕ) (old new : D) (result : Result (Unit {0}) DiskFault) : Type 0 where
  pub call : IsCall size failures honest old new result
  pub same : honest old → history new ≡ history old
  pub read : honest old → OnOk result (Reads (history old) at out)

-- A write of these bytes.
pub record IsWrite {D : Type 0} (size failures : D → ℕ) (honest : D → Type 0) (history : D → History) (at : ℕ) (bytes : List ℕ) (old new : D) (result : Result (Unit {0}) DiskFault) : Type 0 where
  pub call : IsCall size failures honest old new result
  pub written : honest old → OnOk result (history new ≡ Wrote at bytes (history old))
  pub spoiled : honest old → OnErr result (MaySpoil at (length bytes) (history old) (history new))

-- A sync.
pub record IsSync {D : Type 0} (size failures : D → ℕ) (honest : D → Type 0) (history : D → History) (old new : D) (result : Result (Unit {0}) DiskFault) : Type 0 where
  pub call : IsCall size failures honest old new result
  pub synced : honest old → OnOk result (history new ≡ Synced (history old))
  pub unsynced : honest old → OnErr result (history new ≡ history old)
