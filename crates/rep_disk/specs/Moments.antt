-- The moments of a disk: one at each of its histories, from the first on.
use Rattle.std.specs.Prelude.{ℕ, suc, ◌≤◌, ◌⊎◌, List}
use Rattle.rep_disk.specs.History.{History, Begins, Wrote, Spoiled, Synced, IsImage}

-- the moment, as a number
abbrev pub moment : History → ℕ
moment (Begins bytes) = 0
moment (Wrote at bytes h) = suc (moment h)
moment (Spoiled at junk h) = suc (moment h)
moment (Synced h) = suc (moment h)

-- What one call makes of a history: a read or a failed sync nothing, a write or its failure, a sync.
pub data IsNext (old : History) : History → Type 0 where
  Stays : IsNext old old
  Writes : (at : ℕ) (bytes : List ℕ) → IsNext old (Wrote at bytes old)
  Spoils : (at : ℕ) (junk : List ℕ) → IsNext old (Spoiled at junk old)
  Syncs : IsNext old (Synced old)

-- What a stop may have left at some moment from this one on, up to now, during a call or between two.
abbrev pub ImageSince : History → ℕ → List ℕ → Type 0
ImageSince (Begins bytes) t image = IsImage (Begins bytes) image
ImageSince (Wrote at bytes h) t image = IsImage (Wrote at bytes h) image ⊎ ((t ≤ moment h) × ImageSince h t image)
ImageSince (Spoiled at junk h) t image = IsImage (Spoiled at junk h) image ⊎ ((t ≤ moment h) × ImageSince h t image)
ImageSince (Synced h) t image = IsImage (Synced h) image ⊎ ((t ≤ moment h) × ImageSince h t image)

-- From old to new each moment leaves images that have P: what new may have left since a moment up to old is what old may
-- have left since then, or has P.
pub record LeavesOnly (old new : History) (P : List ℕ → Type 0) : Type 0 where
  pub later : moment old ≤ moment new
  pub since : (t : ℕ) (image : List ℕ) → t ≤ moment old → ImageSince new t image → ImageSince old t image ⊎ P image
