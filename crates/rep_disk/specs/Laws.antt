-- What follows from histories alone.
use Rattle.std.specs.Prelude.{◌≡◌, ◌↔◌, ◌⊎◌, ℕ, ◌+◌, ◌≤◌, List, length}
use Rattle.rep_disk.specs.Bytes.{part, Untouched}
use Rattle.rep_disk.specs.History.{History, Wrote, Spoiled, Synced, seen, stable, pending, IsImage}
use Rattle.rep_disk.specs.Moments.{moment, IsNext, ImageSince, LeavesOnly}

-- The images of a moment: what the disk reads as is one, the last stable bytes are one, and each has those in each range
-- that the pending ones lie apart from.
pub record ImagesOfAMoment : Type 0 where
  pub seen_is_one : (h : History) → IsImage h (seen h)
  pub stable_is_one : (h : History) → IsImage h (stable h)
  pub same_size : (h : History) (image : List ℕ) → IsImage h image → length image ≡ length (seen h)
  pub same_part : (h : History) (image : List ℕ) (at n : ℕ) → IsImage h image → Untouched (pending h) at n → at + n ≤ length (stable h) → part at n image ≡ part at n (stable h)

-- What calls do to the images of a moment: a sync leaves one, and makes none new; a write takes none away, a failed one
-- neither.
pub record ImagesAfterACall : Type 0 where
  pub one_after_sync : (h : History) (image : List ℕ) → IsImage (Synced h) image ↔ (image ≡ seen h)
  pub sync_makes_none : (h : History) (image : List ℕ) → IsImage (Synced h) image → IsImage h image
  pub write_takes_none : (h : History) (at : ℕ) (bytes image : List ℕ) → IsImage h image → IsImage (Wrote at bytes h) image
  pub spoil_takes_none : (h : History) (at : ℕ) (junk image : List ℕ) → IsImage h image → IsImage (Spoiled at junk h) image

-- What calls leave at each moment. Of one moment these are its images. A call leaves those at its start and those at its end, and
-- adds only the latter. What calls after one another leave follows from what each adds, by what LeavesOnly says.
pub record MomentsOfCalls : Type 0 where
  pub of_none : (h : History) (image : List ℕ) → ImageSince h (moment h) image ↔ IsImage h image
  pub of_one : (old new : History) (image : List ℕ) → IsNext old new → ImageSince new (moment old) image ↔ (IsImage old image ⊎ IsImage new image)
  pub adds : (old new : History) → IsNext old new → LeavesOnly old new (IsImage new)
