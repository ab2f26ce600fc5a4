-- The images since a moment, and what each moment of several calls leaves.
use Rattle.std.proofs.Common.{ℕ, ◌≤◌, ◌⊎◌, inl, inr, List, arith}
use Rattle.rep_disk.specs.History.{History, Begins, Wrote, Spoiled, Synced, IsImage}
use Rattle.rep_disk.specs.Moments.{moment, ImageSince, LeavesOnly, IsNext, Stays, Writes, Spoils, Syncs}

-- this moment is one of those since an earlier one
pub counts_now : (h : History) (t : ℕ) (image : List ℕ) → t ≤ moment h → IsImage h image → ImageSince h t image
counts_now (Begins bytes) t image late is = is
counts_now (Wrote at bytes h) t image late is = inl is
counts_now (Spoiled at junk h) t image late is = inl is
counts_now (Synced h) t image late is = inl is

-- since this moment there is no other
pub only_now : (h : History) (image : List ℕ) → ImageSince h (moment h) image → IsImage h image
only_now (Begins bytes) image is = is
only_now (Wrote at bytes h) image (inl is) = is
only_now (Wrote at bytes h) image (inr (late, is)) = absurd (omega arith)
only_now (Spoiled at junk h) image (inl is) = is
only_now (Spoiled at junk h) image (inr (late, is)) = absurd (omega arith)
only_now (Synced h) image (inl is) = is
only_now (Synced h) image (inr (late, is)) = absurd (omega arith)

-- the images of a call are those of its two moments
pub call_images : (old new : History) (image : List ℕ) → IsNext old new → ImageSince new (moment old) image → IsImage old image ⊎ IsImage new image
call_images old new image Stays is = inl (only_now old image is)
call_images old new image (Writes at bytes) (inl is) = inr is
call_images old new image (Writes at bytes) (inr (late, is)) = inl (only_now old image is)
call_images old new image (Spoils at junk) (inl is) = inr is
call_images old new image (Spoils at junk) (inr (late, is)) = inl (only_now old image is)
call_images old new image Syncs (inl is) = inr is
call_images old new image Syncs (inr (late, is)) = inl (only_now old image is)

-- and adds those at its end alone
pub call_adds : (old new : History) → IsNext old new → LeavesOnly old new (IsImage new)
call_adds old new Stays = record { later = omega arith; since = λ t image late is. inl is }
call_adds old new (Writes at bytes) = record { later = omega arith; since = λ t image late is. elim is [ inl now ↦ inr now | inr before ↦ inl before.1 ] }
call_adds old new (Spoils at junk) = record { later = omega arith; since = λ t image late is. elim is [ inl now ↦ inr now | inr before ↦ inl before.1 ] }
call_adds old new Syncs = record { later = omega arith; since = λ t image late is. elim is [ inl now ↦ inr now | inr before ↦ inl before.1 ] }

-- and those of its two moments are its images
pub within_call : (old new : History) (image : List ℕ) → IsNext old new → IsImage old image ⊎ IsImage new image → ImageSince new (moment old) image
within_call old new image Stays (inl is) = counts_now old (moment old) image (omega arith) is
within_call old new image Stays (inr is) = counts_now old (moment old) image (omega arith) is
within_call old new image (Writes at bytes) (inl is) = inr (omega arith, counts_now old (moment old) image (omega arith) is)
within_call old new image (Writes at bytes) (inr is) = inl is
within_call old new image (Spoils at junk) (inl is) = inr (omega arith, counts_now old (moment old) image (omega arith) is)
within_call old new image (Spoils at junk) (inr is) = inl is
within_call old new image Syncs (inl is) = inr (omega arith, counts_now old (moment old) image (omega arith) is)
within_call old new image Syncs (inr is) = inl is
