-- What a stop may leave, and what a read may give.
use Rattle.std.proofs.Common.{◌≡◌, ℕ, ◌+◌, ◌≤◌, inl, inr, List, [], ◌∷◌, length, get_or, refl, sym, ◌∙◌, arith}
use Rattle.std.proofs.lemmas.List.{same_lists, get_or_default}
use Rattle.rep_disk.specs.Bytes.{part, Untouched}
use Rattle.rep_disk.specs.History.{History, Begins, Wrote, Spoiled, Synced, seen, stable, pending, failed, IsImage, Reads}
use Rattle.rep_disk.proofs.Bytes.{length-put, get_or-put_apart, length-part, get_or-part, part_same}

-- what lies apart from some bytes lies apart from each part of them
pub untouched_part : (ranges : List (ℕ × ℕ)) (at n k m : ℕ) → at ≤ k → k + m ≤ at + n → Untouched ranges at n → Untouched ranges k m
untouched_part [] at n k m from to apart = tt
untouched_part (range ∷ ranges) at n k m from to (inl before, apart) = (inl (omega arith), untouched_part ranges at n k m from to apart)
untouched_part (range ∷ ranges) at n k m from to (inr behind, apart) = (inr (omega arith), untouched_part ranges at n k m from to apart)

-- the size stays
pub length-seen : (h : History) → length (seen h) ≡ length (stable h)
length-seen (Begins bytes) = refl
length-seen (Wrote at bytes h) = length-put (seen h) at bytes ∙ length-seen h
length-seen (Spoiled at junk h) = length-put (seen h) at junk ∙ length-seen h
length-seen (Synced h) = refl

-- outside the pending ranges what is read is stable
pub seen_outside : (h : History) (k : ℕ) → Untouched (pending h) k 1 → get_or (seen h) k 0 ≡ get_or (stable h) k 0
seen_outside (Begins bytes) k apart = refl
seen_outside (Wrote at bytes h) k (here, apart) = get_or-put_apart (seen h) at bytes k 0 here ∙ seen_outside h k apart
seen_outside (Spoiled at junk h) k (here, apart) = get_or-put_apart (seen h) at junk k 0 here ∙ seen_outside h k apart
seen_outside (Synced h) k apart = refl

-- what a disk reads as is one of its images
pub seen_is_image : (h : History) → IsImage h (seen h)
seen_is_image h = record { sized = length-seen h; outside = seen_outside h }

-- and so are its last stable bytes
pub stable_is_image : (h : History) → IsImage h (stable h)
stable_is_image h = record { sized = refl; outside = λ k apart. refl }

-- outside its failed writes' ranges a disk that nothing is pending on has one image, what it reads as
pub settled_image : (h : History) (image : List ℕ) → pending h ≡ [] → IsImage h image → image ≡ stable h
settled_image h image none is =
    same_lists image (stable h) is.sized (λ k d inside.
    let apart : Untouched (pending h) k 1 = rw none tt in
    let at_zero : get_or image k 0 ≡ get_or (stable h) k 0 = is.outside k apart in
    get_or_default image k d 0 inside ∙ (at_zero ∙ get_or_default (stable h) k 0 d (omega (arith, is.sized))))

-- a successful sync leaves one image
pub synced_image : (h : History) (image : List ℕ) → IsImage (Synced h) image → image ≡ seen h
synced_image h image is = settled_image (Synced h) image refl is

-- which is one of those before it
pub sync_narrows : (h : History) (image : List ℕ) → IsImage (Synced h) image → IsImage h image
sync_narrows h image is = rw (synced_image h image is) (seen_is_image h)

-- a write takes no image away
pub write_widens : (h : History) (at : ℕ) (bytes image : List ℕ) → IsImage h image → IsImage (Wrote at bytes h) image
write_widens h at bytes image is = record { sized = is.sized; outside = λ k apart. is.outside k apart.1 }

-- nor does a failed one
pub spoil_widens : (h : History) (at : ℕ) (junk image : List ℕ) → IsImage h image → IsImage (Spoiled at junk h) image
spoil_widens h at junk image is = record { sized = is.sized; outside = λ k apart. is.outside k apart.1 }

-- what an image holds where nothing is pending
pub image_part : (h : History) (image : List ℕ) (at n : ℕ) → IsImage h image → Untouched (pending h) at n → at + n ≤ length (stable h) → part at n image ≡ part at n (stable h)
image_part h image at n is apart fits = part_same image (stable h) at n (omega (arith, is.sized)) fits (λ k inside. is.outside (at + k) (untouched_part (pending h) at n (at + k) 1 (omega arith) (omega arith) apart))

-- what a read gives apart from the failed writes
pub read_part : (h : History) (at : ℕ) (bytes : List ℕ) → Reads h at bytes → Untouched (failed h) at (length bytes) → at + length bytes ≤ length (seen h) → bytes ≡ part at (length bytes) (seen h)
read_part h at bytes reads apart fits =
    let size : length (part at (length bytes) (seen h)) ≡ length bytes = length-part at (length bytes) (seen h) fits in
    same_lists bytes (part at (length bytes) (seen h)) (sym size) (λ k d inside.
    get_or_default bytes k d 0 inside
    ∙ (reads k (omega arith) (untouched_part (failed h) at (length bytes) (at + k) 1 (omega arith) (omega arith) apart)
    ∙ (get_or_default (seen h) (at + k) 0 d (omega arith) ∙ sym (get_or-part at (length bytes) (seen h) k d inside))))
