-- Gates and bodies: what images, writes elsewhere and syncs leave of them.
use Rattle.std.proofs.Common.{◌≡◌, ℕ, zero, suc, ◌+◌, ◌<◌, ◌≤◌, inl, inr, Bool, true, false, cond, List, ◌∷◌, length, get_or, None, Some, refl, sym, ap, ◌∙◌, arith, eqb}
use Rattle.std.specs.Prelude.{◌⊎◌}
use Rattle.rep_disk.specs.Bytes.{put, part}
use Rattle.rep_disk.specs.History.{History, Wrote, Synced, seen, stable, pending, IsImage}
use Rattle.rep_disk.proofs.Bytes.{get_or-put_apart, get_or-put_in, part-put_same, part-put_apart}
use Rattle.rep_disk.proofs.Images.{untouched_part, length-seen, seen_is_image, image_part}
use Rattle.rep_layout.specs.declared.place.Layout.{Layout}
use Rattle.rep_layout.specs.declared.place.Place.{Place}
use Rattle.rep_layout.specs.Places.{body_len, gate_len, offset_of, gate_of, end_of}
use Rattle.rep_cells.specs.Readings.{gate_shows, is_open, body_of, reading_of}
use Rattle.rep_cells.specs.Known.{GateIs, GateStays, BodyIs, BodyStays}

-- a gate shows the same where its first byte is the same
pub gate_shows_same : (n at : ℕ) (xs ys : List ℕ) → (0 < n → get_or xs at 0 ≡ get_or ys at 0) → gate_shows n at xs ≡ gate_shows n at ys
gate_shows_same zero at xs ys same = refl
gate_shows_same (suc n) at xs ys same = ap (λ (b : ℕ). eqb b 0xA5) (same (omega arith))

-- all is open where there is no gate
pub open_without_gate : (l : Layout) (place : Place) (bytes : List ℕ) → gate_len place ≡ 0 → is_open l place bytes ≡ true
open_without_gate l place bytes none = ap (λ (n : ℕ). gate_shows n (gate_of l place) bytes) none

-- what is closed reads as nothing
pub closed_reads : (l : Layout) (place : Place) (bytes : List ℕ) → is_open l place bytes ≡ false → reading_of l bytes place ≡ None
closed_reads l place bytes shut = ap (λ (b : Bool). cond b (Some (body_of l place bytes)) None) shut

-- what is open reads as its body
pub open_reads : (l : Layout) (place : Place) (bytes body : List ℕ) → is_open l place bytes ≡ true → body_of l place bytes ≡ body → reading_of l bytes place ≡ Some body
open_reads l place bytes body wide is = ap (λ (b : Bool). cond b (Some (body_of l place bytes)) None) wide ∙ ap Some is

-- either, where only the body is known
pub maybe_reads : (l : Layout) (place : Place) (bytes body : List ℕ) (shows : Bool) → is_open l place bytes ≡ shows → body_of l place bytes ≡ body → (reading_of l bytes place ≡ None) ⊎ (reading_of l bytes place ≡ Some body)
maybe_reads l place bytes body true wide is = inr (open_reads l place bytes body wide is)
maybe_reads l place bytes body false shut is = inl (closed_reads l place bytes shut)

-- a stable gate in an image
pub gate_image : (l : Layout) (h : History) (place : Place) (shows : Bool) (image : List ℕ) → GateStays l h place shows → IsImage h image → is_open l place image ≡ shows
gate_image l h place shows image (apart, is) of =
    gate_shows_same (gate_len place) (gate_of l place) image (stable h) (λ some.
    of.outside (gate_of l place) (untouched_part (pending h) (gate_of l place) (gate_len place) (gate_of l place) 1 (omega arith) (omega arith) apart)) ∙ is

-- a stable body in an image
pub body_image : (l : Layout) (h : History) (place : Place) (body image : List ℕ) → gate_of l place ≤ length (stable h) → BodyStays l h place body → IsImage h image → body_of l place image ≡ body
body_image l h place body image fits (apart, is) of = image_part h image (offset_of l place) (body_len place) of apart fits ∙ is

-- a range that is written lies apart from another
abbrev pub Apart : ℕ → ℕ → ℕ → ℕ → Type 0
Apart at n start m = (at + n ≤ start) ⊎ (start + m ≤ at)

-- what a write leaves of a gate that it lies apart from
pub gate_stays_apart : (l : Layout) (h : History) (place : Place) (shows : Bool) (at : ℕ) (bytes : List ℕ) → Apart at (length bytes) (gate_of l place) (gate_len place) → GateStays l h place shows → GateStays l (Wrote at bytes h) place shows
gate_stays_apart l h place shows at bytes apart (before, is) = ((apart, before), is)

pub gate_is_apart : (l : Layout) (h : History) (place : Place) (shows : Bool) (at : ℕ) (bytes : List ℕ) → Apart at (length bytes) (gate_of l place) (gate_len place) → GateIs l h place shows → GateIs l (Wrote at bytes h) place shows
gate_is_apart l h place shows at bytes apart is =
    gate_shows_same (gate_len place) (gate_of l place) (put (seen h) at bytes) (seen h) (λ some.
    get_or-put_apart (seen h) at bytes (gate_of l place) 0 (elim apart [ inl behind ↦ inl behind | inr before ↦ inr (omega arith) ])) ∙ is

-- and of a body
pub body_stays_apart : (l : Layout) (h : History) (place : Place) (body : List ℕ) (at : ℕ) (bytes : List ℕ) → Apart at (length bytes) (offset_of l place) (body_len place) → BodyStays l h place body → BodyStays l (Wrote at bytes h) place body
body_stays_apart l h place body at bytes apart (before, is) = ((apart, before), is)

pub body_is_apart : (l : Layout) (h : History) (place : Place) (body : List ℕ) (at : ℕ) (bytes : List ℕ) → gate_of l place ≤ length (stable h) → Apart at (length bytes) (offset_of l place) (body_len place) → BodyIs l h place body → BodyIs l (Wrote at bytes h) place body
body_is_apart l h place body at bytes fits apart is =
    part-put_apart (seen h) at bytes (offset_of l place) (body_len place) apart (omega (arith, fits, length-seen h)) ∙ is

-- what a body reads as that was written there
pub body_written : (l : Layout) (h : History) (place : Place) (body : List ℕ) → gate_of l place ≤ length (stable h) → length body ≡ body_len place → BodyIs l (Wrote (offset_of l place) body h) place body
body_written l h place body fits size =
    ap (λ (n : ℕ). part (offset_of l place) n (put (seen h) (offset_of l place) body)) (sym size)
    ∙ part-put_same (seen h) (offset_of l place) body (omega (arith, fits, size, length-seen h))

-- what a gate shows that was written there
pub gate_written : (l : Layout) (h : History) (place : Place) (first : ℕ) (others : List ℕ) (shows : Bool) → end_of l place ≤ length (stable h) → 0 < gate_len place → length (first ∷ others) ≡ gate_len place → eqb first 0xA5 ≡ shows → GateIs l (Wrote (gate_of l place) (first ∷ others) h) place shows
gate_written l h place first others shows fits some size is =
    shown (gate_len place) some (get_or-put_in (seen h) (gate_of l place) (first ∷ others) 0 0 (omega arith) (omega (arith, fits, some, length-seen h)))
  where
    shown : (n : ℕ) → 0 < n → get_or (put (seen h) (gate_of l place) (first ∷ others)) (gate_of l place + 0) 0 ≡ first → gate_shows n (gate_of l place) (put (seen h) (gate_of l place) (first ∷ others)) ≡ shows
    shown zero none there = absurd (omega arith)
    shown (suc n) any there = let place_is : gate_of l place + 0 ≡ gate_of l place = omega arith in ap (λ (b : ℕ). eqb b 0xA5) (ap (λ (k : ℕ). get_or (put (seen h) (gate_of l place) (first ∷ others)) k 0) (sym place_is) ∙ there) ∙ is

-- what a sync makes stable
pub gate_synced : (l : Layout) (h : History) (place : Place) (shows : Bool) → GateIs l h place shows → GateStays l (Synced h) place shows
gate_synced l h place shows is = (tt, is)

pub gate_synced_again : (l : Layout) (h : History) (place : Place) (shows : Bool) → GateStays l h place shows → GateStays l (Synced h) place shows
gate_synced_again l h place shows stays = (tt, gate_image l h place shows (seen h) stays (seen_is_image h))

pub body_synced : (l : Layout) (h : History) (place : Place) (body : List ℕ) → BodyIs l h place body → BodyStays l (Synced h) place body
body_synced l h place body is = (tt, is)

pub body_synced_again : (l : Layout) (h : History) (place : Place) (body : List ℕ) → gate_of l place ≤ length (stable h) → BodyStays l h place body → BodyStays l (Synced h) place body
body_synced_again l h place body fits stays = (tt, body_image l h place body (seen h) fits stays (seen_is_image h))
