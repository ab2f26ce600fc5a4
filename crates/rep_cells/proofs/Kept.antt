-- What is stable of a state: it allows what the images read as.
use Rattle.std.proofs.Common.{◌≡◌, ℕ, ◌+◌, ◌≤◌, ◌⊎◌, inl, inr, true, false, List, length, Option, refl, arith}
use Rattle.rep_disk.specs.History.{History, Wrote, Spoiled, seen, stable, IsImage}
use Rattle.rep_disk.proofs.Images.{seen_is_image}
use Rattle.rep_layout.specs.declared.place.Layout.{Layout}
use Rattle.rep_layout.specs.declared.place.Place.{Place}
use Rattle.rep_layout.specs.Places.{body_len, gate_len, offset_of, gate_of, end_of, need_of}
use Rattle.rep_cells.specs.Readings.{IsPlace, is_open, reading_of}
use Rattle.rep_cells.specs.States.{State, States, Unknown, Shutting, Closed, Filling, Filled, Opening, Opened, Closing, Pending, Stable, Allows, Shows, IsSure, closing, synced}
use Rattle.rep_cells.specs.Known.{GateStays, BodyStays, Known, IsReadable, Assigns}
use Rattle.rep_cells.proofs.Ranges.{closed_reads, open_reads, maybe_reads, open_without_gate, gate_image, body_image, Apart, gate_stays_apart, gate_is_apart, body_stays_apart, body_is_apart}

-- what is stable of a state
abbrev pub Kept : Layout → History → Place → State → Type 0
Kept l h place Unknown = Unit {0}
Kept l h place Shutting = Unit {0}
Kept l h place Closed = GateStays l h place false
Kept l h place (Filling body) = GateStays l h place false
Kept l h place (Filled body) = GateStays l h place false
Kept l h place (Opening body) = BodyStays l h place body
Kept l h place (Opened body) = GateStays l h place true × BodyStays l h place body
Kept l h place (Closing body) = BodyStays l h place body
Kept l h place (Pending body) = Unit {0}
Kept l h place (Stable body) = (gate_len place ≡ 0) × BodyStays l h place body

pub known_kept : (l : Layout) (h : History) (place : Place) (state : State) → Known l h place state → Kept l h place state
known_kept l h place Unknown is = tt
known_kept l h place Shutting is = tt
known_kept l h place Closed is = is
known_kept l h place (Filling body) is = is.0
known_kept l h place (Filled body) is = is.0
known_kept l h place (Opening body) is = is.1
known_kept l h place (Opened body) is = is
known_kept l h place (Closing body) is = is.1
known_kept l h place (Pending body) is = tt
known_kept l h place (Stable body) is = is

-- each image reads as it allows
pub kept_allows : (l : Layout) (h : History) (place : Place) (state : State) (image : List ℕ) → gate_of l place ≤ length (stable h) → Kept l h place state → IsImage h image → Allows state (reading_of l image place)
kept_allows l h place Unknown image fits is of = tt
kept_allows l h place Shutting image fits is of = tt
kept_allows l h place Closed image fits is of = closed_reads l place image (gate_image l h place false image is of)
kept_allows l h place (Filling body) image fits is of = closed_reads l place image (gate_image l h place false image is of)
kept_allows l h place (Filled body) image fits is of = closed_reads l place image (gate_image l h place false image is of)
kept_allows l h place (Opening body) image fits is of = maybe_reads l place image body (is_open l place image) refl (body_image l h place body image fits is of)
kept_allows l h place (Opened body) image fits is of = open_reads l place image body (gate_image l h place true image is.0 of) (body_image l h place body image fits is.1 of)
kept_allows l h place (Closing body) image fits is of = maybe_reads l place image body (is_open l place image) refl (body_image l h place body image fits is of)
kept_allows l h place (Pending body) image fits is of = tt
kept_allows l h place (Stable body) image fits is of = open_reads l place image body (open_without_gate l place image is.0) (body_image l h place body image fits is.1 of)

-- what a place reads as while nothing has failed
pub known_shows : (l : Layout) (h : History) (place : Place) (state : State) → gate_of l place ≤ length (stable h) → Known l h place state → Shows state (reading_of l (seen h) place)
known_shows l h place Unknown fits is = tt
known_shows l h place Shutting fits is = closed_reads l place (seen h) is
known_shows l h place Closed fits is = closed_reads l place (seen h) (gate_image l h place false (seen h) is (seen_is_image h))
known_shows l h place (Filling body) fits is = closed_reads l place (seen h) (gate_image l h place false (seen h) is.0 (seen_is_image h))
known_shows l h place (Filled body) fits is = closed_reads l place (seen h) (gate_image l h place false (seen h) is.0 (seen_is_image h))
known_shows l h place (Opening body) fits is = open_reads l place (seen h) body is.0 (body_image l h place body (seen h) fits is.1 (seen_is_image h))
known_shows l h place (Opened body) fits is = open_reads l place (seen h) body (gate_image l h place true (seen h) is.0 (seen_is_image h)) (body_image l h place body (seen h) fits is.1 (seen_is_image h))
known_shows l h place (Closing body) fits is = closed_reads l place (seen h) is.0
known_shows l h place (Pending body) fits is = open_reads l place (seen h) body (open_without_gate l place (seen h) is.0) is.1
known_shows l h place (Stable body) fits is = open_reads l place (seen h) body (open_without_gate l place (seen h) is.0) (body_image l h place body (seen h) fits is.1 (seen_is_image h))

-- what a write elsewhere leaves
pub known_elsewhere : (l : Layout) (h : History) (place : Place) (state : State) (at : ℕ) (bytes : List ℕ) → gate_of l place ≤ length (stable h) → (at + length bytes ≤ offset_of l place) ⊎ (end_of l place ≤ at) → Known l h place state → Known l (Wrote at bytes h) place state
known_elsewhere l h place state at bytes fits apart is =
    let gate_apart : Apart at (length bytes) (gate_of l place) (gate_len place) = elim apart [ inl before ↦ inl (omega arith) | inr behind ↦ inr (omega arith) ] in
    let body_apart : Apart at (length bytes) (offset_of l place) (body_len place) = elim apart [ inl before ↦ inl (omega arith) | inr behind ↦ inr (omega arith) ] in
    by_cases gate_apart body_apart state is
  where
    by_cases : Apart at (length bytes) (gate_of l place) (gate_len place) → Apart at (length bytes) (offset_of l place) (body_len place) → (st : State) → Known l h place st → Known l (Wrote at bytes h) place st
    by_cases gate_apart body_apart Unknown k = tt
    by_cases gate_apart body_apart Shutting k = gate_is_apart l h place false at bytes gate_apart k
    by_cases gate_apart body_apart Closed k = gate_stays_apart l h place false at bytes gate_apart k
    by_cases gate_apart body_apart (Filling body) k = (gate_stays_apart l h place false at bytes gate_apart k.0, body_is_apart l h place body at bytes fits body_apart k.1)
    by_cases gate_apart body_apart (Filled body) k = (gate_stays_apart l h place false at bytes gate_apart k.0, body_stays_apart l h place body at bytes body_apart k.1)
    by_cases gate_apart body_apart (Opening body) k = (gate_is_apart l h place true at bytes gate_apart k.0, body_stays_apart l h place body at bytes body_apart k.1)
    by_cases gate_apart body_apart (Opened body) k = (gate_stays_apart l h place true at bytes gate_apart k.0, body_stays_apart l h place body at bytes body_apart k.1)
    by_cases gate_apart body_apart (Closing body) k = (gate_is_apart l h place false at bytes gate_apart k.0, body_stays_apart l h place body at bytes body_apart k.1)
    by_cases gate_apart body_apart (Pending body) k = (k.0, body_is_apart l h place body at bytes fits body_apart k.1)
    by_cases gate_apart body_apart (Stable body) k = (k.0, body_stays_apart l h place body at bytes body_apart k.1)

-- what a failed write leaves is what a write of those bytes leaves
known_spoiled : (l : Layout) (h : History) (place : Place) (state : State) (at : ℕ) (junk : List ℕ) → Known l (Wrote at junk h) place state → Known l (Spoiled at junk h) place state
known_spoiled l h place Unknown at junk is = tt
known_spoiled l h place Shutting at junk is = is
known_spoiled l h place Closed at junk is = is
known_spoiled l h place (Filling body) at junk is = is
known_spoiled l h place (Filled body) at junk is = is
known_spoiled l h place (Opening body) at junk is = is
known_spoiled l h place (Opened body) at junk is = is
known_spoiled l h place (Closing body) at junk is = is
known_spoiled l h place (Pending body) at junk is = is
known_spoiled l h place (Stable body) at junk is = is

-- what is known and can be read of a place in a state
abbrev pub Stands : Layout → History → Place → State → Type 0
Stands l h place state = Known l h place state × (IsSure state → IsReadable l h place)

pub stands : (l : Layout) (h : History) (s : States) (place : Place) → Assigns l h s → IsPlace l place → Stands l h place (s place)
stands l h s place is there = (is.places place there, is.readable place there)

pub assigned : (l : Layout) (h : History) (s : States) → need_of l ≤ length (stable h) → ((place : Place) → IsPlace l place → Stands l h place (s place)) → Assigns l h s
assigned l h s fits each = record { fits = fits; places = λ place there. (each place there).0; readable = λ place there. (each place there).1 }

-- a write elsewhere leaves it, and so does a failed one
pub stands_elsewhere : (l : Layout) (h : History) (place : Place) (state : State) (at : ℕ) (bytes : List ℕ) → gate_of l place ≤ length (stable h) → (at + length bytes ≤ offset_of l place) ⊎ (end_of l place ≤ at) → Stands l h place state → Stands l (Wrote at bytes h) place state
stands_elsewhere l h place state at bytes fits apart is = (known_elsewhere l h place state at bytes fits apart is.0, is.1)

pub stands_spoiled : (l : Layout) (h : History) (place : Place) (state : State) (at : ℕ) (junk : List ℕ) → gate_of l place ≤ length (stable h) → (at + length junk ≤ offset_of l place) ⊎ (end_of l place ≤ at) → Stands l h place state → Stands l (Spoiled at junk h) place state
stands_spoiled l h place state at junk fits apart is =
    let of_gate : Apart at (length junk) (gate_of l place) (gate_len place) = elim apart [ inl before ↦ inl (omega arith) | inr behind ↦ inr (omega arith) ] in
    let of_body : Apart at (length junk) (offset_of l place) (body_len place) = elim apart [ inl before ↦ inl (omega arith) | inr behind ↦ inr (omega arith) ] in
    (known_spoiled l h place state at junk (known_elsewhere l h place state at junk fits apart is.0), λ sure. ((of_body, (is.1 sure).0), (of_gate, (is.1 sure).1)))

-- each state after a sync, and after a further one
pub synced_narrows : (state : State) (reading : Option (List ℕ)) → Allows (synced state) reading → Allows state reading
synced_narrows Unknown r is = tt
synced_narrows Shutting r is = tt
synced_narrows Closed r is = is
synced_narrows (Filling body) r is = is
synced_narrows (Filled body) r is = is
synced_narrows (Opening body) r is = inr is
synced_narrows (Opened body) r is = is
synced_narrows (Closing body) r is = inl is
synced_narrows (Pending body) r is = tt
synced_narrows (Stable body) r is = is

pub synced_again : (state : State) → synced (synced state) ≡ synced state
synced_again Unknown = refl
synced_again _ = refl

pub synced_closes : (state : State) → synced (closing state) ≡ Closed
synced_closes Unknown = refl
synced_closes _ = refl
