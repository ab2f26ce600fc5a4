-- The places of a device lie apart and fill it.
use Rattle.std.proofs.Common.{◌≢◌, ℕ, ◌+◌, ◌*◌, ◌-◌, ◌/◌, ◌%◌, ◌<◌, ◌≤◌, arith}
use Rattle.std.specs.Prelude.{IsTrue, ◌⊎◌, nat_lt, if◌then◌else◌}
use Rattle.std.proofs.lemmas.Bool.Decides.{nat_tests}
use Rattle.rep_layout.specs.declared.place.Side.TheVariants.{A, B}
use Rattle.rep_layout.specs.declared.place.Slot.TheVariants.{First, Second}
use Rattle.rep_layout.specs.declared.place.Place.{Place}
use Rattle.rep_layout.specs.declared.place.Place.TheVariants.{Super, Window, Log, Page}
use Rattle.rep_layout.specs.declared.place.Layout.{Layout}
use Rattle.rep_layout.specs.Places.{is_place, offset_of, end_of, need_of, LiesIn}

-- a place lies inside
pub lies_inside : (l : Layout) (place : Place) → IsTrue (is_place l place) → end_of l place ≤ need_of l
lies_inside l place h = grind (arith, nat_tests)

-- two places don't overlap
pub lie_apart : (l : Layout) (p q : Place) → IsTrue (is_place l p) → IsTrue (is_place l q) → p ≢ q → (end_of l p ≤ offset_of l q) ⊎ (end_of l q ≤ offset_of l p)
lie_apart l p q h k ne = grind (arith, nat_tests)

-- the page whose slots have a byte, counted from the first page
abbrev page_at : ℕ → Place
page_at byte = if nat_lt (byte % 8192) 4096 then Page (byte / 8192) First else Page (byte / 8192) Second

-- the place that has a byte
abbrev place_at : Layout → ℕ → Place
place_at l byte =
    if nat_lt byte 4096 then Super A
    else if nat_lt byte 8192 then Super B
    else if nat_lt byte 31232 then Window A
    else if nat_lt byte 54272 then Window B
    else if nat_lt byte (54272 + 8192 * l.cells) then Log ((byte - 54272) / 8192)
    else page_at (byte - (54272 + 8192 * l.cells))

-- the places fill the bytes
pub lies_somewhere : (l : Layout) (byte : ℕ) → byte < need_of l → (place : Place) × IsTrue (is_place l place) × LiesIn l place byte
lies_somewhere l byte lt = (place_at l byte, grind (arith, nat_tests), grind (arith, nat_tests))
