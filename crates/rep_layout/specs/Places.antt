-- Where everything lies on a device (this project's own layout).
use Rattle.std.specs.Prelude.{◌≡◌, ◌≢◌, ℕ, ◌+◌, ◌*◌, ◌%◌, ◌<◌, ◌≤◌, ◌==◌, ◌⊎◌, Bool, true, nat_lt, if◌then◌else◌, IsTrue}
use Rattle.rep_types.specs.Settings.{Setting, pages_of}
use Rattle.rep_layout.specs.declared.place.TheConstants.{SUPER_BODY, WINDOW_BODY, LOG_BODY, PAGE_BODY, GATE, WINDOWS, LOG}
use Rattle.rep_layout.specs.declared.place.Side.{Side}
use Rattle.rep_layout.specs.declared.place.Side.TheVariants.{A, B}
use Rattle.rep_layout.specs.declared.place.Slot.{Slot}
use Rattle.rep_layout.specs.declared.place.Slot.TheVariants.{First, Second}
use Rattle.rep_layout.specs.declared.place.Place.{Place}
use Rattle.rep_layout.specs.declared.place.Place.TheVariants.{Super, Window, Log, Page}
use Rattle.rep_layout.specs.declared.place.Layout.{Layout}

-- the layout of a device with these parameters
abbrev pub layout_of : Setting → Layout
layout_of p = record { cells = p.cells; pages = pages_of p.rows }

-- a side's number
abbrev pub number_of_side : Side → ℕ
number_of_side A = 0
number_of_side B = 1

-- a slot's number
abbrev pub number_of_slot : Slot → ℕ
number_of_slot First = 0
number_of_slot Second = 1

-- the side of the superblock of this number
abbrev pub side_of : ℕ → Side
side_of number = if number % 2 == 0 then A else B

-- the log's cell of the block of this number; without cells it is 0, which there is not
abbrev pub log_of : Layout → ℕ → Place
log_of l number = Log (if l.cells == 0 then 0 else number % l.cells)

-- whether there is such a place
abbrev pub is_place : Layout → Place → Bool
is_place l (Super side) = true
is_place l (Window side) = true
is_place l (Log cell) = nat_lt cell l.cells
is_place l (Page page slot) = nat_lt page l.pages

-- how many bytes its body has
abbrev pub body_len : Place → ℕ
body_len (Super side) = SUPER_BODY
body_len (Window side) = WINDOW_BODY
body_len (Log cell) = LOG_BODY
body_len (Page page slot) = PAGE_BODY

-- how many bytes its gate has
abbrev pub gate_len : Place → ℕ
gate_len (Super side) = GATE
gate_len (Window side) = 0
gate_len (Log cell) = GATE
gate_len (Page page slot) = 0

-- its first byte
abbrev pub offset_of : Layout → Place → ℕ
offset_of l (Super side) = (SUPER_BODY + GATE) * number_of_side side
offset_of l (Window side) = WINDOWS + WINDOW_BODY * number_of_side side
offset_of l (Log cell) = LOG + (LOG_BODY + GATE) * cell
offset_of l (Page page slot) = LOG + (LOG_BODY + GATE) * l.cells + PAGE_BODY * (2 * page + number_of_slot slot)

-- the first byte behind its body, where its gate begins if it has one
abbrev pub gate_of : Layout → Place → ℕ
gate_of l place = offset_of l place + body_len place

-- the first byte behind it
abbrev pub end_of : Layout → Place → ℕ
end_of l place = gate_of l place + gate_len place

-- how many bytes the places take together
abbrev pub need_of : Layout → ℕ
need_of l = LOG + (LOG_BODY + GATE) * l.cells + 2 * PAGE_BODY * l.pages

-- the byte is one of the place
pub record LiesIn (l : Layout) (place : Place) (byte : ℕ) : Type 0 where
  pub from : offset_of l place ≤ byte
  pub to : byte < end_of l place

-- The places lie inside the bytes that are needed, no two overlap, and they fill them: each byte lies in one, and so in one alone.
pub record PlacesFillTheDevice : Type 0 where
  pub inside : (l : Layout) (place : Place) → IsTrue (is_place l place) → end_of l place ≤ need_of l
  pub apart : (l : Layout) (p q : Place) → IsTrue (is_place l p) → IsTrue (is_place l q) → p ≢ q → (end_of l p ≤ offset_of l q) ⊎ (end_of l q ≤ offset_of l p)
  pub filled : (l : Layout) (byte : ℕ) → byte < need_of l → (place : Place) × IsTrue (is_place l place) × LiesIn l place byte

-- How many bytes the places take: 54,272, and 8,192 for each cell and each page.
abbrev pub NeedIsThis : Type 0
NeedIsThis = (l : Layout) → need_of l ≡ 54272 + 8192 * l.cells + 8192 * l.pages

-- Superblocks take turns between the sides. In a layout with cells each block of the log has one, those less than a lap apart have
-- different ones, and the block a lap on has the same.
pub record TurnsAreTaken : Type 0 where
  pub sides : (number : ℕ) → side_of (number + 1) ≢ side_of number
  pub cells : (l : Layout) (number : ℕ) → 1 ≤ l.cells → IsTrue (is_place l (log_of l number))
  pub apart : (l : Layout) (m n : ℕ) → m < n → n < m + l.cells → log_of l m ≢ log_of l n
  pub lap : (l : Layout) (number : ℕ) → log_of l (number + l.cells) ≡ log_of l number
