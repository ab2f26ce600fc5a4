-- Places lie on the device, and are told apart.
use Rattle.std.proofs.Common.{◌≡◌, ℕ, ◌<◌, ◌≤◌, ◌⊎◌, inl, inr, length, refl, ap, ◌∙◌, arith}
use Rattle.std.proofs.lemmas.Bool.{cases_lt}
use Rattle.rep_disk.specs.History.{History, stable}
use Rattle.rep_layout.specs.declared.place.Side.{Side}
use Rattle.rep_layout.specs.declared.place.Side.TheVariants.{A, B}
use Rattle.rep_layout.specs.declared.place.Slot.{Slot}
use Rattle.rep_layout.specs.declared.place.Slot.TheVariants.{First, Second}
use Rattle.rep_layout.specs.declared.place.Place.{Place}
use Rattle.rep_layout.specs.declared.place.Place.TheVariants.{Super, Window, Log, Page}
use Rattle.rep_layout.specs.declared.place.Layout.{Layout}
use Rattle.rep_layout.specs.Places.{number_of_side, number_of_slot, gate_of, end_of, gate_len}
use Rattle.rep_layout.proofs.PlacesApart.{lies_inside}
use Rattle.rep_cells.specs.Readings.{IsPlace}
use Rattle.rep_cells.specs.States.{State, States, Moves}
use Rattle.rep_cells.specs.Known.{Assigns}

-- a place ends on the device
pub end_fits : (l : Layout) (h : History) (s : States) (place : Place) → Assigns l h s → IsPlace l place → end_of l place ≤ length (stable h)
end_fits l h s place is there = omega (arith, is.fits, lies_inside l place there)

-- and so does its body
pub gate_fits : (l : Layout) (h : History) (s : States) (place : Place) → Assigns l h s → IsPlace l place → gate_of l place ≤ length (stable h)
gate_fits l h s place is there = omega (arith, is.fits, lies_inside l place there)

-- a choice
abbrev pub Same : {A : Type 0} → A → A → Type 0
Same x y = (x ≡ y) ⊎ (x ≡ y → ⊥)

side_same : (s t : Side) → Same s t
side_same A A = inl refl
side_same A B = inr (λ e. let differ : number_of_side A ≡ number_of_side B = ap number_of_side e in absurd (omega (arith, differ)))
side_same B A = inr (λ e. let differ : number_of_side B ≡ number_of_side A = ap number_of_side e in absurd (omega (arith, differ)))
side_same B B = inl refl

slot_same : (s t : Slot) → Same s t
slot_same First First = inl refl
slot_same First Second = inr (λ e. let differ : number_of_slot First ≡ number_of_slot Second = ap number_of_slot e in absurd (omega (arith, differ)))
slot_same Second First = inr (λ e. let differ : number_of_slot Second ≡ number_of_slot First = ap number_of_slot e in absurd (omega (arith, differ)))
slot_same Second Second = inl refl

number_same : (i j : ℕ) → Same i j
number_same i j = elim (cases_lt i j) [
  | inl lt ↦ inr (λ e. absurd (omega (arith, lt, e)))
  | inr le ↦ elim (cases_lt j i) [
    | inl more ↦ inr (λ e. absurd (omega (arith, more, e)))
    | inr less ↦ inl (omega (arith, le, less))
  ]
]

-- what a place is made of
abbrev kind_in : Place → ℕ
kind_in (Super side) = 0
kind_in (Window side) = 1
kind_in (Log cell) = 2
kind_in (Page page slot) = 3

abbrev side_in : Place → Side
side_in (Super side) = side
side_in (Window side) = side
side_in (Log cell) = A
side_in (Page page slot) = A

abbrev number_in : Place → ℕ
number_in (Super side) = 0
number_in (Window side) = 0
number_in (Log cell) = cell
number_in (Page page slot) = page

abbrev slot_in : Place → Slot
slot_in (Super side) = First
slot_in (Window side) = First
slot_in (Log cell) = First
slot_in (Page page slot) = slot

kinds_differ : (p q : Place) → (kind_in p ≡ kind_in q → ⊥) → Same p q
kinds_differ p q differ = inr (λ e. differ (ap kind_in e))

-- two places are the same or not
pub place_same : (p q : Place) → Same p q
place_same (Super s) (Super t) = elim (side_same s t) [ inl e ↦ inl (ap Super e) | inr differ ↦ inr (λ e. differ (ap side_in e)) ]
place_same (Super s) (Window t) = kinds_differ (Super s) (Window t) (λ e. absurd (omega (arith, e)))
place_same (Super s) (Log j) = kinds_differ (Super s) (Log j) (λ e. absurd (omega (arith, e)))
place_same (Super s) (Page j t) = kinds_differ (Super s) (Page j t) (λ e. absurd (omega (arith, e)))
place_same (Window s) (Super t) = kinds_differ (Window s) (Super t) (λ e. absurd (omega (arith, e)))
place_same (Window s) (Window t) = elim (side_same s t) [ inl e ↦ inl (ap Window e) | inr differ ↦ inr (λ e. differ (ap side_in e)) ]
place_same (Window s) (Log j) = kinds_differ (Window s) (Log j) (λ e. absurd (omega (arith, e)))
place_same (Window s) (Page j t) = kinds_differ (Window s) (Page j t) (λ e. absurd (omega (arith, e)))
place_same (Log i) (Super t) = kinds_differ (Log i) (Super t) (λ e. absurd (omega (arith, e)))
place_same (Log i) (Window t) = kinds_differ (Log i) (Window t) (λ e. absurd (omega (arith, e)))
place_same (Log i) (Log j) = elim (number_same i j) [ inl e ↦ inl (ap Log e) | inr differ ↦ inr (λ e. differ (ap number_in e)) ]
place_same (Log i) (Page j t) = kinds_differ (Log i) (Page j t) (λ e. absurd (omega (arith, e)))
place_same (Page i s) (Super t) = kinds_differ (Page i s) (Super t) (λ e. absurd (omega (arith, e)))
place_same (Page i s) (Window t) = kinds_differ (Page i s) (Window t) (λ e. absurd (omega (arith, e)))
place_same (Page i s) (Log j) = kinds_differ (Page i s) (Log j) (λ e. absurd (omega (arith, e)))
place_same (Page i s) (Page j t) = elim (number_same i j) [
  | inl e ↦ elim (slot_same s t) [ inl f ↦ inl (ap (λ (n : ℕ). Page n s) e ∙ ap (Page j) f) | inr differ ↦ inr (λ f. differ (ap slot_in f)) ]
  | inr differ ↦ inr (λ e. differ (ap number_in e))
]

-- a gate is one sector
pub gate_is_sector : (place : Place) → 0 < gate_len place → gate_len place ≡ 512
gate_is_sector (Super side) some = refl
gate_is_sector (Window side) some = absurd (omega (arith, some))
gate_is_sector (Log cell) some = refl
gate_is_sector (Page page slot) some = absurd (omega (arith, some))

-- the states after a step of one place
abbrev stepped : (s : States) (place : Place) (step : State → State) (q : Place) → Same q place → State
stepped s place step q (inl same) = step (s place)
stepped s place step q (inr differ) = s q

stepped_there : (s : States) (place : Place) (step : State → State) (choice : Same place place) → stepped s place step place choice ≡ step (s place)
stepped_there s place step (inl same) = refl
stepped_there s place step (inr differ) = absurd (differ refl)

stepped_elsewhere : (s : States) (place : Place) (step : State → State) (q : Place) (choice : Same q place) → (q ≡ place → ⊥) → stepped s place step q choice ≡ s q
stepped_elsewhere s place step q (inl same) other = absurd (other same)
stepped_elsewhere s place step q (inr differ) other = refl

pub states_move : (s : States) (place : Place) (step : State → State) → (t : States) × Moves s t place step
states_move s place step = (
  (λ q. stepped s place step q (place_same q place)),
  record { there = stepped_there s place step (place_same place place); elsewhere = λ q other. stepped_elsewhere s place step q (place_same q place) other },
)
