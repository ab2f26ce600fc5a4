-- The states of pages as two bits each: 0 in no slot, 1 in the first, 2 in the second.
use Rattle.std.specs.Prelude.{◌≡◌, ℕ, zero, suc, ◌+◌, ◌*◌, ◌/◌, ◌%◌, ◌≤◌, ◌==◌, if◌then◌else◌, List, [], ◌∷◌, length, take, drop, slice_index_or, Option, None, Some}
use Rattle.std.specs.List.{flat_map}
use Rattle.rep_types.specs.declared.limits.TheConstants.{MAX_PAGES}
use Rattle.rep_forms.specs.Options.{◌>>=◌}
use Rattle.rep_forms.specs.Forms.{Form, byte, many, via, as_named}
use Rattle.rep_layout.specs.declared.place.Slot.TheVariants.{First, Second}
use Rattle.rep_layout.specs.declared.page_state.PageState.{PageState}
use Rattle.rep_layout.specs.declared.page_state.PageState.TheVariants.{Nowhere, In}
use Rattle.rep_layout.specs.declared.page_state.Four.{Four}
use Rattle.rep_layout.specs.declared.page_state.TheConstants.{STATES}

-- the bits of a state
abbrev pub state_code : PageState → ℕ
state_code Nowhere = 0
state_code (In First) = 1
state_code (In Second) = 2

-- the state of these bits
abbrev pub state_of : ℕ → Option PageState
state_of code = if code == 0 then Some Nowhere else if code == 1 then Some (In First) else if code == 2 then Some (In Second) else None

-- ---- four pages

-- the byte of four pages, the first in its lowest bits
abbrev pub four_byte : Four → ℕ
four_byte f = state_code f.first + 4 * state_code f.second + 16 * (state_code f.third + 4 * state_code f.fourth)

-- the four pages that a byte says
abbrev pub four_of : ℕ → Option Four
four_of b =
    state_of (b % 4) >>= λ first. state_of (b / 4 % 4) >>= λ second. state_of (b / 16 % 4) >>= λ third. state_of (b / 64) >>= λ fourth.
    Some (record { first = first; second = second; third = third; fourth = fourth })

abbrev pub four_fields : Form Four
four_fields = via byte four_byte four_of

abbrev pub four_form : Form Four
four_form = as_named four_fields (λ _. Unit {0}) (λ f. four_byte f ∷ [])

-- one after another
abbrev pub list_of : Four → List PageState
list_of f = f.first ∷ f.second ∷ f.third ∷ f.fourth ∷ []

-- ---- all pages

-- the first four; past the last page in no slot
abbrev pub four_at : List PageState → Four
four_at states = record { first = slice_index_or states 0 Nowhere; second = slice_index_or states 1 Nowhere; third = slice_index_or states 2 Nowhere; fourth = slice_index_or states 3 Nowhere }

-- so many fours, one after another
unfoldable pub fours : ℕ → List PageState → List Four
fours zero states = []
fours (suc n) states = four_at states ∷ fours n (drop 4 states)

-- The states of pages, of 1,024 bytes: page p stands in byte p / 4, in the bits 2 (p mod 4) and the next, counted from the lowest.
abbrev pub state_bytes : List PageState → List ℕ
state_bytes states = flat_map four_form.spell (fours STATES states)

-- so many pages, as many as there can be
pub record AreStates (n : ℕ) (states : List PageState) : Type 0 where
  pub size : length states ≡ n
  pub few : n ≤ MAX_PAGES

abbrev pub states_fields : ℕ → Form (List PageState)
states_fields n = via (many STATES STATES four_form) (fours STATES) (λ fs. Some (take n (flat_map list_of fs)))

abbrev pub states_form : ℕ → Form (List PageState)
states_form n = as_named (states_fields n) (AreStates n) state_bytes
