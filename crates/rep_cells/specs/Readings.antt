-- What bytes say: the one place where they become bodies.
use Rattle.std.specs.Prelude.{◌≡◌, ℕ, zero, suc, ◌<◌, Bool, true, cond, eqb, List, get_or, Option, None, Some, IsTrue}
use Rattle.rep_disk.specs.Bytes.{part}
use Rattle.rep_layout.specs.declared.place.Layout.{Layout}
use Rattle.rep_layout.specs.declared.place.Place.{Place}
use Rattle.rep_layout.specs.Places.{is_place, body_len, gate_len, offset_of, gate_of}

-- there is such a place
abbrev pub IsPlace : Layout → Place → Type 0
IsPlace l place = IsTrue (is_place l place)

-- A cell is a place with a gate: a superblock, or a cell of the log.
abbrev pub IsCell : Layout → Place → Type 0
IsCell l place = IsPlace l place × (0 < gate_len place)

-- An area is a place without one: a window, or a slot of a page.
abbrev pub IsArea : Layout → Place → Type 0
IsArea l place = IsPlace l place × (gate_len place ≡ 0)

-- A gate of n bytes stands open where its first byte is a5; where there is no gate, all is open.
abbrev pub gate_shows : ℕ → ℕ → List ℕ → Bool
gate_shows zero at bytes = true
gate_shows (suc n) at bytes = eqb (get_or bytes at 0) 0xA5

-- whether the place is open
abbrev pub is_open : Layout → Place → List ℕ → Bool
is_open l place bytes = gate_shows (gate_len place) (gate_of l place) bytes

-- its body, whatever its gate is
abbrev pub body_of : Layout → Place → List ℕ → List ℕ
body_of l place bytes = part (offset_of l place) (body_len place) bytes

-- what each place reads as
abbrev pub Reading : Type 0
Reading = Place → Option (List ℕ)

-- A place that is open reads as its body, a closed one as nothing.
abbrev pub reading_of : Layout → List ℕ → Reading
reading_of l bytes place = cond (is_open l place bytes) (Some (body_of l place bytes)) None
