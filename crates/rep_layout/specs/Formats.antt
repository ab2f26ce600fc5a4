-- The formats of a disk, and the digit of each as a byte.
use Rattle.std.specs.Prelude.{ℕ, ◌==◌, if◌then◌else◌, [], ◌∷◌, Option, None, Some}
use Rattle.rep_forms.specs.Forms.{Form, byte, via, as_named}
use Rattle.rep_layout.specs.declared.format.Format.{Format}
use Rattle.rep_layout.specs.declared.format.Format.TheVariants.{One, Two}

-- the digits 1 and 2 as characters
abbrev pub digit_of : Format → ℕ
digit_of One = 49
digit_of Two = 50

abbrev pub format_of : ℕ → Option Format
format_of digit = if digit == 49 then Some One else if digit == 50 then Some Two else None

abbrev pub format_fields : Form Format
format_fields = via byte digit_of format_of

-- A format: its digit.
abbrev pub format_form : Form Format
format_form = as_named format_fields (λ _. Unit {0}) (λ format. digit_of format ∷ [])

-- what a format says of a number that format 1 has not: 0 there
abbrev pub told_by : Format → ℕ → ℕ
told_by One n = 0
told_by Two n = n
