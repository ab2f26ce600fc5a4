-- What the nodes of a cluster have in common, as bytes: how many seqnos the window spans, and the rows of each table.
use Rattle.std.specs.Prelude.{ℕ, ◌*◌, ◌-◌, List, ◌∷◌, ◌++◌, length, IsTrue}
use Rattle.std.specs.List.{flat_map}
use Rattle.std.specs.Option.{option_map}
use Rattle.std.specs.Result.{result_ok}
use Rattle.rep_types.specs.declared.limits.TheConstants.{MAX_TABLES, MIN_CELLS}
use Rattle.rep_types.specs.Settings.{Setting, setting, allowed, is_setting}
use Rattle.rep_forms.specs.Forms.{Form, byte, number, number_bytes, zeros, both, ◌⊗◌, padded, many, via, as_named}

-- how many seqnos the window spans, and the rows of each table
pub record Shape : Type 0 where
  pub window : ℕ
  pub rows : List ℕ

-- the shape of parameters: what another node must have too
abbrev pub shape_of : Setting → Shape
shape_of p = record { window = p.window; rows = p.rows }

-- the parameters of this shape whose log has the fewest cells
abbrev pub least_of : Shape → Setting
least_of s = setting s.window MIN_CELLS s.rows

-- Its numbers are inside the limits of parameters.
abbrev pub IsShape : Shape → Type 0
IsShape s = IsTrue (is_setting (least_of s))

-- ---- the spelling, of 35 bytes: the window, how many tables there are, and the rows of eight tables, zero where there is none

abbrev pub shape_bytes : Shape → List ℕ
shape_bytes s = number_bytes 2 s.window ++ (length s.rows ∷ (flat_map (number_bytes 4) s.rows ++ zeros (32 - 4 * length s.rows)))

-- ---- the form

abbrev pub shape_fields : Form Shape
shape_fields =
    via (number 2 ⊗ both byte (λ n. padded (many MAX_TABLES n (number 4)) (32 - 4 * n)))
    (λ (s : Shape). (s.window, (length s.rows, s.rows))) (λ x. option_map shape_of (result_ok (allowed (setting x.0 MIN_CELLS x.1.1))))

abbrev pub shape_form : Form Shape
shape_form = as_named shape_fields IsShape shape_bytes
