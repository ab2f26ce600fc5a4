-- Spellings are told apart.
use Rattle.std.specs.Prelude.{◌≡◌, ℕ, List, ◌++◌}
use Rattle.rep_forms.specs.Forms.{Form, many}

-- The spelling of a value tells the value and where it ends: none begins that of another.
abbrev pub AreTold : {A : Type 0} → Form A → Type 0
AreTold {A} F = (x y : A) (rest tail : List ℕ) → F.Fits x → F.Fits y → F.spell x ++ rest ≡ F.spell y ++ tail → (x ≡ y) × (rest ≡ tail)

-- So do the spellings of as many values, one after another.
abbrev pub RunsAreTold : {A : Type 0} → Form A → Type 0
RunsAreTold {A} F = (n : ℕ) → AreTold (many n n F)
