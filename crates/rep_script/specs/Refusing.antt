-- The line of a refusal (this project).
use Rattle.std.specs.Prelude.{ℕ, List, [], ◌∷◌, ◌++◌, codes}
use Rattle.std.specs.Fmt.{decimal}
use Rattle.rep_types.specs.declared.refusal.Refusal.{Refusal}
use Rattle.rep_types.specs.Refusals.{refusal_number}
use Rattle.rep_types.specs.Texts.{refusal_text}

-- the line of a refusal: its number, what it is called, and its data
abbrev pub refused_line : Refusal → List ℕ
refused_line e = codes "refused " ++ (decimal (refusal_number e) ++ (32 ∷ (refusal_text e ++ 10 ∷ [])))
