-- The texts of verdicts and of refusals.
use Rattle.std.specs.Prelude.{ℕ, List, [], ◌∷◌, ◌++◌, codes}
use Rattle.std.specs.Fmt.{decimal}
use Rattle.rep_types.specs.declared.refusal.Data.{Data}
use Rattle.rep_types.specs.declared.refusal.Data.TheVariants.{Nothing, Figure, Place}
use Rattle.rep_types.specs.declared.refusal.Refusal.{Refusal}
use Rattle.rep_types.specs.declared.verdict.Verdict.{Verdict}
use Rattle.rep_types.specs.declared.verdict.Verdict.TheVariants.{Commit, Conflict, Stale, Future, BadKey}
use Rattle.rep_types.specs.Refusals.{part_name, refusal_name, refusal_data}

-- how a verdict is written
abbrev pub verdict_text : Verdict → List ℕ
verdict_text Commit = codes "commit"
verdict_text (Conflict m) = codes "conflict " ++ decimal m
verdict_text Stale = codes "stale"
verdict_text Future = codes "future"
verdict_text BadKey = codes "badkey"

-- how a refusal's data is written, behind its name
abbrev pub data_text : Data → List ℕ
data_text Nothing = []
data_text (Figure n) = 32 ∷ decimal n
data_text (Place part) = 32 ∷ part_name part

-- how a refusal is written
abbrev pub refusal_text : Refusal → List ℕ
refusal_text e = refusal_name e ++ data_text (refusal_data e)
