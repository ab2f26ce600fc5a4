-- Sums as lines.
use Rattle.std.specs.Prelude.{◌≡◌, ℕ, List, ◌++◌, codes, Option, None, Some, Result, Ok, Err, IfErr}
use Rattle.std.specs.Io.KnownBytes.{Keeps}
use Rattle.rep_types.specs.declared.refusal.Refusal.{Refusal}
use Rattle.rep_types.specs.declared.refusal.Refusal.TheVariants.{StreamFault}
use Rattle.rep_disk.specs.declared.disk.Disk.{Ghosts}
use Rattle.rep_catchup.specs.Replicas.{Replica, facts_of}
use Rattle.rep_sum.specs.declared.sum.Sum.{Sum}
use Rattle.rep_sum.specs.Sums.{IsSumAt, sum_text}
use Rattle.rep_script.specs.Answering.{Tells}

-- the line that is said of a sum
abbrev pub sum_line : Sum → List ℕ
sum_line sum = codes "sum " ++ (sum_text sum ++ codes "\n")

-- the position of a sum: this one, or what is durable
abbrev pub position_of : {D : Type 0} → Ghosts D → Replica D → Option ℕ → ℕ
position_of g r None = (facts_of g r).durable
position_of g r (Some position) = position

-- A sum was taken there, or refused.
abbrev pub TakesSum : {D : Type 0} → Ghosts D → Replica D → Option ℕ → Replica D → Type 0
TakesSum g old asked new = (result : Result Sum Refusal) × IsSumAt g (position_of g old asked) old result new

-- What is written of a sum: its line, or a front of it where the writer failed; and nothing where it was refused.
abbrev pub TellsResult : Result Sum Refusal → Option (List ℕ) → Option (List ℕ) → Result (Unit {0}) Refusal → Type 0
TellsResult (Ok sum) before after result = Tells (sum_line sum) before after result × IfErr result (λ refusal. refusal ≡ StreamFault)
TellsResult (Err refusal) before after result = (result ≡ Err refusal) × Keeps before after

-- A sum was taken there, and its line written; or it was refused.
pub record TellsSum {D : Type 0} (g : Ghosts D) (asked : Option ℕ) (old new : Replica D) (before after : Option (List ℕ)) (result : Result (Unit {0}) Refusal) : Type 0 where
  pub sum : Result Sum Refusal
  pub taken : IsSumAt g (position_of g old asked) old sum new
  pub told : TellsResult sum before after result
