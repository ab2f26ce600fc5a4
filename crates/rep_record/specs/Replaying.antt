-- Records that are given on, one by one.
use Rattle.std.specs.Prelude.{◌≡◌, List, [], ◌∷◌, ◌++◌}
use Rattle.rep_types.specs.declared.judged.Judged.{Judged}
use Rattle.rep_record.specs.declared.replays.Replays.{Ghosts}

-- They were taken, one behind another.
abbrev pub Replayed : {S : Type 0} → Ghosts S → S → List Judged → S → Type 0
Replayed g s [] t = s ≡ t
Replayed {S} g s (j ∷ records) t = (u : S) × g.takes s j u × Replayed g u records t

-- One of them is not taken, behind those before it, which are.
pub record Rejected {S : Type 0} (g : Ghosts S) (s : S) (records : List Judged) : Type 0 where
  pub before : List Judged
  pub one : Judged
  pub behind : List Judged
  pub split : records ≡ before ++ one ∷ behind
  pub state : S
  pub replayed : Replayed g s before state
  pub why : g.rejects state one
