-- Lists of items that have a place in a block.
use Rattle.std.proofs.Common.{◌≡◌, ℕ, zero, suc, true, List, [], ◌∷◌, ◌++◌, drop}
use Rattle.rep_types.specs.declared.judged.Judged.{Judged}
use Rattle.rep_record.specs.Records.{is_placed}
use Rattle.rep_replica.specs.Replicas.{ArePlaced}

pub placed_more : (js : List Judged) (j : Judged) → ArePlaced js → is_placed j ≡ true → ArePlaced (js ++ j ∷ [])
placed_more [] j all one = (one, tt)
placed_more (first ∷ js) j all one = (all.0, placed_more js j all.1 one)

pub placed_drop : (k : ℕ) (js : List Judged) → ArePlaced js → ArePlaced (drop k js)
placed_drop zero js all = all
placed_drop (suc k) [] all = tt
placed_drop (suc k) (j ∷ js) all = placed_drop k js all.1
