use Rattle.std.proofs.Common.{List, ℕ, [], ◌++◌, ap}
use Rattle.rep_layout.proofs.super_body.superblocks_are_told.Goals as goal

pub returns : goal.returns
returns c = λ s t h k e. (c.spellings_are_told.ensures s t [] [] h k (ap (λ (bytes : List ℕ). bytes ++ []) e)).0
