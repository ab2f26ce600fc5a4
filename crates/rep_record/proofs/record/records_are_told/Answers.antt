use Rattle.std.proofs.Common.{List, ℕ, [], ◌++◌, ap}
use Rattle.rep_record.proofs.record.records_are_told.Goals as goal

pub returns : goal.returns
returns c = record {
  apart = c.spellings_are_told.ensures;
  one_spelling = λ i j h k e. (c.spellings_are_told.ensures i j [] [] h k (ap (λ (bytes : List ℕ). bytes ++ []) e)).0;
}
