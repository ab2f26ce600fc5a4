use Rattle.rep_record.proofs.Fronts.{IsLongestFront-fitting, only_fitting, fitting_first, fitting_few}
use Rattle.rep_record.proofs.laws.fronts_are_determined.Goals as goal

pub returns : goal.returns
returns c = record { right = IsLongestFront-fitting; only = only_fitting; first = fitting_first; few = fitting_few }
