use Rattle.rep_pages.proofs.Unchanged.{unchanged_stay}
use Rattle.rep_pages.proofs.laws.unchanged_pages_stay.Goals as goal

pub returns : goal.returns
returns c = unchanged_stay
