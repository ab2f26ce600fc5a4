use Rattle.rep_pages.proofs.Bodies.{told_by}
use Rattle.rep_pages.proofs.laws.pages_are_told.Goals as goal

pub returns : goal.returns
returns c = told_by c.spellings_are_told.ensures c.spellings_are_told-2.ensures
