use Rattle.rep_pages.proofs.Spelled.{spell_rows}
use Rattle.rep_pages.proofs.page.Page.position_in.Goals as goal

pub returns-in-Some-clause-found : goal.returns-in-Some-clause-found
returns-in-Some-clause-found c = (c.in-Some.ensures.found.1, spell_rows c.in-Some.ensures.found.1, c.in-Some.ensures.found.0)
