use Rattle.rep_pool.proofs.Pages.{is_page}
use Rattle.rep_pool.proofs.laws.pages_are_places.Goals as goal

pub returns : goal.returns
returns c = is_page
