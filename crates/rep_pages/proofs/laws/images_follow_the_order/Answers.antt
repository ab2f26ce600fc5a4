use Rattle.rep_pages.proofs.Following.{follow_order}
use Rattle.rep_pages.proofs.laws.images_follow_the_order.Goals as goal

pub returns : goal.returns
returns c = follow_order c.versions_follow_the_items.ensures
