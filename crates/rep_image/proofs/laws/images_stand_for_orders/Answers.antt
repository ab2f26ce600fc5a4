use Rattle.rep_image.proofs.Standing.{stand}
use Rattle.rep_image.proofs.laws.images_stand_for_orders.Goals as goal

pub returns : goal.returns
returns c = stand c.judged_items_extend_the_order.ensures
