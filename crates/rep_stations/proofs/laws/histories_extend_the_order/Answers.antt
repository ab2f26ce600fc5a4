use Rattle.rep_stations.proofs.Extends.{histories_extend}
use Rattle.rep_stations.proofs.laws.histories_extend_the_order.Goals as goal

pub returns : goal.returns
returns g c =
    histories_extend g.D.Disk c.judging_goes_on.ensures c.judged_items_extend_the_order.ensures c.state_is_enough.ensures
    c.nodes_hold_the_order.ensures c.fronts_stand_for_the_order.ensures c.steps_follow_the_order.ensures
