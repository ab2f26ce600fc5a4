use Rattle.rep_replica.proofs.Episodes.{lives_with_snapshots_follow}
use Rattle.rep_replica.proofs.laws.lives_with_snapshots_follow_the_order.Goals as goal

pub returns : goal.returns
returns g c =
    lives_with_snapshots_follow g.D.Disk c.stops_leave_what_holds.ensures.0 c.runs_follow_the_order.ensures.0 c.runs_follow_the_order.ensures.1 c.runs_follow_the_order.ensures.2 c.runs_follow_the_order.ensures.3 c.stops_leave_what_holds.ensures.1 c.stops_leave_what_holds.ensures.2 c.fronts_stand_for_the_order.ensures c.history_by_items.ensures
