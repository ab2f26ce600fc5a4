use Rattle.rep_replica.proofs.Lives.{lives_follow}
use Rattle.rep_replica.proofs.laws.lives_follow_the_order.Goals as goal

pub returns : goal.returns
returns g c =
    lives_follow g.D.Disk c.stops_leave_what_holds.ensures.0 c.runs_follow_the_order.ensures.0 c.runs_follow_the_order.ensures.1 c.runs_follow_the_order.ensures.2 c.runs_follow_the_order.ensures.3 c.stops_leave_what_holds.ensures.1 c.stops_leave_what_holds.ensures.2
