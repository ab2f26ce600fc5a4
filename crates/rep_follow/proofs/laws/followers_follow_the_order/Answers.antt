use Rattle.rep_follow.proofs.Followers.{followers_follow}
use Rattle.rep_follow.proofs.laws.followers_follow_the_order.Goals as goal

pub returns : goal.returns
returns g c = followers_follow g.D.Disk c.lives_with_snapshots_follow_the_order.ensures
