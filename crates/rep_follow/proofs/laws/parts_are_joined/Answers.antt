use Rattle.rep_follow.proofs.Committing.{follows_none, follows_ask, follows_both}
use Rattle.rep_follow.proofs.Joins.{follows_read}
use Rattle.rep_follow.proofs.Parts.{keeps_the_order}
use Rattle.rep_follow.proofs.laws.parts_are_joined.Goals as goal

pub returns : goal.returns
returns g c = record {
  none = follows_none g.D.Disk;
  asked = follows_ask g.D.Disk c.asks_are_given_up.ensures;
  read = follows_read g.D.Disk c.runs_are_joined.ensures;
  both = follows_both g.D.Disk;
  order = keeps_the_order g.D.Disk c.runs_come_to.ensures c.runs_answer_the_order.ensures c.nodes_hold_the_order.ensures;
}
