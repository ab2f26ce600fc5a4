use Rattle.std.proofs.Common.{Ok}
use Rattle.rep_follow.proofs.Committing.{goes_none, goes_both}
use Rattle.rep_follow.proofs.Joins.{goes_read, goes_asked}
use Rattle.rep_follow.proofs.laws.going_is_joined.Goals as goal

pub returns : goal.returns
returns g c = record {
  none = λ r counts text has. goes_none g.D.Disk r counts text (Ok tt) has tt;
  asked = goes_asked g.D.Disk c.asks_are_given_up.ensures;
  read = λ old new key position a counts text has step. goes_read g.D.Disk c.runs_are_joined.ensures old new key position a step counts text has;
  both = λ old mid new items more lines behind was between now before written after result one two. goes_both g.D.Disk old mid new items more lines behind was between now before written after tt result one two;
}
