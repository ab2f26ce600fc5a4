use Rattle.rep_requests.specs.Requests.{requested}
use Rattle.rep_follow.proofs.Asked.{no_item_at}
use Rattle.rep_follow.proofs.feeding.is_next.Goals as goal

pub returns-clause-none : goal.returns-clause-none
returns-clause-none c is_other = no_item_at c.args.seqno (requested 0 c.args.line.now) (λ i is. c.renew_numbered.ensures.none is_other 0 i is)
