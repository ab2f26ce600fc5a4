use Rattle.rep_checkpoint.proofs.Facts.{facts}
use Rattle.rep_checkpoint.proofs.laws.the_stage_is_the_facts.Goals as goal

pub returns : goal.returns
returns c = facts
