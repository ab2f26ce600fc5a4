use Rattle.std.proofs.Common.{rules}
use Rattle.rep_record.proofs.replay.replay_record.Goals as goal

pub returns-clause-replayed : goal.returns-clause-replayed
returns-clause-replayed g c = search rules
