use Rattle.rep_catchup.proofs.JoinGrowing.{grown_none}
use Rattle.rep_catchup.proofs.joining.make_room.Goals as goal

pub returns-clause-grown : goal.returns-clause-grown
returns-clause-grown g c = grown_none c.history_by_items.ensures g.D.Disk c.runs_are_joined.ensures c.args.replica.now
