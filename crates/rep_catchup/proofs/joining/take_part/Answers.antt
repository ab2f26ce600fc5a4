use Rattle.std.proofs.Common.{rules}
use Rattle.rep_catchup.proofs.JoinGrowing.{grown_none}
use Rattle.rep_catchup.proofs.JoinTelling.{tells_malformed}
use Rattle.rep_catchup.proofs.joining.take_part.Goals as goal

pub returns-in-Snapshot-clause-kept : goal.returns-in-Snapshot-clause-kept
returns-in-Snapshot-clause-kept g c = grown_none c.history_by_items.ensures g.D.Disk c.runs_are_joined.ensures c.args.replica.now

pub returns-in-Snapshot-2-clause-kept : goal.returns-in-Snapshot-2-clause-kept
returns-in-Snapshot-2-clause-kept g c = grown_none c.history_by_items.ensures g.D.Disk c.runs_are_joined.ensures c.args.replica.now

pub returns-in-Snapshot-clause-tells : goal.returns-in-Snapshot-clause-tells
returns-in-Snapshot-clause-tells g c = tells_malformed g.D.Disk c.args.replica.now c.args.at

pub returns-in-Snapshot-2-clause-tells : goal.returns-in-Snapshot-2-clause-tells
returns-in-Snapshot-2-clause-tells g c = tells_malformed g.D.Disk c.args.replica.now c.args.at

pub returns-in-Snapshot-clause-refused : goal.returns-in-Snapshot-clause-refused
returns-in-Snapshot-clause-refused g c = search rules

pub returns-in_ok-settle-in-End-clause-took : goal.returns-in_ok-settle-in-End-clause-took
returns-in_ok-settle-in-End-clause-took g c = search rules
