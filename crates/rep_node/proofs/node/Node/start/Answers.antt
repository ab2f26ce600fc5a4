use Rattle.std.proofs.Common.{◌∙◌, inl, refl}
use Rattle.rep_replica.specs.Settling.{IsRunning}
use Rattle.rep_node.specs.Ending.{IsTakenApart}
use Rattle.rep_node.proofs.Beginning.{is_running, again, same_replica}
use Rattle.rep_node.proofs.node.Node.start.Goals as goal
use Rattle.rep_node.proofs.node.Node.start.Goals.{After-into_parts-certifier}

runs : (g : _) (c : After-into_parts-certifier g) → IsRunning c.args.replica
runs g c = is_running g.D.Disk c.args.replica c.is_stopped.result c.is_stopped.ensures c.if-is_stopped.false

apart : (g : _) (c : After-into_parts-certifier g) → IsTakenApart g.D.Disk c.args.replica c.into_parts-certifier.result.0 c.into_parts-certifier.result.1 c.into_parts-certifier.result.2
apart g c = let parts = c.into_parts-certifier.ensures.parts in record {
  same_certifier = parts.0;
  same_backlog = parts.1;
  same_engine = parts.2;
  parts = c.histories_lie_between_replicas.ensures.begins c.args.replica c.into_parts-certifier.ensures.replica (runs g c).inside c.requires.quiet;
  works = (runs g c).device;
  defined = c.requires.defined;
}

pub start_from-requires-clause-parts : goal.start_from-requires-clause-parts
start_from-requires-clause-parts g c = (c.args.replica, apart g c)

pub returns-in-Ok-clause-starts : goal.returns-in-Ok-clause-starts
returns-in-Ok-clause-starts g c = c.in-Ok.ensures.starts c.args.replica (apart g (goal.at.returns-in-Ok-clause-starts g c).After-into_parts-certifier)

pub returns-in-Ok-clause-running : goal.returns-in-Ok-clause-running
returns-in-Ok-clause-running g c = runs g (goal.at.returns-in-Ok-clause-running g c).After-into_parts-certifier

pub from_parts-replica-requires : goal.from_parts-replica-requires
from_parts-replica-requires g c = let at = (goal.at.from_parts-replica-requires g c).After-into_parts-certifier in let parts = c.into_parts-certifier.ensures.parts in let back = c.in-Err.ensures.refused in
    again g.D.Disk c.args.replica _ _ _ (back.0 ∙ parts.0) (back.1 ∙ parts.1) (back.2 ∙ parts.2) (runs g at).inside c.into_parts-certifier.ensures.replica

pub returns-in-Err-clause-refused : goal.returns-in-Err-clause-refused
returns-in-Err-clause-refused g c = let at = (goal.at.returns-in-Err-clause-refused g c).After-into_parts-certifier in let parts = c.into_parts-certifier.ensures.parts in let back = c.in-Err.ensures.refused in (
  same_replica g.D.Disk c.args.replica c.from_parts-replica.result _ _ _ c.from_parts-replica.ensures (back.0 ∙ parts.0) (back.1 ∙ parts.1) (back.2 ∙ parts.2) (runs g at).inside,
  inl (refl, runs g at),
)
