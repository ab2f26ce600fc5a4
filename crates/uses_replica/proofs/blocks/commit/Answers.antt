use Rattle.std.proofs.Common.{◌<◌, length, sym, ◌∙◌, arith}
use Rattle.std.specs.Prelude.{is_some}
use Rattle.rep_types.proofs.Choices.{or_both}
use Rattle.rep_replica.specs.Replicas.{facts_of}
use Rattle.uses_replica.proofs.Committing.{came_none, came_on, came_ended}
use Rattle.uses_replica.proofs.blocks.commit.Goals as goal

pub loop-replica-init : goal.loop-replica-init
loop-replica-init g c = came_none g.D.Disk c.runs_are_joined.ensures c.args.replica.now (sym c.is_stopped.ensures ∙ c.if-is_stopped.false)

-- behind one block more: where there are replies to let go, and where there are none
pub loop-replica-preserved-in_default : goal.loop-replica-preserved-in_default
loop-replica-preserved-in_default g c =
    let r = c.loop-replica.replica in
    let running = c.loop-replica.invariant.running in
    let some : 0 < length (facts_of g.D.Disk r).ahead = omega (arith, c.loop-replica-test.true, c.durable.ensures.durable, c.delivered.ensures.facts ((or_both r.stopped (is_some r.engine.halted) running).0)) in
    came_on g.D.Disk c.runs_are_joined.ensures c.args.pages c.args.replica.now r c.commit_block.new.self c.loop-replica.invariant c.in_default.field-0 c.in_default.ensures.running (c.in_default.ensures.commits running some)

pub loop-replica-preserved-in_default-2 : goal.loop-replica-preserved-in_default-2
loop-replica-preserved-in_default-2 g c =
    let r = c.loop-replica.replica in
    let running = c.loop-replica.invariant.running in
    let some : 0 < length (facts_of g.D.Disk r).ahead = omega (arith, c.loop-replica-test.true, c.durable.ensures.durable, c.delivered.ensures.facts ((or_both r.stopped (is_some r.engine.halted) running).0)) in
    came_on g.D.Disk c.runs_are_joined.ensures c.args.pages c.args.replica.now r c.commit_block.new.self c.loop-replica.invariant c.in_default.field-0 c.in_default.ensures.running (c.in_default.ensures.commits running some)

pub returns-in-Err-clause-committed : goal.returns-in-Err-clause-committed
returns-in-Err-clause-committed g c = λ runs.
    let r = c.loop-replica.replica in
    let running = c.loop-replica.invariant.running in
    let some : 0 < length (facts_of g.D.Disk r).ahead = omega (arith, c.loop-replica-test.true, c.durable.ensures.durable, c.delivered.ensures.facts ((or_both r.stopped (is_some r.engine.halted) running).0)) in
    let commits = c.in-Err.ensures.commits running some in
    came_ended g.D.Disk c.runs_are_joined.ensures c.args.pages c.args.replica.now r c.commit_block.new.self c.loop-replica.invariant c.in-Err.refusal _
    (omega (arith, c.durable-in-Err.ensures.durable, c.durable-first.ensures.durable, c.loop-replica.invariant.durable, commits.block.durable)) commits
