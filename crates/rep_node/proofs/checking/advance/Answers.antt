use Rattle.rep_steps.specs.declared.event.Event.TheVariants.{Check, Flush, Sync}
use Rattle.rep_engine.specs.Holding.{synced, wrote}
use Rattle.rep_node.proofs.Checks.{next_under_way, write_works}
use Rattle.rep_node.proofs.Stepping.{base_rises}
use Rattle.rep_node.proofs.checking.advance.Goals as goal

pub returns-in-Flush-clause-taken : goal.returns-in-Flush-clause-taken
returns-in-Flush-clause-taken g c = c.taken_items_stay.ensures.step c.args.engine.now c.flush.new.self (Flush _) (wrote c.flush.result) tt c.durable-durable.ensures.engine c.flush.ensures.moves c.flush.ensures.steps

pub returns-in-Flush-clause-base : goal.returns-in-Flush-clause-base
returns-in-Flush-clause-base g c = base_rises g.D.Disk c.args.engine.now c.flush.new.self (Flush _) (wrote c.flush.result) tt c.durable-durable.ensures.engine c.flush.ensures.moves

pub returns-in-Flush-clause-works : goal.returns-in-Flush-clause-works
returns-in-Flush-clause-works g c = write_works g.D.Disk c.args.engine.now c.flush.new.self (Flush _) c.flush.result tt c.durable-durable.ensures.engine c.flush.ensures.moves

pub returns-in-Next-clause-taken : goal.returns-in-Next-clause-taken
returns-in-Next-clause-taken g c = let under = next_under_way c.args.engine.now c.in-Next.ensures in c.taken_items_stay.ensures.step c.args.engine.now c.check_next.new.self Check (wrote c.check_next.result) tt c.durable-durable.ensures.engine (c.check_next.ensures.moves under) (c.check_next.ensures.steps under)

pub returns-in-Next-clause-base : goal.returns-in-Next-clause-base
returns-in-Next-clause-base g c = base_rises g.D.Disk c.args.engine.now c.check_next.new.self Check (wrote c.check_next.result) tt c.durable-durable.ensures.engine (c.check_next.ensures.moves (next_under_way c.args.engine.now c.in-Next.ensures))

pub returns-in-Next-clause-works : goal.returns-in-Next-clause-works
returns-in-Next-clause-works g c = write_works g.D.Disk c.args.engine.now c.check_next.new.self Check c.check_next.result tt c.durable-durable.ensures.engine (c.check_next.ensures.moves (next_under_way c.args.engine.now c.in-Next.ensures))

pub returns-in_err-_replies-in-Sync-clause-taken : goal.returns-in_err-_replies-in-Sync-clause-taken
returns-in_err-_replies-in-Sync-clause-taken g c = c.taken_items_stay.ensures.step c.args.engine.now c.sync.new.self Sync (synced c.sync.result) tt c.durable-durable.ensures.engine c.sync.ensures.moves c.sync.ensures.steps

pub returns-in_ok-_replies-in-Sync-clause-taken : goal.returns-in_ok-_replies-in-Sync-clause-taken
returns-in_ok-_replies-in-Sync-clause-taken g c = c.taken_items_stay.ensures.step c.args.engine.now c.sync.new.self Sync (synced c.sync.result) tt c.durable-durable.ensures.engine c.sync.ensures.moves c.sync.ensures.steps

pub returns-in_err-_replies-in-Sync-clause-base : goal.returns-in_err-_replies-in-Sync-clause-base
returns-in_err-_replies-in-Sync-clause-base g c = base_rises g.D.Disk c.args.engine.now c.sync.new.self Sync (synced c.sync.result) tt c.durable-durable.ensures.engine c.sync.ensures.moves

pub returns-in_ok-_replies-in-Sync-clause-base : goal.returns-in_ok-_replies-in-Sync-clause-base
returns-in_ok-_replies-in-Sync-clause-base g c = base_rises g.D.Disk c.args.engine.now c.sync.new.self Sync (synced c.sync.result) tt c.durable-durable.ensures.engine c.sync.ensures.moves
