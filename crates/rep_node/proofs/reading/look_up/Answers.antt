use Rattle.rep_steps.specs.declared.event.Event.TheVariants.{Read}
use Rattle.rep_engine.specs.Holding.{row}
use Rattle.rep_node.proofs.Asks.{engine_refuses, engine_rows}
use Rattle.rep_node.proofs.reading.look_up.Goals as goal

pub returns-clause-taken : goal.returns-clause-taken
returns-clause-taken g c = c.taken_items_stay.ensures.step c.args.engine.now c.read.new.self (Read c.args.key c.args.at) (row c.read.result) tt c.durable-durable.ensures.engine c.read.ensures.moves c.read.ensures.steps

pub returns-clause-row : goal.returns-clause-row
returns-clause-row g c = engine_rows g.D.Disk c.args.engine.now c.read.new.self c.args.key c.args.at c.requires c.histories_extend_the_order.ensures c.read.result c.read.ensures.moves c.read.ensures.steps

pub returns-clause-refused : goal.returns-clause-refused
returns-clause-refused g c = engine_refuses g.D.Disk c.args.engine.now c.read.new.self c.args.key c.args.at c.requires c.read.result c.read.ensures.moves c.read.ensures.steps
