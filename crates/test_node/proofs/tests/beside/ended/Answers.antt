use Rattle.std.proofs.Common.{◌≤◌, ap, arith}
use Rattle.rep_types.specs.declared.judged.Judged.{Judged}
use Rattle.rep_ordered.specs.declared.view.View.{View}
use Rattle.rep_node.specs.declared.home.Home.{Home}
use Rattle.test_node.specs.Running.{Runs}
use Rattle.test_node.proofs.Running.{split_off, starts, taken_in}
use Rattle.test_node.proofs.tests.beside.ended.Given.{Over}
use Rattle.test_node.proofs.tests.beside.ended.Goals as goal
use Rattle.test_node.proofs.tests.beside.ended.Goals.{After-new-pace}

-- the node, its first seat and its reader, before the seat was split
begun : (g : Over) (c : After-new-pace g) → Runs c.in-Ok.made.0 c.in-Ok.made.1 c.in-Some.reader
begun g c = starts g.D.Disk c.in-Ok.made.0 c.in-Ok.made.1 c.in_ok-replica.replica c.in-Ok.made.2.items c.pop.new.self.items c.in-Some.reader _ _ _ c.in-Ok.ensures.lock c.in-Ok.ensures.view c.in-Ok.ensures.starts c.in-Some.ensures.items

-- a new replica has a seqno to give
some : (g : Over) (c : After-new-pace g) → 1 ≤ c.in-Ok.made.1.view.allowance
some g c = let allowance = ap (λ (v : View (Home g.row.D.Denot) Judged). v.allowance) c.in-Ok.ensures.view in let durable = c.durable.ensures.durable in let new = c.if-durable-gt0.false in omega (arith, allowance, durable, new)

pub both-durable-requires-clause-reader : goal.both-durable-requires-clause-reader
both-durable-requires-clause-reader g c κs within = split_off _ _ c.in-Ok.made.1 c.split-other.result c.in-Some.reader 1 (begun g (goal.at.both-durable-requires-clause-reader g c).After-new-pace) c.split-other.ensures.given

pub close-requires-clause-all : goal.close-requires-clause-all
close-requires-clause-all g c = let at = (goal.at.close-requires-clause-all g c).After-new-pace in
    taken_in _ _ c.in-Ok.made.1.view c.both-durable.new.seat.view c.both-durable.new.other.view c.join.new.seat.view c.split-other.new.seat c.split-other.result 1 (begun g at).all (some g at) c.split-other.ensures.seat c.split-other.ensures.given c.both-durable.ensures.goes.0 c.both-durable.ensures.goes.1 c.join.ensures.joined
