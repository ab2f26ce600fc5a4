use Rattle.std.proofs.Common.{ap, ◌∙◌}
use Rattle.rep_node.specs.Rows.{Beside}
use Rattle.test_node.proofs.Running.{same_seat}
use Rattle.test_node.proofs.tests.running.Running.begin.Goals as goal

pub invariant_of-result : goal.invariant_of-result
invariant_of-result g c = same_seat c.self.inside.node c.self.inside.seat c.into_parts-seat.result.0 c.self.inside.reader c.into_parts-seat.result.1 c.self.invariant
    (c.into_parts-seat.ensures.seat ∙ (c.begin-session.ensures.snapshot.still ∙ ap (λ (b : Beside g.row.D.Denot). b.seat) c.new-rows.ensures)) c.into_parts-seat.ensures.own
