use Rattle.std.proofs.Common.{sym, subst}
use Rattle.rep_types.specs.declared.judged.Judged.{Judged}
use Rattle.rep_session.specs.Sessions.{known}
use Rattle.rep_ordered.specs.Seats.{Place}
use Rattle.rep_node.specs.declared.home.Home.{Home}
use Rattle.rep_node.specs.Reading.{IsReaderOf}
use Rattle.rep_node.specs.Rows.{Beside}
use Rattle.test_node.specs.Running.{Runs}
use Rattle.test_node.proofs.Running.{gets, same_seat}
use Rattle.test_node.proofs.tests.running.Running.get.Goals as goal

pub invariant_of-result : goal.invariant_of-result
invariant_of-result g c =
    let out = c.into_parts-seat.ensures.seat in
    let before : Runs c.self.inside.node c.new-rows.result.seat c.self.inside.reader = subst (λ (b : Beside g.row.D.Denot). Runs c.self.inside.node b.seat c.self.inside.reader) (sym c.new-rows.ensures) c.self.invariant in
    let own : IsReaderOf c.get-row.new.rows.seat.view c.into_parts-seat.result.1 = subst (λ (s : Place (Home g.row.D.Denot) Judged). IsReaderOf s.view c.into_parts-seat.result.1) out c.into_parts-seat.ensures.own in
    let behind : Runs c.self.inside.node c.get-row.new.rows.seat c.into_parts-seat.result.1 = gets g.D.Disk _ c.self.inside.node c.new-rows.result c.get-row.new.rows c.self.inside.reader c.into_parts-seat.result.1 c.args.session.now c.get-row.new.self c.args.key c.get-row.result (known c.args.session.now c.args.key) c.get-row.ensures before own in
    same_seat c.self.inside.node c.get-row.new.rows.seat c.into_parts-seat.result.0 c.into_parts-seat.result.1 c.into_parts-seat.result.1 behind out c.into_parts-seat.ensures.own
