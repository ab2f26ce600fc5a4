use Rattle.std.proofs.Common.{◌≡◌, refl, sym, ap, ◌∙◌, arith}
use Rattle.rep_types.specs.declared.judged.Judged.{Judged}
use Rattle.rep_engine.specs.Engines.{durable_of}
use Rattle.rep_ordered.specs.declared.view.View.{View}
use Rattle.rep_node.specs.declared.home.Home.{Home}
use Rattle.rep_node.specs.Homes.{durable_in}
use Rattle.rep_node.proofs.Standing.{desk_found}
use Rattle.rep_node.proofs.Desks.{desk_entered}
use Rattle.rep_node.proofs.Keeps.{in_any_case}
use Rattle.rep_node.proofs.Peeks.{idle_look}
use Rattle.rep_node.proofs.node.Node.enter_desk.Goals as goal

pub desk_of-desk-requires : goal.desk_of-desk-requires
desk_of-desk-requires g c = let e = c.in_ok-side_enter.ensures.entered in desk_found g.D.Disk c.args.seat.now.view.first e.0 0 c.side_enter.new.seat.view.durable c.side_enter.new.seat.view.seen c.in_ok-side_enter.field-0 e.1.keeps

pub returns-in_err-side_enter-clause-idle : goal.returns-in_err-side_enter-clause-idle
returns-in_err-side_enter-clause-idle g c = let stopped = c.in_err-side_enter.ensures.stopped in
    in_any_case c.from_residual.result _ (idle_look c.args.seat.now.view c.side_enter.new.seat.view stopped.1 stopped.2 c.requires.free, ap (λ (z : View (Home g.row.D.Denot) Judged). z.given_up) stopped.1.same)

pub returns-clause-at : goal.returns-clause-at
returns-clause-at g c = let e = c.in_ok-side_enter.ensures.entered in desk_entered g.D.Disk c.args.seat.now.view c.side_enter.new.seat.view e.0 c.in_ok-side_enter.field-0 c.desk_of-desk.result c.requires.free e.1 c.desk_of-desk.ensures

pub returns-clause-known : goal.returns-clause-known
returns-clause-known g c =
    let durable = (c.in_ok-side_enter.ensures.entered.1.backed refl).1 in
    let named : durable_in c.in_ok-side_enter.field-0 ≡ durable_of c.desk_of-desk.result.engine.log = ap durable_in c.desk_of-desk.ensures in
    omega (arith, durable, named)

pub returns-clause-runs : goal.returns-clause-runs
returns-clause-runs g c = let runs = c.in_ok-side_enter.ensures.runs in (runs, sym c.in_ok-side_enter.ensures.entered.1.halted ∙ runs)
