use Rattle.std.proofs.Common.{rules, ◌≡◌, ◌∙◌, Err, sym, subst, arith}
use Rattle.std.specs.Prelude.{IfSome, Option}
use Rattle.rep_types.specs.declared.refusal.Refusal.TheVariants.{NotDue}
use Rattle.rep_node.specs.declared.checking.Checked.{Checked}
use Rattle.rep_node.specs.Checking.{EndsAt}
use Rattle.rep_node.specs.Seats.{WentIdle}
use Rattle.rep_node.proofs.Moves.{seat_still}
use Rattle.rep_node.proofs.AtEngine.{idle_on}
use Rattle.rep_node.proofs.node.Node.check_seat.Given.{Over}
use Rattle.rep_node.proofs.node.Node.check_seat.Goals as goal
use Rattle.rep_node.proofs.node.Node.check_seat.Goals.{After-go_on}

-- what the seat has come to
gone : (g : Over) (c : After-go_on g) → WentIdle c.args.seat.now.view c.go_on.new.seat.view
gone g c = let went = c.loop.invariant.1 in idle_on c.args.seat.now.view c.loop.seat.view c.go_on.new.seat.view went.0 went.1 went.2 c.go_on.ensures.idle

pub returns-in_err-position-clause-due : goal.returns-in_err-position-clause-due
returns-in_err-position-clause-due g c = λ told. let was : c.begin_checkpoint.result ≡ Err NotDue = search rules in c.begin_checkpoint.ensures.due was

pub go_on-requires-clause-seat : goal.go_on-requires-clause-seat
go_on-requires-clause-seat g c = let went = c.loop.invariant.1 in seat_still g.D.Disk c.args.seat.now.view c.loop.seat.view went.0.goes went.1 c.requires.seat

pub returns-in_err-checked-clause-idle : goal.returns-in_err-checked-clause-idle
returns-in_err-checked-clause-idle g c = gone g (goal.at.returns-in_err-checked-clause-idle g c).After-go_on

pub returns-then-checked-position-clause-idle : goal.returns-then-checked-position-clause-idle
returns-then-checked-position-clause-idle g c = gone g (goal.at.returns-then-checked-position-clause-idle g c).After-go_on

pub returns-then-checked-position-clause-checked : goal.returns-then-checked-position-clause-checked
returns-then-checked-position-clause-checked g c =
    let ends = subst (λ (o : Option Checked). IfSome o (EndsAt c.loop.seat.view.first c.go_on.new.seat.view)) c.in-Some-2.is c.in_ok-checked.ensures.ended in
    let low = c.in_ok-position.ensures.position in let base = c.if-checked-position.true in
    ends c.args.seat.now.view (sym c.loop.invariant.1.0.goes.first) (omega (arith, low, base))

pub loop-preserved-in-Some-2 : goal.loop-preserved-in-Some-2
loop-preserved-in-Some-2 g c = let idle = gone g (goal.at.loop-preserved-in-Some-2 g c).After-go_on in (c.go_on.ensures.lock ∙ c.loop.invariant.0, idle, search rules)

pub loop-preserved : goal.loop-preserved
loop-preserved g c = let idle = gone g (goal.at.loop-preserved g c).After-go_on in (c.go_on.ensures.lock ∙ c.loop.invariant.0, idle, search rules)
