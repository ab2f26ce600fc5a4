use Rattle.std.proofs.Common.{◌<◌, ap}
use Rattle.rep_types.proofs.Choices.{success_weaker}
use Rattle.rep_ordered.specs.Seats.{Place}
use Rattle.rep_ordered.specs.Views.{reached_at}
use Rattle.uses_ordered.proofs.Passes.{done_twice}
use Rattle.uses_ordered.proofs.passing.pass_one.Goals as goal

pub returns-clause-done : goal.returns-clause-done
returns-clause-done g c = let seat = c.claim-ticket.ensures.seat in let first = c.pass_station.ensures in let second = c.pass_station-2.ensures in
    let here : c.claim-ticket.result < reached_at 0 c.pass_station.new.seat.view.reached = c.in_ok-pass_station.ensures.reached in
    success_weaker c.pass_station-2.result second.reached (λ there. done_twice c.args.seat.now.view c.claim-ticket.new.seat.view c.pass_station.new.seat.view c.pass_station-2.new.seat.view c.claim-ticket.result
    (ap (λ (z : Place _ _). z.view.own) seat) (ap (λ (z : Place _ _). z.view.reached) seat) first.own second.own first.went second.went here there c.requires.done)
