use Rattle.std.proofs.Common.{rules, ◌≡◌, arith, ap}
use Rattle.rep_ordered.specs.Seats.{Place}
use Rattle.rep_ordered.proofs.Seating.{splits}
use Rattle.rep_ordered.proofs.lock.OrderedLock.split_as.Goals as goal

pub split_seat-requires : goal.split_seat-requires
split_seat-requires g c = let same = ap (λ (z : Place g.row.V.Denot g.row.E.Denot). z.view.allowance) c.seat.view_is in let pick : g.G.Giving.give ≡ c.args.give = c.requires.pick in
    (search rules, search rules, splits _ _ _ _ _ _ _ g.G.Giving.give (omega arith) (omega arith))
