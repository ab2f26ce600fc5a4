use Rattle.std.proofs.Common.{rules, arith, ap}
use Rattle.atomic_table.specs.Seated.{TableId}
use Rattle.rep_ordered.specs.Seats.{Place}
use Rattle.rep_ordered.proofs.Drawing.{raises}
use Rattle.rep_ordered.proofs.Places.{still_seated}
use Rattle.rep_ordered.proofs.lock.OrderedLock.raise.Goals as goal

pub fetch_max-found-requires : goal.fetch_max-found-requires
fetch_max-found-requires g c = let same = ap (λ (z : Place g.row.V.Denot g.row.E.Denot). z.view.backed) c.seat.view_is in (search rules, search rules, raises g.V.Keeps.legal g.V.Keeps.at_home g.V.Keeps.durable_of g.V.Keeps.common_of g.V.Keeps.grows _ _ _ _ _ (search rules) (omega arith) c.seat.invariant.lives)

pub invariant_of-seat : goal.invariant_of-seat
invariant_of-seat g c = let t = c.fetch_max-found.ensures.2 in still_seated _ _ _ _ _ (ap (λ (z : TableId). z.slots) c.fetch_max-found.ensures.0) c.seat.invariant t.0.0 t.0.1
