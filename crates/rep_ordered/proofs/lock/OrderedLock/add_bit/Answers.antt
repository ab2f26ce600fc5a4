use Rattle.std.proofs.Common.{rules, arith, ap}
use Rattle.atomic_table.specs.Seated.{TableId}
use Rattle.rep_ordered.proofs.Drawing.{halts}
use Rattle.rep_ordered.proofs.Places.{still_seated}
use Rattle.rep_ordered.proofs.lock.OrderedLock.add_bit.Goals as goal

pub fetch_or-requires : goal.fetch_or-requires
fetch_or-requires g c = (search rules, search rules, halts g.V.Keeps.legal g.V.Keeps.at_home g.V.Keeps.durable_of g.V.Keeps.common_of g.V.Keeps.grows _ _ _ _ _ (omega arith) c.seat.invariant.lives)

pub invariant_of-seat : goal.invariant_of-seat
invariant_of-seat g c = let t = c.fetch_or.ensures.2 in still_seated _ _ _ _ _ (ap (λ (z : TableId). z.slots) c.fetch_or.ensures.0) c.seat.invariant t.0.0 t.0.1
