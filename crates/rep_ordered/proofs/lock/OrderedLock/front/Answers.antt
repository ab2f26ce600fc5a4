use Rattle.std.proofs.Common.{length, ◌≡◌, ◌+◌, rules, ap, subst}
use Rattle.atomic_table.specs.Seated.{TableId}
use Rattle.rep_ordered.specs.declared.view.View.{View}
use Rattle.rep_ordered.specs.Seats.{Place}
use Rattle.rep_ordered.proofs.Drawing.{fronts}
use Rattle.rep_ordered.proofs.Places.{still_seated}
use Rattle.rep_ordered.proofs.lock.OrderedLock.front.Goals as goal

pub load-requires : goal.load-requires
load-requires g c = (search rules, search rules, fronts g.V.Keeps.legal g.V.Keeps.at_home g.V.Keeps.durable_of g.V.Keeps.common_of g.V.Keeps.grows _ _ _ _ c.seat.invariant.lives)

pub invariant_of-seat : goal.invariant_of-seat
invariant_of-seat g c = let t = c.load.ensures.2 in still_seated _ _ _ _ _ (ap (λ (z : TableId). z.slots) c.load.ensures.0) c.seat.invariant t.0.0 t.0.1

pub returns-clause-last : goal.returns-clause-last
returns-clause-last g c = let t = c.load.ensures.2 in subst (λ (z : View g.row.V.Denot g.row.E.Denot). z.allowance + length z.own ≡ z.whole → (c.load.new.seat.me.0.view.halted ≡ z.halted) × (c.load.new.seat.me.0.view.seen ≡ z.seen)) (ap (λ (z : Place g.row.V.Denot g.row.E.Denot). z.view) c.seat.view_is) (t.2 c.seat.invariant.told)
