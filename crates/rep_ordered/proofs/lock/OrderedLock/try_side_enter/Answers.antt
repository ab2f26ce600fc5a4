use Rattle.std.proofs.Common.{rules, ◌≡◌, ◌+◌, ◌-◌, ◌/◌, Some, inr, arith, sym, refl, ap, ◌∙◌}
use Rattle.atomic_table.specs.Seated.{TableId}
use Rattle.rep_ordered.proofs.Entering.{enters}
use Rattle.rep_ordered.proofs.Places.{front_is, passed}
use Rattle.rep_ordered.proofs.lock.OrderedLock.try_side_enter.Goals as goal

pub compare_exchange-found-requires : goal.compare_exchange-found-requires
compare_exchange-found-requires g c =
    let slots = ap (λ (z : TableId). z.slots) c.self.view_is in let station = c.requires.station in let words = c.self.invariant.0 in
    (search rules, omega arith, enters g.V.Keeps.legal g.V.Keeps.at_home g.V.Keeps.durable_of g.V.Keeps.common_of g.V.Keeps.grows _ _ _ _ _ _ _ (c.peek-free.result / 4) 2 (omega arith) (omega arith) (omega arith) (inr refl) (λ e. absurd (omega arith)) c.seat.invariant.lives)

pub exchange-requires : goal.exchange-requires
exchange-requires g c = let e = c.compare_exchange-found.ensures.2.0 c.if-found-free.false in (search rules, (Some e.0, front_is _ _ _ (Some e.0) _ (let back : (c.args.station + 2) - 2 ≡ c.args.station = omega arith in back) e.3))

pub invariant_of-seat-2 : goal.invariant_of-seat-2
invariant_of-seat-2 g c = let e = c.compare_exchange-found.ensures.2.0 c.if-found-free.false in let same : c.seat.inside.seat.table_id ≡ c.self.inside.table.shared.table_id = search rules in let slots = ap (λ (z : TableId). z.slots) (sym same) in let mine = ap (λ (z : TableId). z.slots) c.self.view_is in let station = c.requires.station in
    (passed (g.V.Keeps.legal c.seat.inside.seat.me.0.view.first) (g.V.Keeps.at_home c.seat.inside.seat.me.0.view.first) g.V.Keeps.durable_of g.V.Keeps.common_of _ _ c.seat.inside.seat.me c.compare_exchange-found.new.seat.me c.exchange.new.seat.me ((c.args.station + 2) - 2) c.args.station (c.peek-free.result / 4) (c.peek-free.result / 4) 2 c.exchange.result (ap (λ (z : TableId). z.slots) (c.exchange.ensures.0 ∙ c.compare_exchange-found.ensures.0)) (omega arith) (omega arith) (omega arith) c.seat.invariant e c.exchange.ensures.2 c.exchange.ensures.3).0
