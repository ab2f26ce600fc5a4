use Rattle.std.proofs.Common.{rules, List, map, ap, ◌∙◌}
use Rattle.atomic_table.specs.Seated.{TableId}
use Rattle.rep_ordered.specs.declared.view.Hold.{Hold}
use Rattle.rep_ordered.specs.Seats.{Place, empty_slot}
use Rattle.rep_ordered.proofs.Seating.{joins}
use Rattle.rep_ordered.proofs.Drawing.{loads}
use Rattle.rep_ordered.proofs.Places.{learnt, seated_both}
use Rattle.rep_ordered.proofs.lock.OrderedLock.join_as.Goals as goal

pub join_seat-requires : goal.join_seat-requires
join_seat-requires g c = let free = ap (λ (z : Place g.row.V.Denot g.row.E.Denot). z.view.held) c.other.view_is ∙ c.requires.free in
    let start = ap (λ (z : Place g.row.V.Denot g.row.E.Denot). z.view.start) c.seat.view_is ∙ c.requires.pick.0 in let whole = ap (λ (z : Place g.row.V.Denot g.row.E.Denot). z.view.whole) c.seat.view_is ∙ c.requires.pick.1 in
    let first = ap (λ (z : Place g.row.V.Denot g.row.E.Denot). z.view.first) c.seat.view_is ∙ c.requires.pick.2 in (
      search rules,
      search rules,
      c.other.invariant.slots ∙ ap (λ (z : List Hold). map empty_slot z) free,
      search rules,
      joins _ _ _ _ _ _ _ _ _ _ _ _ start whole first c.seat.invariant.told c.other.invariant.told free,
    )

pub load-requires : goal.load-requires
load-requires g c = let t = c.join_seat.ensures.2 in
    let both_seated = seated_both _ c.seat.inside.seat.me c.join_seat.new.seat.me c.other.inside.seat.me.0.view c.seat.invariant c.other.invariant.lives c.other.invariant.small (ap (λ z. z.0.view) t) (ap (λ z. z.1) t) in
    (search rules, search rules, loads g.V.Keeps.legal g.V.Keeps.at_home g.V.Keeps.durable_of g.V.Keeps.common_of g.V.Keeps.grows _ _ _ _ _ both_seated.0)

pub invariant_of-seat : goal.invariant_of-seat
invariant_of-seat g c = let t = c.join_seat.ensures.2 in
    let both_seated = seated_both _ c.seat.inside.seat.me c.join_seat.new.seat.me c.other.inside.seat.me.0.view c.seat.invariant c.other.invariant.lives c.other.invariant.small (ap (λ z. z.0.view) t) (ap (λ z. z.1) t) in
    let l = c.load.ensures.2 in learnt _ _ _ _ _ (ap (λ (z : TableId). z.slots) (c.load.ensures.0 ∙ c.join_seat.ensures.0)) both_seated.0 both_seated.1 both_seated.2 both_seated.3 l.0.0 l.0.1
