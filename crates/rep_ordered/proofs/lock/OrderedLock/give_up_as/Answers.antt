use Rattle.std.proofs.Common.{rules, ◌+◌, ◌-◌, bit_or, Some, arith, refl, ap, ◌∙◌, subst}
use Rattle.atomic_table.specs.Seated.{TableId}
use Rattle.rep_ordered.specs.declared.view.View.{View}
use Rattle.rep_ordered.specs.Views.{Lives, turn_of, word_at}
use Rattle.rep_ordered.specs.Seats.{Place}
use Rattle.rep_ordered.specs.declared.turns.TheConstants.{GIVEN_UP}
use Rattle.rep_ordered.proofs.Leaving.{gives_up, departs_silently, given_up_word}
use Rattle.rep_ordered.proofs.Places.{front_is, holds_inside, parted}
use Rattle.rep_ordered.proofs.lock.OrderedLock.give_up_as.Goals as goal

pub put_back-requires-clause-holds : goal.put_back-requires-clause-holds
put_back-requires-clause-holds g c = holds_inside _ _ c.args.station c.seat.view_is c.requires.holds

pub fetch_or-requires : goal.fetch_or-requires
fetch_or-requires g c = let v : View g.row.V.Denot g.row.E.Denot = c.args.seat.now.view in let is = ap (λ (z : Place g.row.V.Denot g.row.E.Denot). z.view) c.seat.view_is in let held = c.requires.holds in
    let put = c.put_back.ensures.put in let words = c.self.invariant.0 in let within = c.put_back.ensures.within in
    let slots = ap (λ (z : TableId). z.slots) c.self.view_is in (
      search rules,
      omega arith,
      gives_up g.V.Keeps.legal g.V.Keeps.at_home g.V.Keeps.durable_of g.V.Keeps.common_of g.V.Keeps.grows _ _ _ _ _ (turn_of c.args.station v) _ _ _ GIVEN_UP (λ y. bit_or y GIVEN_UP) c.args.value _ v c.requires.pick.0 c.requires.pick.1 c.requires.pick.2 c.requires.pick.3 (ap (λ z. z.0.view) put ∙ is)
          (departs_silently (g.V.Keeps.legal v.first) (g.V.Keeps.at_home v.first) g.V.Keeps.durable_of g.V.Keeps.common_of c.args.station 1 _ c.args.value v held (λ low taken. given_up_word (word_at c.args.station v.held) GIVEN_UP (omega arith) taken) (let one = c.requires.halted in omega arith) c.requires.value c.requires.floor c.requires.common (λ one. let a = c.requires.covered one in omega arith) (subst Lives is c.seat.invariant.lives))
          (omega arith) (front_is _ _ _ (Some c.args.value) _ refl (ap (λ z. z.1) put)),
    )

pub invariant_of-seat : goal.invariant_of-seat
invariant_of-seat g c = let left = c.fetch_or.ensures.2 in
    parted _ _ c.seat.inside.seat.me c.put_back.new.seat.me c.fetch_or.new.seat.me ((c.args.station + 2) - 2) c.args.station _ _ (ap (λ (z : TableId). z.slots) (c.fetch_or.ensures.0 ∙ c.put_back.ensures.table)) (omega arith) c.seat.invariant c.put_back.ensures.put left.0 (refl, refl, refl, refl) left.1 left.2
