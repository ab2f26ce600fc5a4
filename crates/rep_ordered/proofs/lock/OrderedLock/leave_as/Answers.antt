use Rattle.std.proofs.Common.{rules, ◌≡◌, ◌+◌, ◌-◌, ◌%◌, ◌^◌, Some, arith, refl, ap, ◌∙◌, subst}
use Rattle.atomic_table.specs.Seated.{TableId}
use Rattle.rep_ordered.specs.declared.view.View.{View}
use Rattle.rep_ordered.specs.Views.{Lives, turn_of, word_at}
use Rattle.rep_ordered.specs.Seats.{Place}
use Rattle.rep_ordered.specs.declared.turns.TheConstants.{TO_NEXT}
use Rattle.rep_ordered.proofs.Sums.{held_with}
use Rattle.rep_ordered.proofs.Leaving.{leaves, entries_one, entries_none, first_with}
use Rattle.rep_ordered.proofs.Places.{front_is, holds_inside, parted}
use Rattle.rep_ordered.proofs.lock.OrderedLock.leave_as.Goals as goal

pub put_back-requires-clause-holds : goal.put_back-requires-clause-holds
put_back-requires-clause-holds g c = let kind : word_at c.args.station c.args.seat.now.view.held % 4 ≡ 1 = c.requires.turn in holds_inside _ _ c.args.station c.seat.view_is (held_with c.args.station c.args.seat.now.view.held (omega arith))

pub fetch_add-requires : goal.fetch_add-requires
fetch_add-requires g c = let v : View g.row.V.Denot g.row.E.Denot = c.args.seat.now.view in let is = ap (λ (z : Place g.row.V.Denot g.row.E.Denot). z.view) c.seat.view_is in let kind : word_at c.args.station c.args.seat.now.view.held % 4 ≡ 1 = c.requires.turn in let held = held_with c.args.station c.args.seat.now.view.held (omega arith) in
    let put = c.put_back.ensures.put in let words = c.self.invariant.0 in let within = c.put_back.ensures.within in
    let slots = ap (λ (z : TableId). z.slots) c.self.view_is in (
      search rules,
      omega arith,
      leaves g.V.Keeps.legal g.V.Keeps.at_home g.V.Keeps.durable_of g.V.Keeps.common_of g.V.Keeps.grows _ _ _ _ _ (turn_of c.args.station v + 1) _ 0 _ _ TO_NEXT (λ y. (y + TO_NEXT) % 2 ^ 64) c.args.entry.now _ c.args.value v c.requires.pick.0 c.requires.pick.1 c.requires.pick.2 c.requires.pick.3 (ap (λ z. z.0.view) put ∙ is)
          record {
            holds = held;
            moves = (λ low taken. (omega arith, omega arith, omega arith));
            forth = omega arith;
            ticket = (λ _. omega arith);
            side = (λ other. absurd (other kind));
            counted = (λ z. let e = entries_one _ (c.requires.entry.0 z) in omega arith);
            kept = (λ nz. entries_none _ (c.requires.entry.1 nz));
            mine = (λ some_more. (entries_one _ (c.requires.entry.0 (first_with c.args.station _ (λ nz. entries_none _ (c.requires.entry.1 nz)) some_more)), kind));
            halted = omega arith;
            legal = (λ some_more. c.requires.legal (first_with c.args.station _ (λ nz. entries_none _ (c.requires.entry.1 nz)) some_more));
            meets = c.requires.value;
            floor = c.requires.floor;
            common = c.requires.common;
            covered = (λ one. let a = c.requires.covered one in omega arith);
            lives = subst Lives is c.seat.invariant.lives;
          }
          (omega arith) (front_is _ _ _ (Some c.args.value) _ refl (ap (λ z. z.1) put)),
    )

pub invariant_of-seat : goal.invariant_of-seat
invariant_of-seat g c = let left = c.fetch_add.ensures.2 in
    parted _ _ c.seat.inside.seat.me c.put_back.new.seat.me c.fetch_add.new.seat.me ((c.args.station + 2) - 2) c.args.station _ _ (ap (λ (z : TableId). z.slots) (c.fetch_add.ensures.0 ∙ c.put_back.ensures.table)) (omega arith) c.seat.invariant c.put_back.ensures.put left.0 (refl, refl, refl, refl) left.1 left.2
