use Rattle.std.proofs.Common.{rules, ◌≡◌, ℕ, ◌+◌, ◌*◌, ◌-◌, List, [], ◌∷◌, arith, sym, ap, ◌∙◌, subst}
use Rattle.rep_ordered.specs.declared.view.View.{View}
use Rattle.rep_ordered.specs.Views.{except, floor_at, held_at, hold, turn_of, word_at}
use Rattle.uses_ordered.specs.Passing.{HavePassed}
use Rattle.uses_ordered.specs.Growing.{passed_grows}
use Rattle.uses_ordered.proofs.Passes.{begins_joined}
use Rattle.uses_ordered.proofs.coupled.leave_both.Goals as goal
use Rattle.uses_ordered.proofs.coupled.leave_both.Goals.{After-add_and_leave}

pub add_and_leave-requires : goal.add_and_leave-requires
add_and_leave-requires g c = let t : ℕ = c.args.ticket in let view : View _ ℕ = c.args.seat.now.view in let held = c.requires.held in
    (omega arith, (c.requires.lock, (record { word = ap (word_at 0) held; floor = ap (floor_at 0) held; common = λ _. c.requires.common }, (search rules, (c.requires.first, begins_joined g.row.START t view.seen c.args.first.tickets.items c.requires.first c.requires.place)))))

-- what is then held
holds : (g : _) (c : After-add_and_leave g) → c.add_and_leave.new.seat.view.held ≡ hold 1 (4 * c.args.ticket + 1) 0 ∷ []
holds g c = c.add_and_leave.ensures.held ∙ ap (except 0) c.requires.held

-- the second list lies there as before, whatever joined the history
stays : (g : _) (c : After-add_and_leave g) → HavePassed g.row.START c.args.ticket c.add_and_leave.new.seat.view.seen c.args.second.tickets.items
stays g c = let seen = c.add_and_leave.ensures.goes.seen in
    subst (λ (l : List ℕ). HavePassed g.row.START c.args.ticket l c.args.second.tickets.items) (sym seen.1) (passed_grows g.row.START c.args.ticket c.args.seat.now.view.seen seen.0 c.args.second.tickets.items c.requires.second)

pub give_up-requires-clause-holds : goal.give_up-requires-clause-holds
give_up-requires-clause-holds g c = let held = ap (held_at 1) (holds g (goal.at.give_up-requires-clause-holds g c).After-add_and_leave) in omega arith

pub give_up-requires-clause-value : goal.give_up-requires-clause-value
give_up-requires-clause-value g c = let after = (goal.at.give_up-requires-clause-value g c).After-add_and_leave in let t : ℕ = c.args.ticket in
    let word : word_at 1 c.add_and_leave.new.seat.view.held ≡ 4 * t + 1 = ap (word_at 1) (holds g after) in let turn : turn_of 1 c.add_and_leave.new.seat.view ≡ t = omega arith in
    subst (λ (n : ℕ). HavePassed g.row.START n c.add_and_leave.new.seat.view.seen c.args.second.tickets.items) (sym turn) (stays g after)

pub give_up-requires-clause-floor : goal.give_up-requires-clause-floor
give_up-requires-clause-floor g c = λ _. let floor : floor_at 1 c.add_and_leave.new.seat.view.held ≡ 0 = ap (floor_at 1) (holds g (goal.at.give_up-requires-clause-floor g c).After-add_and_leave) in omega arith

pub add_and_leave-requires-2 : goal.add_and_leave-requires-2
add_and_leave-requires-2 g c = let after = (goal.at.add_and_leave-requires-2 g c).After-add_and_leave in let held = holds g after in
    (omega arith, (search rules, (record { word = ap (word_at 1) held; floor = ap (floor_at 1) held; common = λ _. c.add_and_leave.ensures.common ∙ c.requires.common }, (search rules, (stays g after, c.in_default.ensures.begun)))))

pub returns-in-Err-clause-reached : goal.returns-in-Err-clause-reached
returns-in-Err-clause-reached g c = tt
