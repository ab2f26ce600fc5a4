use Rattle.std.proofs.Common.{rules, ◌≡◌, ℕ, ◌+◌, ◌*◌, List, [], ◌∷◌, ◌++◌, arith, sym, subst}
use Rattle.rep_ordered.specs.Views.{held_at, turn_of, grown}
use Rattle.rep_ordered.specs.declared.view.View.{View}
use Rattle.std.proofs.Common.{ap}
use Rattle.uses_ordered.specs.Passing.{HavePassed}
use Rattle.uses_ordered.proofs.Passes.{next_passed, word_held}
use Rattle.uses_ordered.proofs.station.add_and_leave.Goals as goal

pub give_up-requires-clause-holds : goal.give_up-requires-clause-holds
give_up-requires-clause-holds g c = let held = word_held c.args.station (4 * c.args.ticket) c.args.seat.now.view.held c.requires.inside.word in
    let same = ap (λ (z : View _ ℕ). held_at c.args.station z.held) c.halt.ensures.later.same in omega arith

pub leave-requires-clause-value : goal.leave-requires-clause-value
leave-requires-clause-value g c = let t : ℕ = c.args.ticket in let view : View _ ℕ = c.args.seat.now.view in let word = c.requires.inside.word in
    let items : c.push.new.self.items ≡ c.args.passed.tickets.items ++ t ∷ [] = search rules in let turn : turn_of c.args.station view ≡ t = omega arith in
    subst (λ (z : ℕ × List ℕ). HavePassed g.row.START (z.0 + 1) (grown view.seen c.args.entry.now) z.1) (λ i. (sym turn i, sym items i))
    (next_passed g.row.START t view.seen (grown view.seen c.args.entry.now) c.args.passed.tickets.items c.requires.kept c.requires.begins)
