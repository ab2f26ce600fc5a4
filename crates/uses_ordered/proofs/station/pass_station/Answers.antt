use Rattle.std.proofs.Common.{rules, ◌≡◌, ◌≢◌, ℕ, ◌+◌, ◌-◌, List, arith, sym, subst, ⊎_elim}
use Rattle.std.proofs.lemmas.Bool.{cases_eq}
use Rattle.rep_ordered.specs.Views.{StartsWith, grown}
use Rattle.rep_ordered.specs.GoingLaws.{begins_on}
use Rattle.uses_ordered.specs.Passing.{numbers}
use Rattle.uses_ordered.proofs.Passes.{begins_joined, inside_entered, went_inside}
use Rattle.uses_ordered.proofs.station.pass_station.Goals as goal
use Rattle.uses_ordered.proofs.station.pass_station.Goals.{In_ok-passed}

-- the history begins with all tickets up to this one: at station 0 it joins it, and at the other it did before
begins : (g : _) (c : In_ok-passed g) → StartsWith (grown c.enter.new.seat.view.seen c.args.entry.now) (numbers g.row.START (c.args.ticket + 1 - g.row.START))
begins g c = let t : ℕ = c.args.ticket in let e = c.in_ok-passed.ensures.entered in let seen : List ℕ = c.enter.new.seat.view.seen in let first : List ℕ = numbers g.row.START (t + 1 - g.row.START) in let start = c.requires.start in
    ⊎_elim (λ (at : c.args.station ≡ 0). let place = e.place at in subst (λ o. StartsWith (grown seen o) first) (sym (c.requires.entry.0 at)) (begins_joined g.row.START t seen c.in_ok-passed.passed.tickets.items e.keeps (omega arith)))
    (λ (at : c.args.station ≢ 0). subst (λ o. StartsWith (grown seen o) first) (sym (c.requires.entry.1 at)) (begins_on first c.args.seat.now.view.seen seen (c.requires.begun at) e.seen)) (cases_eq c.args.station 0)

pub add_and_leave-requires : goal.add_and_leave-requires
add_and_leave-requires g c = let e = c.in_ok-passed.ensures.entered in let entry = c.requires.entry in
    (omega arith, (search rules, (inside_entered _ _ c.args.station c.args.ticket c.args.seat.now.view c.enter.new.seat.view c.in_ok-passed.passed e, (search rules, (e.keeps, begins g (goal.at.add_and_leave-requires g c).In_ok-passed)))))

pub returns-clause-went : goal.returns-clause-went
returns-clause-went g c = went_inside _ _ c.args.station c.args.ticket c.args.seat.now.view c.enter.new.seat.view c.add_and_leave.new.seat.view c.in_ok-passed.passed c.in_ok-passed.ensures.entered c.requires.free c.add_and_leave.ensures.goes c.add_and_leave.ensures.held
