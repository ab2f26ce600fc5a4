use Rattle.std.proofs.Common.{rules, ◌≡◌, ◌<◌, ◌≤◌, refl, ◌++◌, ℕ, ◌+◌, ◌*◌, List, [], ◌∷◌, length, arith, sym, ap, ◌∙◌, subst}
use Rattle.rep_types.proofs.Choices.{success_weaker}
use Rattle.rep_ordered.specs.declared.view.Hold.{Hold}
use Rattle.rep_ordered.specs.declared.view.View.{View}
use Rattle.rep_ordered.specs.Counts.{times}
use Rattle.rep_ordered.specs.Views.{held_at, hold, reached_at}
use Rattle.rep_ordered.specs.Going.{Went}
use Rattle.rep_ordered.specs.GoingLaws.{goes_entered, goes_on}
use Rattle.rep_ordered.specs.Seats.{Place}
use Rattle.uses_ordered.specs.Passing.{HavePassed}
use Rattle.uses_ordered.proofs.Passes.{all_done}
use Rattle.uses_ordered.proofs.coupled.pass_coupled.Goals as goal

pub enter-requires-2-clause-ticket : goal.enter-requires-2-clause-ticket
enter-requires-2-clause-ticket g c = let e = c.in_ok-first.ensures.entered in
    subst (λ (l : List ℕ). 0 < times c.claim-ticket.result l) (sym (ap (λ (z : View _ ℕ). z.own) e.view)) c.claim-ticket.ensures.drawn

pub leave_both-requires : goal.leave_both-requires
leave_both-requires g c = let t : ℕ = c.claim-ticket.result in let e = c.in_ok-first.ensures.entered in let f = c.in-Ok.ensures.entered in let v : View _ ℕ = c.args.seat.now.view in
    let start = ap (λ (z : Place _ ℕ). z.view.start) c.claim-ticket.ensures.seat ∙ c.requires.start in let place = e.place refl in
    let held : c.enter.new.seat.view.held ≡ hold 0 (4 * t + 1) 0 ∷ [] = ap (λ (z : View _ ℕ). z.held) e.view ∙ ap (λ (z : Place _ ℕ). hold 0 (4 * t + 1) 0 ∷ z.view.held) c.claim-ticket.ensures.seat ∙ ap (λ (l : List Hold). hold 0 (4 * t + 1) 0 ∷ l) c.requires.free in
    let holding = ap (held_at 0) held in let same = f.still (omega arith) in let long = ap (λ (l : List ℕ). length l) same in
    (omega arith, (search rules, (ap (λ (z : View _ ℕ). z.held) f.view ∙ ap (λ (l : List Hold). hold 1 (4 * t + 1) 0 ∷ l) held, (ap (λ (z : View _ ℕ). z.common) f.view, (omega arith, (subst (λ (l : List ℕ). HavePassed g.row.START t l c.in_ok-first.first.tickets.items) (sym same) e.keeps, f.keeps))))))

pub returns-in-Ok-clause-done : goal.returns-in-Ok-clause-done
returns-in-Ok-clause-done g c = let t : ℕ = c.claim-ticket.result in let e = c.in_ok-first.ensures.entered in let f = c.in-Ok.ensures.entered in let seat = c.claim-ticket.ensures.seat in
    let v : View _ ℕ = c.args.seat.now.view in let w : View _ ℕ = c.leave_both.new.seat.view in let went : Went c.enter-2.new.seat.view w = c.leave_both.ensures.went in
    let first = goes_entered _ _ _ _ 0 t 1 c.claim-ticket.new.seat.view c.enter.new.seat.view c.in_ok-first.first e in let second = goes_entered _ _ _ _ 1 t 1 c.enter.new.seat.view c.enter-2.new.seat.view c.in-Ok.second f in
    let own : w.own ≡ v.own ++ t ∷ [] = c.leave_both.ensures.own ∙ (ap (λ (z : View _ ℕ). z.own) f.view ∙ (ap (λ (z : View _ ℕ). z.own) e.view ∙ ap (λ (z : Place _ ℕ). z.view.own) seat)) in
    let goes = goes_on _ _ _ first (goes_on _ _ _ second went.goes) in let start : c.claim-ticket.new.seat.view.reached ≡ v.reached = ap (λ (z : Place _ ℕ). z.view.reached) seat in
    success_weaker c.leave_both.result c.leave_both.ensures.reached (λ reached. all_done v w t own reached.0 reached.1 (subst (λ l. reached_at 0 l ≤ reached_at 0 w.reached) start (goes.reached 0)) (subst (λ l. reached_at 1 l ≤ reached_at 1 w.reached) start (goes.reached 1)) c.requires.done)
