use Rattle.std.proofs.Common.{rules, ◌≡◌, ℕ, List, length, arith, refl, ap}
use Rattle.rep_ordered.specs.declared.view.View.{View}
use Rattle.rep_ordered.specs.Views.{held_at}
use Rattle.rep_ordered.specs.Seats.{Place}
use Rattle.uses_ordered.proofs.Passes.{no_more}
use Rattle.uses_ordered.proofs.passing.passed_counts.Goals as goal

pub returns-clause-order : goal.returns-clause-order
returns-clause-order g c = let e = c.in_ok-first.ensures.entered.1 in let f = c.in-Ok.ensures.entered.1 in let start = c.requires.start in let place = e.place refl in
    let holding = ap (λ (z : View _ ℕ). held_at 0 z.held) e.view in
    let l = no_more g.row.START _ _ _ _ c.in_ok-first.first.tickets.items c.in-Ok.second.tickets.items e.keeps (omega arith) f.keeps (f.still (omega arith)) in
    let a : c.len.result ≡ length c.in_ok-first.first.tickets.items = search rules in let b : c.len-2.result ≡ length c.in-Ok.second.tickets.items = search rules in omega arith

pub returns-clause-first : goal.returns-clause-first
returns-clause-first g c = let e = c.in_ok-first.ensures.entered.1 in let f = c.in-Ok.ensures.entered.1 in let start = c.requires.start in let place = e.place refl in let count = e.keeps.count in
    let holding = ap (λ (z : View _ ℕ). held_at 0 z.held) e.view in let same = ap (λ (l : List ℕ). length l) (f.still (omega arith)) in
    let first = ap (λ (z : Place _ ℕ). length z.view.seen) c.side_leave.ensures.seat in let second = ap (λ (z : Place _ ℕ). length z.view.seen) c.side_leave-2.ensures.seat in
    let a : c.len.result ≡ length c.in_ok-first.first.tickets.items = search rules in omega arith
