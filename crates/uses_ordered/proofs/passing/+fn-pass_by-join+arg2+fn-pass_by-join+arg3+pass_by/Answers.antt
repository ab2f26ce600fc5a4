use Rattle.std.proofs.Common.{rules, ◌≡◌, ℕ, ◌+◌, ◌-◌, ◌*◌, ◌/◌, ◌^◌, ◌<◌, ◌≤◌, length, arith, sym, ap, ◌∙◌, subst, length-append}
use Rattle.std.specs.Prelude.{OnOk}
use Rattle.rep_ordered.specs.declared.view.View.{View}
use Rattle.rep_ordered.specs.Seats.{Place}
use Rattle.rep_ordered.specs.GoingLaws.{goes_shared}
use Rattle.uses_ordered.specs.Passing.{AllDone}
use Rattle.uses_ordered.proofs.Passes.{parts, ok_both, done_both}
use Rattle.uses_ordered.proofs.passing.+fn-pass_by-join+arg2+fn-pass_by-join+arg3+pass_by.Goals as goal

pub join-seat-requires-after_bounds : goal.join-seat-requires-after_bounds
join-seat-requires-after_bounds g t c = let m = parts c.args.threads c.args.count in let half : ℕ = c.args.threads / 2 * c.args.count in let rest : ℕ = (c.args.threads - c.args.threads / 2) * c.args.count in let all : ℕ = c.args.threads * c.args.count in let whole : rest + half ≡ all = m in
    let enough : all ≤ c.args.seat.view.allowance = c.requires.allowance in let limit : all < 2 ^ 64 = c.requires.limit in
    let kept : c.split-other.new.seat.view.allowance ≡ c.args.seat.view.allowance - half = ap (λ (z : Place _ ℕ). z.view.allowance) c.split-other.ensures.seat in
    let gave : c.split-other.result.view.allowance ≡ half = ap (λ (z : Place _ ℕ). z.view.allowance) c.split-other.ensures.given in
    let first : (c.args.threads - c.args.threads / 2) * c.args.count ≤ c.split-other.new.seat.view.allowance = omega arith in
    let first_limit : (c.args.threads - c.args.threads / 2) * c.args.count < 2 ^ 64 = omega arith in
    let second : c.args.threads / 2 * c.args.count ≤ c.split-other.result.view.allowance = omega arith in
    let second_limit : c.args.threads / 2 * c.args.count < 2 ^ 64 = omega arith in
    let first_done : AllDone c.split-other.new.seat.view = subst (λ (z : Place _ ℕ). AllDone z.view) (sym c.split-other.ensures.seat) c.requires.done in
    let second_done : AllDone c.split-other.result.view = subst (λ (z : Place _ ℕ). AllDone z.view) (sym c.split-other.ensures.given) (λ x drawn. absurd (omega arith)) in
    search rules

pub returns-clause-went : goal.returns-clause-went
returns-clause-went g t c = let m = parts c.args.threads c.args.count in let half : ℕ = c.args.threads / 2 * c.args.count in let rest : ℕ = (c.args.threads - c.args.threads / 2) * c.args.count in let all : ℕ = c.args.threads * c.args.count in let whole : rest + half ≡ all = m in
    let enough : all ≤ c.args.seat.view.allowance = c.requires.allowance in let first = c.join-seat.ensures.first.1 in let second = c.join-seat.ensures.second.1 in
    let shared = goes_shared _ half c.args.seat.view c.split-other.new.seat.view c.split-other.result.view c.join-seat.result.0.0.view c.join-seat.result.1.0.view c.join.new.seat.view (omega arith)
    (ap (λ (z : Place _ ℕ). z.view) c.split-other.ensures.seat) (ap (λ (z : Place _ ℕ). z.view) c.split-other.ensures.given) first.goes second.goes c.join.ensures.joined in
    record { goes = shared.0; free = shared.1 ∙ first.free }

pub returns-clause-drawn : goal.returns-clause-drawn
returns-clause-drawn g t c = let first = c.join-seat.ensures.first in let second = c.join-seat.ensures.second in let own = ap (λ (z : View _ ℕ). length z.own) c.join.ensures.joined.same in
    let mine = ap (λ (z : Place _ ℕ). length z.view.own) c.split-other.ensures.seat in let gave = ap (λ (z : Place _ ℕ). length z.view.own) c.split-other.ensures.given in let m = parts c.args.threads c.args.count in
    subst (λ r. OnOk r (length c.join.new.seat.view.own ≡ length c.args.seat.view.own + c.args.threads * c.args.count)) (sym c.and.ensures)
    (ok_both c.join-seat.result.0.1 c.join-seat.result.1.1 first.2 second.2 (λ p q. omega (arith, length-append c.join-seat.result.0.0.view.own c.join-seat.result.1.0.view.own)))

pub returns-clause-done : goal.returns-clause-done
returns-clause-done g t c = let first = c.join-seat.ensures.first in let second = c.join-seat.ensures.second in let joined = c.join.ensures.joined in
    subst (λ r. OnOk r (AllDone c.join.new.seat.view)) (sym c.and.ensures)
    (ok_both c.join-seat.result.0.1 c.join-seat.result.1.1 first.3 second.3 (λ p q. done_both c.join-seat.result.0.0.view c.join-seat.result.1.0.view c.join.new.seat.view (ap (λ (z : View _ ℕ). z.own) joined.same) (ap (λ (z : View _ ℕ). z.reached) joined.same) p q))
