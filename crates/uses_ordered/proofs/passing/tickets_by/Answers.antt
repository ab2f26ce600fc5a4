use Rattle.std.proofs.Common.{rules, ◌≡◌, ℕ, ◌+◌, ◌*◌, [], ◌∷◌, length, vec_len, Some, arith, sym, refl, ap, ◌∙◌, subst}
use Rattle.std.specs.Prelude.{OnOk, IsSome}
use Rattle.std.specs.Option.{option_flatten}
use Rattle.std.proofs.lemmas.Option.{same_Some}
use Rattle.rep_ordered.specs.Seats.{Place}
use Rattle.uses_ordered.specs.declared.passed.Passed.{Passed}
use Rattle.uses_ordered.specs.Passing.{numbers, AllDone}
use Rattle.uses_ordered.proofs.Passes.{closed_lists, popped, popped_last, product_some}
use Rattle.uses_ordered.proofs.passing.tickets_by.Goals as goal
use Rattle.uses_ordered.proofs.passing.tickets_by.Goals.{In_ok-passed, After-flatten, After-flatten-2}

-- what the lock was closed with: two lists, of all that was drawn
closed : (g : _) (c : In_ok-passed g) → (a : Passed g.row.START) × (b : Passed g.row.START) × (c.close-values.result.items ≡ Some a ∷ Some b ∷ [])
    × (a.tickets.items ≡ numbers g.row.START (c.args.threads * c.args.count)) × (b.tickets.items ≡ numbers g.row.START (c.args.threads * c.args.count))
closed g c = let seat = c.pass_by-seat.result.0 in let went = c.pass_by-seat.ensures.went in let made = c.in_ok-lock.ensures.seat in let all : ℕ = c.args.threads * c.args.count in let some_start = c.requires.start.0 in
    let done = subst (λ r. OnOk r (AllDone seat.view)) c.in_ok-passed.was c.pass_by-seat.ensures.done in let drawn = subst (λ r. OnOk r (length seat.view.own ≡ length c.in_ok-lock.seat.view.own + all)) c.in_ok-passed.was c.pass_by-seat.ensures.drawn in
    let start : c.in_ok-lock.seat.view.start ≡ g.row.START = ap (λ (z : Place _ ℕ). z.view.start) made in let own : length c.in_ok-lock.seat.view.own ≡ 0 = ap (λ (z : Place _ ℕ). length z.view.own) made in
    let two : length c.close-values.result.items ≡ 2 = search rules in
    let drawn_all : length seat.view.own ≡ all = drawn ∙ (let z : length c.in_ok-lock.seat.view.own + all ≡ all = omega arith in z) in
    closed_lists (λ (x : Passed g.row.START). x.tickets.items) (λ _. 0) g.row.START all seat.view c.close-values.result.items c.close-values.ensures.values two went.free done (went.goes.start ∙ start) drawn_all (product_some c.args.threads c.args.count c.requires.some.0 c.requires.some.1)

-- the last of them is popped first
popped_second : (g : _) (c : After-flatten g) (a b : Passed g.row.START) → c.close-values.result.items ≡ Some a ∷ Some b ∷ [] → c.flatten.result ≡ Some b
popped_second g c a b is =
    let n_is : vec_len c.close-values.result ≡ length c.close-values.result.items = search rules in
    c.flatten.ensures ∙ ap option_flatten (popped_last c.close-values.result.items (Some a) (Some b) (vec_len c.close-values.result) c.pop.result is n_is c.pop.ensures.value)

popped_first : (g : _) (c : After-flatten-2 g) (a b : Passed g.row.START) → c.close-values.result.items ≡ Some a ∷ Some b ∷ [] → c.flatten-2.result ≡ Some a
popped_first g c a b is =
    let n_is : vec_len c.close-values.result ≡ length c.close-values.result.items = search rules in
    let m_is : vec_len c.pop.new.self ≡ length c.pop.new.self.items = search rules in
    c.flatten-2.ensures ∙ ap option_flatten (popped c.close-values.result.items c.pop.new.self.items (Some a) (Some b) (vec_len c.close-values.result) (vec_len c.pop.new.self) c.pop.result c.pop-2.result is n_is m_is c.pop.ensures.value c.pop.ensures.rest c.pop-2.ensures.value).1

pub unwrap-second-requires : goal.unwrap-second-requires
unwrap-second-requires g c =
    let at = goal.at.unwrap-second-requires g c in
    let lists = closed g at.In_ok-passed in
    subst IsSome (sym (popped_second g at.After-flatten lists.0 lists.1 lists.2)) refl

pub unwrap-first-requires : goal.unwrap-first-requires
unwrap-first-requires g c =
    let at = goal.at.unwrap-first-requires g c in
    let lists = closed g at.In_ok-passed in
    subst IsSome (sym (popped_first g at.After-flatten-2 lists.0 lists.1 lists.2)) refl

pub returns : goal.returns
returns g c =
    let at = goal.at.returns g c in
    let lists = closed g at.In_ok-passed in
    let first : lists.0 ≡ c.unwrap-first.result = same_Some _ _ (sym (popped_first g at.After-flatten-2 lists.0 lists.1 lists.2) ∙ c.unwrap-first.ensures) in
    let second : lists.1 ≡ c.unwrap-second.result = same_Some _ _ (sym (popped_second g at.After-flatten lists.0 lists.1 lists.2) ∙ c.unwrap-second.ensures) in
    (ap (λ (x : Passed g.row.START). x.tickets.items) (sym first) ∙ lists.3, ap (λ (x : Passed g.row.START). x.tickets.items) (sym second) ∙ lists.4)
