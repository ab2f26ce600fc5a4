-- What a committed item leaves, from the laws of orders.
use Rattle.std.proofs.Common.{◌≡◌, ℕ, ◌+◌, ◌-◌, ◌≤◌, [], ◌∷◌, ◌++◌, length, take, sym, ap, ◌∙◌, arith}
use Rattle.std.specs.Prelude.{if◌then◌else◌}
use Rattle.std.proofs.lemmas.List.{take_more, take-take, get_or-take, length-take-le}
use Rattle.rep_types.specs.declared.key.Key.{Key}
use Rattle.rep_types.specs.declared.verdict.Verdict.{Verdict}
use Rattle.rep_types.specs.Settings.{Setting}
use Rattle.rep_types.specs.Items.{writes_of}
use Rattle.rep_types.specs.Reaches.{floor}
use Rattle.rep_types.specs.ByItems.{ReachByItems}
use Rattle.rep_types.specs.Order.{Order, State, no_item, item, verdict, verdict_on, entries, history, is_commit, judge, read, rows, window, content_after}
use Rattle.rep_types.specs.ByItems.{IsCommitted}
use Rattle.rep_types.specs.Verdicts.{StateIsEnough}

-- the first n items are those before the item n, and it
front_is : (L : Order) (n : ℕ) → 1 ≤ n → n ≤ length L → take n L ≡ take (n - 1) L ++ item L n ∷ []
front_is L n first last =
    let at : n - 1 + 1 ≡ n = omega (arith, first) in
    ap (λ k. take k L) (sym at) ∙ take_more L (n - 1) no_item (omega (arith, first, last))

-- the verdict on an item looks at no item behind it
same_verdict : ReachByItems → (p : Setting) (L : Order) (n : ℕ) → 1 ≤ n → verdict p (take n L) n ≡ verdict p L n
same_verdict reach p L n first =
    let before : take (n - 1) (take n L) ≡ take (n - 1) L = take-take (n - 1) n L (omega arith) in
    let own : item (take n L) n ≡ item L n = get_or-take n L (n - 1) no_item (omega (arith, first)) in
    let lowest : floor p (take n L) (n - 1) ≡ floor p L (n - 1) = reach.front p L n (n - 1) (omega arith) in
    ap (λ (f : ℕ). verdict_on p f n (entries (history p (take (n - 1) (take n L)))) (item (take n L) n)) lowest
    ∙ ap (λ (K : Order). verdict_on p (floor p L (n - 1)) n (entries (history p K)) (item (take n L) n)) before
    ∙ ap (verdict_on p (floor p L (n - 1)) n (entries (history p (take (n - 1) L)))) own

-- so it is what the state before the item says
judged_so : ReachByItems → (p : Setting) (L : Order) (n : ℕ) → StateIsEnough → 1 ≤ n → n ≤ length L →
    judge p (length (take (n - 1) L)) (window p (take (n - 1) L)) (item L n) ≡ verdict p L n
judged_so reach p L n enough first last =
    let size : length (take (n - 1) L) + 1 ≡ n = omega (arith, first, length-take-le (n - 1) L (omega (arith, last))) in
    enough.verdicts p (take (n - 1) L) (item L n) ∙ ap (verdict p (take (n - 1) L ++ item L n ∷ [])) size
    ∙ ap (λ (K : Order). verdict p K n) (sym (front_is L n first last)) ∙ same_verdict reach p L n first

-- behind a committed item stand the rows that stood before it, behind its writes
pub after_commit : ReachByItems → (p : Setting) (L : Order) (n : ℕ) (key : Key) → StateIsEnough → IsCommitted p L n →
    read p L key n ≡ content_after (λ k. read p L k (n - 1)) (writes_of (item L n)) key
after_commit reach p L n key enough is =
    let commit = judged_so reach p L n enough is.first is.last ∙ is.commit in
    ap (λ (K : Order). rows p K key) (front_is L n is.first is.last)
    ∙ ap (λ (S : State). S.content key) (sym (enough.states p (take (n - 1) L) (item L n)))
    ∙ ap (λ (v : Verdict). (if is_commit v then content_after (rows p (take (n - 1) L)) (writes_of (item L n)) else rows p (take (n - 1) L)) key) commit
