-- Windows of an order, and certifiers that follow it.
use Rattle.std.proofs.Common.{◌≡◌, ℕ, zero, suc, ◌+◌, ◌-◌, ◌<◌, ◌≤◌, List, [], ◌∷◌, ◌++◌, length, take, max, All, ⊎_elim, refl, sym, ap, ◌∙◌, le_refl, arith, subst, nat_le}
use Rattle.std.proofs.lemmas.Bool.{cases_lt}
use Rattle.std.proofs.lemmas.List.{length_push, take_all, take-append-le}
use Rattle.std.proofs.lemmas.List.Elements.{All-filter, All-weaker}
use Rattle.rep_types.specs.declared.item.Item.{Item}
use Rattle.rep_types.specs.declared.reach.Reach.{Reach}
use Rattle.rep_types.specs.Settings.{Setting}
use Rattle.rep_types.specs.Entries.{Entry}
use Rattle.rep_types.specs.Windows.{Window}
use Rattle.rep_types.specs.Reaches.{size, floor, reach}
use Rattle.rep_types.specs.Order.{Order, recent, entries, history, window, window_after, judge, verdict}
use Rattle.rep_types.proofs.Reaches.{floor_first, floor_spans}
use Rattle.rep_types.proofs.Windows.{judge_window, window_push, recent_all, recent_above, seqnos_entries}
use Rattle.rep_cert.specs.Holdings.{Holding, IsAskable, IsOfPosition, Admits, raised, upto, window_of, verdict_of, made_at}
use Rattle.rep_cert.specs.Following.{Follows}
use Rattle.rep_cert.proofs.Ascending.{upto_below}
use Rattle.rep_cert.proofs.Making.{made_whole}

-- no entry of the window after an order is above its end
pub window_past : (p : Setting) (L : Order) → All (λ (e : Entry). e.seqno ≤ length L) (window p L).entries
window_past p L =
    All-filter (λ (e : Entry). nat_le (floor p L (length L)) e.seqno) (λ (e : Entry). e.seqno ≤ length L) (entries (history p L))
    (All-weaker (λ (e : Entry). (0 < e.seqno) × (e.seqno ≤ length L)) (λ (e : Entry). e.seqno ≤ length L) (λ e h. h.1) (entries (history p L)) (seqnos_entries p L))

-- the floor after an order is not below what its size spans
pub floor_there : (p : Setting) (L : Order) (n : ℕ) → length L ≡ n → n + 1 ≤ floor p L n + size p L
floor_there p L zero none = omega (arith, floor_first p L 0)
floor_there p L (suc n) there =
    let whole : take (suc n) L ≡ L = take_all (suc n) L (omega arith) in
    omega (arith, floor_spans p L (suc n) (suc n) (omega arith) (le_refl (suc n)), ap (size p) whole)

-- so the window has the form of one there
pub window_form : (p : Setting) (L : Order) → IsOfPosition (length L) (window p L)
window_form p L = record {
  spans = floor_there p L (length L) refl;
  entries = λ k d inside. (recent_above (floor p L (length L)) (entries (history p L)) k d inside, window_past p L k d inside);
}

-- a certifier that is made with the window after an order reaches back as the order does
pub reaches_as_window : (p : Setting) (L : Order) → raised (window p L).size (window p L).floor (length L) ≡ reach p L
reaches_as_window p L =
    let same : max (floor p L (length L)) (length L + 1 - size p L) ≡ floor p L (length L) = omega (arith, floor_there p L (length L) refl) in
    ap (λ (f : ℕ). record { size = size p L; floor = f }) same

-- and holds all of it
pub made_at_window : (p : Setting) (L : Order) → (made_at p (length L) (window p L)).entries ≡ (window p L).entries
made_at_window p L =
    let low : ℕ = floor p L (length L) in
    let all : List Entry = (window p L).entries in
    ap (λ (r : Reach). recent r.floor (upto (length L) all)) (reaches_as_window p L)
    ∙ (ap (recent low) (upto_below (length L) (length L) all (le_refl (length L)) (window_past p L)) ∙ recent_all low all (recent_above low (entries (history p L))))

-- a certifier that is made with the window after an order follows the order
pub Follows-made_at : (p : Setting) (L : Order) → Follows (made_at p (length L) (window p L)) L
Follows-made_at p L = record {
  made = le_refl (length L);
  delivered = refl;
  windows = λ k askable.
      let same : length L ≡ k = omega (arith, askable.made, askable.past) in
      let P : ℕ → Type 0 = λ n. window_of (made_at p (length L) (window p L)) n ≡ window p (take n L) in
      subst P same (made_whole p (length L) (window p L) (window_form p L) ∙ ap (window p) (sym (take_all (length L) L (le_refl (length L)))));
}

-- the present window of a certifier that follows an order is the order's
pub window_of_order : (h : Holding) (L : Order) → Follows h L → window_of h h.delivered ≡ window h.setting L
window_of_order h L follows =
    follows.windows h.delivered (record { made = follows.made; near = omega arith; past = le_refl h.delivered })
    ∙ ap (window h.setting) (take_all h.delivered L (omega (arith, follows.delivered)))

-- the verdict of a certifier that follows an order is the order's
pub verdict_of_order : (h : Holding) (i : Item) (L : Order) → Follows h L → verdict_of h i ≡ verdict h.setting (L ++ i ∷ []) (length L + 1)
verdict_of_order h i L follows =
    ap (λ (v : Window). judge h.setting h.delivered v i) (window_of_order h L follows)
    ∙ (ap (λ (n : ℕ). judge h.setting n (window h.setting L) i) follows.delivered ∙ judge_window h.setting L i)

-- a certifier that follows an order follows on by one more item
pub Follows_push : (h new : Holding) (i : Item) (L : Order) → Follows h L → Admits h i new → Follows new (L ++ i ∷ [])
Follows_push h new i L follows admits = record {
  made = omega (arith, admits.made, admits.delivered, follows.made);
  delivered = admits.delivered ∙ (ap (λ (n : ℕ). n + 1) follows.delivered ∙ sym (length_push L i));
  windows = λ k askable. ⊎_elim (before k askable) (present k askable) (cases_lt k new.delivered);
}
  where
    before : (k : ℕ) → IsAskable new k → k < new.delivered → window_of new k ≡ window new.setting (take k (L ++ i ∷ []))
    before k askable earlier =
        let inside : k ≤ h.delivered = omega (arith, admits.delivered) in
        let old : IsAskable h k = record { made = omega (arith, admits.made, askable.made); near = omega (arith, admits.delivered, askable.near); past = inside } in
        admits.kept k askable inside
        ∙ (follows.windows k old
        ∙ (ap (window h.setting) (sym (take-append-le k L (i ∷ []) (omega (arith, follows.delivered)))) ∙ ap (λ (p : Setting). window p (take k (L ++ i ∷ []))) (sym admits.setting)))

    present : (k : ℕ) → IsAskable new k → new.delivered ≤ k → window_of new k ≡ window new.setting (take k (L ++ i ∷ []))
    present k askable here =
        let same : new.delivered ≡ k = omega (arith, askable.past) in
        let all : take k (L ++ i ∷ []) ≡ L ++ i ∷ [] = take_all k (L ++ i ∷ []) (omega (arith, length_push L i, admits.delivered, follows.delivered)) in
        ap (window_of new) (sym same)
        ∙ (admits.next
        ∙ (ap (λ (v : Window). window_after h.setting h.delivered v i) (window_of_order h L follows)
        ∙ (ap (λ (n : ℕ). window_after h.setting n (window h.setting L) i) follows.delivered
        ∙ (window_push h.setting L i ∙ (ap (window h.setting) (sym all) ∙ ap (λ (p : Setting). window p (take k (L ++ i ∷ []))) (sym admits.setting))))))
