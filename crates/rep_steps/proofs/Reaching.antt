-- The states of an order, reached item by item.
use Rattle.std.proofs.Common.{◌≡◌, ℕ, zero, suc, ◌+◌, ◌<◌, ◌≤◌, List, [], ◌∷◌, ◌++◌, length, get_or, take, drop, refl, sym, ap, ◌∙◌, add-one, arith}
use Rattle.std.proofs.lemmas.List.{take_more, get_or-drop, length-drop, length-take-le}
use Rattle.std.proofs.lemmas.List.Sums.{fold-append, fold_push}
use Rattle.rep_types.specs.declared.judged.Judged.{Judged}
use Rattle.rep_types.specs.declared.verdict.Verdict.{Verdict}
use Rattle.rep_types.specs.declared.item.Item.{Item}
use Rattle.rep_types.specs.Settings.{Setting}
use Rattle.rep_types.specs.Verdicts.{StateIsEnough}
use Rattle.rep_types.specs.ByItems.{HistoryByItems}
use Rattle.rep_types.specs.Order.{Order, State, no_item, item, verdict, history, state, judge, window, after}
use Rattle.rep_steps.specs.Nodes.{advanced, reached}

-- What these proofs know of an order: its history by items, and that the state before an item decides it.
pub record OrderLaws : Type 0 where
  pub enough : StateIsEnough
  pub items : HistoryByItems

-- the item of an order with so many before it
abbrev pub judged : Setting → Order → ℕ → Judged
judged p L n = record { seqno = n; item = item L n; verdict = verdict p L n }

pub history_at : OrderLaws → (p : Setting) (L : Order) (k : ℕ) (d : Judged) → k < length L → get_or (history p L) k d ≡ judged p L (k + 1)
history_at laws p L k d lt = ap (λ i. get_or (history p L) i d) (omega arith) ∙ laws.items.items p L (k + 1) d (omega arith) (omega (arith, lt))

-- reached in two goes
pub reached_both : (p : Setting) (S : State) (js ks : List Judged) → reached p S (js ++ ks) ≡ reached p (reached p S js) ks
reached_both p S js ks = fold-append (advanced p) S js ks

-- as many items further on
pub reached_position : (p : Setting) (S : State) (js : List Judged) → (reached p S js).position ≡ S.position + length js
reached_position p S [] = omega arith
reached_position p S (j ∷ js) = omega (arith, reached_position p (advanced p S j) js)

-- the next item, judged at its place
abbrev pub next_judged : Setting → State → Item → Judged
next_judged p S i = record { seqno = S.position + 1; item = i; verdict = judge p S.position S.kept i }

-- what an item makes of the state is what the order makes of it
pub advanced_is : (p : Setting) (S : State) (i : Item) → advanced p S (next_judged p S i) ≡ after p S i
advanced_is p S i = refl

-- a front of the order with the item behind it
pub next_item_is : (L : Order) (k : ℕ) → k < length L → take (k + 1) L ≡ take k L ++ item L (k + 1) ∷ []
next_item_is L k lt = take_more L k no_item lt ∙ ap (λ i. take k L ++ get_or L i no_item ∷ []) (omega arith)

module _ (laws : OrderLaws) (p : Setting) where
  -- behind a front of the order comes its next item, with its verdict
  pub next_is : (L : Order) (k : ℕ) → k < length L → next_judged p (state p (take k L)) (item L (k + 1)) ≡ judged p L (k + 1)
  next_is L k lt =
      let long : length (take k L) ≡ k = length-take-le k L (omega (arith, lt)) in
      let w = item L (k + 1) in
      let more : take (k + 1) L ≡ take k L ++ w ∷ [] = next_item_is L k lt in
      let own : judge p (length (take k L)) (window p (take k L)) w ≡ verdict p L (k + 1) =
      laws.enough.verdicts p (take k L) w ∙ ap (λ n. verdict p (take k L ++ w ∷ []) (n + 1)) long
      ∙ ap (λ (M : Order). verdict p M (k + 1)) (sym more) ∙ laws.items.verdicts p L (k + 1) (k + 1) (omega arith) (omega arith) in
      let made : ℕ → Verdict → Judged = λ n v. record { seqno = n + 1; item = w; verdict = v } in
      ap (λ v. made (length (take k L)) v) own ∙ ap (λ n. made n (verdict p L (k + 1))) long

  -- one item more
  pub state_next : (L : Order) (k : ℕ) → k < length L → advanced p (state p (take k L)) (judged p L (k + 1)) ≡ state p (take (k + 1) L)
  state_next L k lt =
      ap (advanced p (state p (take k L))) (sym (next_is L k lt)) ∙ advanced_is p (state p (take k L)) (item L (k + 1))
      ∙ laws.enough.states p (take k L) (item L (k + 1)) ∙ ap (state p) (sym (next_item_is L k lt))

  -- so many items behind a front
  pub reached_is : (L : Order) (b k : ℕ) → b + k ≤ length L → reached p (state p (take b L)) (take k (drop b (history p L))) ≡ state p (take (b + k) L)
  reached_is L b zero le = ap (λ n. state p (take n L)) (omega arith)
  reached_is L b (suc k) le =
      let h = history p L in
      let d : Judged = judged p L (b + k + 1) in
      let inside : k < length (drop b h) = omega (arith, le, length-drop b h, laws.items.as_many p L) in
      let here : get_or (drop b h) k d ≡ d = get_or-drop b h k d ∙ history_at laws p L (b + k) d (omega (arith, le)) in
      let more : take (suc k) (drop b h) ≡ take k (drop b h) ++ d ∷ [] =
      ap (λ n. take n (drop b h)) (sym (add-one k)) ∙ take_more (drop b h) k d inside ∙ ap (λ j. take k (drop b h) ++ j ∷ []) here in
      ap (reached p (state p (take b L))) more ∙ fold_push (advanced p) (state p (take b L)) (take k (drop b h)) d
      ∙ ap (λ (S : State). advanced p S d) (reached_is L b k (omega (arith, le))) ∙ state_next L (b + k) (omega (arith, le))
      ∙ ap (λ n. state p (take n L)) (omega arith)

  -- the next item of the order, judged from the state before it
  pub judged_next : (L : Order) (i : Item) → judge p (length L) (window p L) i ≡ verdict p (L ++ i ∷ []) (length L + 1)
  judged_next L i = laws.enough.verdicts p L i
