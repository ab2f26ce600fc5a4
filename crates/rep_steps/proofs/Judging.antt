-- Items that are judged one after another from a state of an order.
use Rattle.std.proofs.Common.{◌≡◌, refl, sym, ap, subst, ◌∙◌, ℕ, zero, suc, ◌+◌, ◌-◌, ◌<◌, List, [], ◌∷◌, ◌++◌, append_assoc, append-nil, length, length-append, take, drop, add-one, arith, drop-cons}
use Rattle.std.proofs.Math.Seq.{take-append_seam}
use Rattle.std.proofs.lemmas.List.{drop-append-le, drop_all, length-take-le}
use Rattle.rep_types.specs.declared.judged.Judged.{Judged}
use Rattle.rep_types.specs.Settings.{Setting}
use Rattle.rep_types.specs.Order.{Order, State, items_of, state, history, judge, verdict}
use Rattle.rep_steps.specs.Nodes.{advanced, reached}
use Rattle.rep_steps.specs.Images.{Meaning, StandsFor, AreJudgedFrom, JudgedItemsExtendTheOrder}
use Rattle.rep_steps.proofs.Reaching.{OrderLaws, judged, history_at, next_judged, advanced_is, next_is, state_next}
use Rattle.rep_steps.proofs.Running.{behind_of, none_behind}

-- ---- fronts and rests of judged items

-- the first items are judged too
pub first_judged : (p : Setting) (S : State) (k : ℕ) (js : List Judged) → AreJudgedFrom p S js → AreJudgedFrom p S (take k js)
first_judged p S zero js h = tt
first_judged p S (suc k) [] h = tt
first_judged p S (suc k) (j ∷ js) h = (h.0, h.1, first_judged p (advanced p S j) k js h.2)

-- and so are the others, from the state behind those
pub later_judged : (p : Setting) (S : State) (k : ℕ) (js : List Judged) → AreJudgedFrom p S js → AreJudgedFrom p (reached p S (take k js)) (drop k js)
later_judged p S zero js h = h
later_judged p S (suc k) [] h = tt
later_judged p S (suc k) (j ∷ js) h = later_judged p (advanced p S j) k js h.2

same_item : (j k : Judged) → j.seqno ≡ k.seqno → j.item ≡ k.item → j.verdict ≡ k.verdict → j ≡ k
same_item j k e f g = λ i. record { seqno = e i; item = f i; verdict = g i }

module _ (laws : OrderLaws) (p : Setting) where
  -- ---- items behind an order

  -- the first of them is the next of the longer order
  first_is : (L : Order) (j : Judged) → j.seqno ≡ (state p L).position + 1 → j.verdict ≡ judge p (state p L).position (state p L).kept j.item
      → drop (length L) (history p (L ++ j.item ∷ [])) ≡ j ∷ []
  first_is L j e f =
      let k : Judged = record { seqno = length L + 1; item = j.item; verdict = verdict p (L ++ j.item ∷ []) (length L + 1) } in
      let same : k ≡ j = same_item k j (sym e) refl (sym (f ∙ laws.enough.verdicts p L j.item)) in
      ap (drop (length L)) (laws.items.one_more p L j.item) ∙ drop-append-le (length L) (history p L) (k ∷ []) (omega (arith, laws.items.as_many p L))
      ∙ ap (λ js. js ++ k ∷ []) (none_behind laws p L) ∙ ap (λ (x : Judged). x ∷ []) same

  -- and the state behind it is that of the longer order
  advanced_to : (L : Order) (j : Judged) → j.seqno ≡ (state p L).position + 1 → j.verdict ≡ judge p (state p L).position (state p L).kept j.item
      → advanced p (state p L) j ≡ state p (L ++ j.item ∷ [])
  advanced_to L j e f =
      ap (advanced p (state p L)) (same_item j (next_judged p (state p L) j.item) e refl f) ∙ advanced_is p (state p L) j.item ∙ laws.enough.states p L j.item

  all_are : (L : Order) (js : List Judged) → AreJudgedFrom p (state p L) js → drop (length L) (history p (L ++ items_of js)) ≡ js
  all_are L [] h = ap (λ (M : Order). drop (length L) (history p M)) (append-nil L) ∙ none_behind laws p L
  all_are L (j ∷ js) h =
      let M = L ++ j.item ∷ [] in
      let rest = all_are M js (subst (λ (S : State). AreJudgedFrom p S js) (advanced_to L j h.0 h.1) h.2) in
      let whole : L ++ (j.item ∷ items_of js) ≡ M ++ items_of js = sym (append_assoc L (j.item ∷ []) (items_of js)) in
      ap (λ (K : Order). drop (length L) (history p K)) whole ∙ behind_of laws p M (items_of js) (length L) (omega (arith, length-append L (j.item ∷ [])))
      ∙ ap (λ ks. ks ++ drop (length M) (history p (M ++ items_of js))) (first_is L j h.0 h.1) ∙ ap (λ ks. j ∷ ks) rest

  extend : (uuid : List ℕ) (L : Order) (js : List Judged) → AreJudgedFrom p (state p L) js
      → StandsFor uuid p (L ++ items_of js) (record { uuid = uuid; setting = p; base = state p L; tail = js })
  extend uuid L js h = record {
    uuid_is = refl;
    setting_is = refl;
    within = omega (arith, length-append L (items_of js));
    base_is = ap (state p) (sym (take-append_seam L (items_of js)));
    tail_is = sym (all_are L js h);
  }

  -- ---- items of an order

  judged_on : (L : Order) (c left : ℕ) → c + left ≡ length L → AreJudgedFrom p (state p (take c L)) (drop c (history p L))
  judged_on L c zero e = subst (AreJudgedFrom p (state p (take c L))) (sym (drop_all c (history p L) (omega (arith, e, laws.items.as_many p L)))) tt
  judged_on L c (suc left) e =
      let inside : c < length L = omega (arith, e) in
      let j : Judged = judged p L (c + 1) in
      let long : length (take c L) ≡ c = length-take-le c L (omega (arith, inside)) in
      let split : drop c (history p L) ≡ j ∷ drop (c + 1) (history p L) =
      drop-cons (history p L) c j (omega (arith, inside, laws.items.as_many p L)) ∙ ap (λ (k : Judged). k ∷ drop (suc c) (history p L)) (history_at laws p L c j inside)
      ∙ ap (λ k. j ∷ drop k (history p L)) (sym (add-one c)) in
      let own = next_is laws p L c inside in
      subst (AreJudgedFrom p (state p (take c L))) (sym split) (
        omega (arith, long),
        sym (ap (λ (k : Judged). k.verdict) own),
        subst (λ (S : State). AreJudgedFrom p S (drop (c + 1) (history p L))) (sym (state_next laws p L c inside)) (judged_on L (c + 1) left (omega (arith, e))),
      )

  judged_of : (uuid : List ℕ) (L : Order) (b : Meaning) → StandsFor uuid p L b → AreJudgedFrom p b.base b.tail
  judged_of uuid L b h =
      let c = b.base.position in
      rw (h.tail_is) (subst (λ (S : State). AreJudgedFrom p S (drop c (history p L))) (sym h.base_is) (judged_on L c (length L - c) (omega (arith, h.within))))

pub judged_extend : OrderLaws → JudgedItemsExtendTheOrder
judged_extend laws = record { extend = λ uuid p L js h. extend laws p uuid L js h; judged = λ uuid p L b h. judged_of laws p uuid L b h }
