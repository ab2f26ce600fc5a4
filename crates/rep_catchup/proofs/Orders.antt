-- A joiner that took what a donor gave it is of the donor's order.
use Rattle.std.proofs.Common.{◌≡◌, ◌⊎◌, inl, inr, ℕ, suc, ◌+◌, ◌-◌, ◌<◌, ◌≤◌, List, [], ◌∷◌, ◌++◌, fold, take, drop, Option, None, Some, append-nil, append_assoc, arith, refl, sym, ap, subst, ◌∙◌}
use Rattle.std.proofs.lemmas.Bool.{cases_lt, le-ltb, lt-ltb}
use Rattle.std.proofs.lemmas.List.{map-append, drop-map, take-map, drop-take, drop-drop, drop_all, take-take, take-append-drop}
use Rattle.rep_types.specs.declared.judged.Judged.{Judged}
use Rattle.rep_types.specs.Settings.{Setting}
use Rattle.rep_types.specs.Order.{Order, items_of, joined, history}
use Rattle.rep_record.specs.Blocks.{SeqnosFrom}
use Rattle.rep_steps.specs.Nodes.{Node, IsNode}
use Rattle.rep_steps.specs.Images.{AreJudgedFrom, JudgedItemsExtendTheOrder}
use Rattle.rep_steps.specs.Judging.{JudgingGoesOn}
use Rattle.rep_steps.specs.Orders.{IsOf}
use Rattle.rep_transfer.specs.declared.have.Have.{Have}
use Rattle.rep_transfer.specs.Transfers.{Snapshot, Transfer}
use Rattle.rep_catchup.specs.Donating.{above, durable_items, Brings, IsDonated}
use Rattle.rep_catchup.specs.Joining.{StartsAt, Becomes}
use Rattle.rep_catchup.specs.Orders.{IsJoiner}
use Rattle.rep_catchup.proofs.Alike.{state_alike, snapshot_alike}

-- ---- items above a position

above_all : (a position : ℕ) (js : List Judged) → SeqnosFrom a js → position < a → above position js ≡ js
above_all a position [] s low = refl
above_all a position (j ∷ js) s low = rw (lt-ltb position j.seqno (omega (arith, low, s.0))) (ap (λ (rest : List Judged). j ∷ rest) (above_all (a + 1) position js s.1 (omega (arith, low))))

-- with one more in front
above_step : (a position : ℕ) (j : Judged) (js : List Judged) → SeqnosFrom a (j ∷ js) → a ≤ position + 1 → (a ≤ position → above position js ≡ drop (position + 1 - (a + 1)) js) → (position < a) ⊎ (a ≤ position)
    → above position (j ∷ js) ≡ drop (position + 1 - a) (j ∷ js)
above_step a position j js s low behind (inl here) = above_all a position (j ∷ js) s here ∙ ap (λ n. drop n (j ∷ js)) (let none : 0 ≡ position + 1 - a = omega (arith, here, low) in none)
above_step a position j js s low behind (inr below) =
    let more : position + 1 - a ≡ suc (position + 1 - (a + 1)) = omega (arith, below) in
    rw (le-ltb position j.seqno (omega (arith, below, s.0))) (behind below) ∙ ap (λ n. drop n (j ∷ js)) (sym more)

pub above_drop : (a position : ℕ) (js : List Judged) → SeqnosFrom a js → a ≤ position + 1 → above position js ≡ drop (position + 1 - a) js
above_drop a position [] s low = sym (drop_all (position + 1 - a) [] (omega arith))
above_drop a position (j ∷ js) s low = above_step a position j js s low (λ below. above_drop (a + 1) position js s.1 (omega (arith, below))) (cases_lt position a)

-- ---- the items of a history

pub items_so_far : (p : Setting) (h : List Judged) (L : Order) → items_of (fold (joined p) h L) ≡ items_of h ++ L
items_so_far p h [] = sym (append-nil (items_of h))
items_so_far p h (i ∷ L) = items_so_far p (joined p h i) L ∙ (ap (λ (K : Order). K ++ L) (map-append (λ (j : Judged). j.item) h _) ∙ append_assoc (items_of h) (i ∷ []) L)

-- ---- the joiner

module _ (goes : JudgingGoesOn) (extends : JudgedItemsExtendTheOrder) (O : Order) (n k m : Node) (have : Have) (t : Transfer) (is_node : IsNode n) (is : IsOf O n) (joiner : IsJoiner (take n.facts.durable O) k have)
    (window : k.facts.setting.window ≡ n.facts.setting.window) (tables : k.facts.setting.rows ≡ n.facts.setting.rows) where
  abbrev end : ℕ
  end = n.facts.durable

  abbrev b : ℕ
  b = n.base.position

  abbrev whole : Order
  whole = take end O

  far : b ≤ end
  far = omega (arith, is_node.position, is_node.facts.based)

  judged : AreJudgedFrom n.facts.setting n.base n.items
  judged = extends.judged n.facts.uuid n.facts.setting O (record { uuid = n.facts.uuid; setting = n.facts.setting; base = n.base; tail = n.items }) (record { uuid_is = refl; setting_is = refl; within = is.within; base_is = is.base; tail_is = is.items })

  pub seqnos : SeqnosFrom (b + 1) (durable_items n)
  seqnos = goes.judged_seqnos n.facts.setting n.base (durable_items n) (goes.judged_front n.facts.setting n.base (end - n.facts.base) n.items judged)

  items : items_of (durable_items n) ≡ drop b whole
  items =
      let size : end ≡ b + (end - n.facts.base) = omega (arith, far, is_node.position) in
      let all : items_of n.items ≡ drop b O = ap items_of is.items ∙ sym (drop-map (λ (j : Judged). j.item) b (history n.facts.setting O)) ∙ ap (drop b) (items_so_far n.facts.setting [] O) in
      sym (take-map (λ (j : Judged). j.item) (end - n.facts.base) n.items) ∙ ap (take (end - n.facts.base)) all ∙ sym (drop-take b (end - n.facts.base) O) ∙ ap (λ e. drop b (take e O)) (sym size)

  -- the durable items above a position from the base on
  items_above : (position : ℕ) → b ≤ position → items_of (above position (durable_items n)) ≡ drop position whole
  items_above position low =
      let past : position + 1 - (b + 1) ≡ position - b = omega arith in
      let there : position ≡ (position - b) + b = omega (arith, low) in
      ap items_of (above_drop (b + 1) position (durable_items n) seqnos (omega (arith, low))) ∙ sym (drop-map (λ (j : Judged). j.item) (position + 1 - (b + 1)) (durable_items n)) ∙ ap (drop (position + 1 - (b + 1))) items
      ∙ ap (λ d. drop d (drop b whole)) past ∙ drop-drop (position - b) b whole ∙ ap (λ d. drop d whole) (let same : b + (position - b) ≡ position = omega (arith, low) in same)

  ends : (o : Option Snapshot) → Brings n have o t.records → ((L : Order) → StartsAt k o L → IsOf (L ++ items_of t.records) m) → IsOf whole m
  ends None brings order =
      let position = have.position in
      let low : b ≤ position = omega (arith, brings.1, is_node.position) in
      let front : IsOf (take position whole) k = subst (λ d. IsOf (take d whole) k) (sym joiner.position) (joiner.front (λ nil. brings.0 (joiner.uuid ∙ nil))) in
      let rest : items_of t.records ≡ drop position whole = ap items_of brings.2 ∙ items_above position low in
      subst (λ (L : Order). IsOf L m) (ap (λ (L : Order). take position whole ++ L) rest ∙ take-append-drop position whole) (order (take position whole) front)
  ends (Some s) brings order =
      let starts : StartsAt k (Some s) (take b O) = snapshot_alike k.facts.setting n.facts.setting window tables s ∙ brings.1.state ∙ is.base ∙ sym (state_alike k.facts.setting n.facts.setting window tables (take b O)) in
      let rest : items_of t.records ≡ drop b whole = ap items_of brings.2 ∙ items in
      let front : take b O ≡ take b whole = sym (take-take b end O far) in
      subst (λ (L : Order). IsOf L m) (ap (λ (L : Order). take b O ++ L) rest ∙ ap (λ (L : Order). L ++ drop b whole) front ∙ take-append-drop b whole) (order (take b O) starts)

  pub joiner_holds : IsDonated n have t → Becomes k t m → IsOf whole m
  joiner_holds donated becomes = ends t.snapshot donated.brings becomes.order
