-- What comes next of a transfer that a donor gave.
use Rattle.std.proofs.Common.{◌≡◌, ℕ, ◌+◌, ◌-◌, ◌≤◌, List, [], ◌∷◌, ◌++◌, length, take, drop, Option, None, Some, append-nil, arith, refl, sym, ap, subst, ◌∙◌}
use Rattle.std.proofs.Math.Seq.{take-add, take-length, take-append_seam}
use Rattle.std.proofs.lemmas.List.{map-append, drop-take, drop-drop, take-take, length-take, length-drop}
use Rattle.rep_types.specs.declared.judged.Judged.{Judged}
use Rattle.rep_types.specs.Settings.{Setting}
use Rattle.rep_types.specs.Windows.{Window}
use Rattle.rep_types.specs.Order.{Order, items_of, history, verdict, judge, window}
use Rattle.rep_types.specs.ByItems.{HistoryByItems}
use Rattle.rep_types.specs.Verdicts.{StateIsEnough}
use Rattle.rep_types.proofs.Lists.{same_behind}
use Rattle.rep_steps.specs.Standings.{delivered}
use Rattle.rep_steps.specs.Nodes.{Node, IsNode, window_at}
use Rattle.rep_steps.specs.Images.{JudgedItemsExtendTheOrder}
use Rattle.rep_steps.specs.Judging.{JudgingGoesOn}
use Rattle.rep_steps.specs.Orders.{IsOf, NodesHoldTheOrder}
use Rattle.rep_transfer.specs.declared.have.Have.{Have}
use Rattle.rep_transfer.specs.Transfers.{Snapshot, Transfer}
use Rattle.rep_catchup.specs.Donating.{durable_items, Brings, IsDonated}
use Rattle.rep_catchup.specs.Joining.{StartsAt, GoesOn}
use Rattle.rep_catchup.specs.Orders.{IsJoiner, AreNext}
use Rattle.rep_catchup.proofs.Alike.{history_alike, state_alike, snapshot_alike}
use Rattle.rep_catchup.proofs.Orders.{above_drop, items_so_far, seqnos}

-- ---- lists

drop_front : {X : Type 0} (xs ys : List X) → drop (length xs) (xs ++ ys) ≡ ys
drop_front [] ys = refl
drop_front (x ∷ xs) ys = drop_front xs ys

same_one : {X : Type 0} (x y : X) → x ∷ [] ≡ y ∷ [] → x ≡ y
same_one x y same = cc

-- ---- an order behind what was taken of it

module _ (by : HistoryByItems) (p : Setting) (W : Order) (start : ℕ) (records more : List Judged) (are : drop start (history p W) ≡ records ++ more) where
  abbrev q : ℕ
  q = start + length records

  abbrev front : Order
  front = take q W

  all_items : (L : Order) → items_of (history p L) ≡ L
  all_items L = items_so_far p [] L

  rest_is : drop q (history p W) ≡ more
  rest_is = sym (drop-drop (length records) start (history p W)) ∙ ap (drop (length records)) are ∙ drop_front records more

  taken_is : take q (history p W) ≡ take start (history p W) ++ records
  taken_is = take-add start (length records) (history p W) ∙ ap (λ (rest : List Judged). take start (history p W) ++ take (length records) rest) are ∙ ap (λ (rs : List Judged). take start (history p W) ++ rs) (take-append_seam records more)

  front_items : (n : ℕ) → items_of (take n (history p W)) ≡ take n W
  front_items n = ap items_of (by.front p W n) ∙ all_items (take n W)

  -- the items that were delivered then
  pub delivered_items : take start W ++ items_of records ≡ front
  delivered_items = ap (λ (L : Order). L ++ items_of records) (sym (front_items start)) ∙ sym (map-append (λ (j : Judged). j.item) (take start (history p W)) records) ∙ sym (ap items_of taken_is) ∙ front_items q

  -- and the next one
  module _ (j : Judged) (others : List Judged) (is : more ≡ j ∷ others) where
    longer : history p (take (q + 1) W) ≡ history p front ++ j ∷ []
    longer = sym (by.front p W (q + 1)) ∙ take-add q 1 (history p W) ∙ ap (λ (rest : List Judged). take q (history p W) ++ take 1 rest) (rest_is ∙ is) ∙ ap (λ (h : List Judged). h ++ j ∷ []) (by.front p W q)

    items_longer : take (q + 1) W ≡ front ++ j.item ∷ []
    items_longer = sym (all_items (take (q + 1) W)) ∙ ap items_of longer ∙ map-append (λ (i : Judged). i.item) (history p front) (j ∷ []) ∙ ap (λ (L : Order). L ++ j.item ∷ []) (all_items front)

    pub next_is : j ≡ record { seqno = length front + 1; item = j.item; verdict = verdict p (front ++ j.item ∷ []) (length front + 1) }
    next_is = same_one j _ (same_behind (history p front) (j ∷ []) _ (sym longer ∙ ap (history p) items_longer ∙ by.one_more p front j.item))

-- ---- the joiner

module _ (goes : JudgingGoesOn) (extends : JudgedItemsExtendTheOrder) (holds : NodesHoldTheOrder) (by : HistoryByItems) (enough : StateIsEnough) (O : Order) (n k m : Node) (have : Have) (t : Transfer) (uuid : List ℕ) (records more : List Judged) (is_node : IsNode n) (is : IsOf O n)
    (joiner : IsJoiner (take n.facts.durable O) k have) (spans : k.facts.setting.window ≡ n.facts.setting.window) (tables : k.facts.setting.rows ≡ n.facts.setting.rows) (is_joined : IsNode m) (went : GoesOn k uuid t.snapshot records m) (are : t.records ≡ records ++ more) where
  abbrev p : Setting
  p = n.facts.setting

  abbrev end : ℕ
  end = n.facts.durable

  abbrev b : ℕ
  b = n.base.position

  abbrev whole : Order
  whole = take end O

  far : b ≤ end
  far = omega (arith, is_node.position, is_node.facts.based)

  durable_are : durable_items n ≡ drop b (history p whole)
  durable_are =
      let size : b + (end - n.facts.base) ≡ end = omega (arith, far, is_node.position) in
      ap (take (end - n.facts.base)) is.items ∙ sym (drop-take b (end - n.facts.base) (history p O)) ∙ ap (λ e. drop b (take e (history p O))) size ∙ ap (drop b) (by.front p O end)

  long : length whole ≡ end
  long =
      let all : length n.items ≡ length O - b = ap length is.items ∙ length-drop b (history p O) ∙ ap (λ l. l - b) (by.as_many p O) in
      let sizes = length-take end O in
      omega (arith, all, sizes, is_node.enough, is_node.position, is.within)

  -- what is next of a node of the order behind the items that were taken
  next_at : (start : ℕ) → drop start (history p whole) ≡ records ++ more → IsOf (take start whole ++ items_of records) m → (rest : List Judged) → more ≡ rest → AreNext m rest end
  next_at start all of [] none =
      let front : Order = take (start + length records) whole in
      let there : IsOf front m = subst (λ (L : Order). IsOf L m) (delivered_items by p whole start records more all) of in
      let count : delivered m.facts ≡ length front = (holds front m is_joined there).count in
      let sizes : length (history p whole) - start ≡ length records = sym (length-drop start (history p whole)) ∙ ap length all ∙ ap (λ (js : List Judged). length (records ++ js)) none ∙ ap length (append-nil records) in
      omega (arith, count, length-take (start + length records) whole, long, sizes, by.as_many p whole)
  next_at start all of (j ∷ others) one =
      let front : Order = take (start + length records) whole in
      let there : IsOf front m = subst (λ (L : Order). IsOf L m) (delivered_items by p whole start records more all) of in
      let on = holds front m is_joined there in
      let next = next_is by p whole start records more all j others one in
      let q : Setting = m.facts.setting in
      let past : m.base.position ≤ length front = there.within in
      let kept : window_at m (delivered m.facts) ≡ window q front =
      ap (window_at m) on.count ∙ on.window (length front) past (let here : length front ≤ length front = omega arith in here) ∙ ap (window q) (take-length front) in
      let alike : history q (front ++ j.item ∷ []) ≡ history p (front ++ j.item ∷ []) = ap (λ (s : Setting). history s (front ++ j.item ∷ [])) went.setting_is ∙ history_alike k.facts.setting p spans tables (front ++ j.item ∷ []) in
      let shorter : history q front ≡ history p front = ap (λ (s : Setting). history s front) went.setting_is ∙ history_alike k.facts.setting p spans tables front in
      let by_setting : Setting → Judged = λ s. record { seqno = length front + 1; item = j.item; verdict = verdict s (front ++ j.item ∷ []) (length front + 1) } in
      let same : by_setting q ≡ by_setting p =
      same_one (by_setting q) (by_setting p) (same_behind (history p front) (by_setting q ∷ []) (by_setting p ∷ []) (ap (λ (h : List Judged). h ++ by_setting q ∷ []) (sym shorter) ∙ sym (by.one_more q front j.item) ∙ alike ∙ by.one_more p front j.item)) in (
        ap (λ (i : Judged). i.seqno) next ∙ ap (λ c. c + 1) (sym on.count),
        ap (λ c. judge q c (window_at m (delivered m.facts)) j.item) on.count ∙ ap (λ (v : Window). judge q (length front) v j.item) kept ∙ enough.verdicts q front j.item ∙ ap (λ (i : Judged). i.verdict) same ∙ sym (ap (λ (i : Judged). i.verdict) next),
      )

  next_behind : (o : Option Snapshot) → o ≡ t.snapshot → Brings n have o t.records → ((L : Order) → StartsAt k o L → IsOf (L ++ items_of records) m) → AreNext m more end
  next_behind None own brings order =
      let position = have.position in
      let low : b ≤ position = omega (arith, brings.1, is_node.position) in
      let front : IsOf (take position whole) k = subst (λ d. IsOf (take d whole) k) (sym joiner.position) (joiner.front (λ nil. brings.0 (joiner.uuid ∙ nil))) in
      let past : position + 1 - (b + 1) ≡ position - b = omega arith in
      let all : drop position (history p whole) ≡ records ++ more =
      ap (λ d. drop d (history p whole)) (let same : position ≡ b + (position - b) = omega (arith, low) in same) ∙ sym (drop-drop (position - b) b (history p whole)) ∙ ap (drop (position - b)) (sym durable_are) ∙ ap (λ d. drop d (durable_items n)) (sym past)
      ∙ sym (above_drop (b + 1) position (durable_items n) (seqnos goes extends O n k m have t is_node is joiner spans tables) (omega (arith, low))) ∙ sym brings.2 ∙ are in
      next_at position all (order (take position whole) front) more refl
  next_behind (Some s) own brings order =
      let starts : StartsAt k (Some s) (take b O) = snapshot_alike k.facts.setting p spans tables s ∙ brings.1.state ∙ is.base ∙ sym (state_alike k.facts.setting p spans tables (take b O)) in
      let front : take b O ≡ take b whole = sym (take-take b end O far) in
      next_at b (sym durable_are ∙ sym brings.2 ∙ are) (subst (λ (L : Order). IsOf (L ++ items_of records) m) front (order (take b O) starts)) more refl

  pub comes_next : IsDonated n have t → AreNext m more t.last
  comes_next donated = subst (AreNext m more) (sym donated.last) (next_behind t.snapshot refl donated.brings went.order)
