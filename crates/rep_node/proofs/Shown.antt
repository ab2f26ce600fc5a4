-- The row that a published list says is the row of the order that the list's items make.
use Rattle.std.proofs.Common.{◌≡◌, inl, inr, ℕ, zero, suc, ◌+◌, ◌-◌, ◌<◌, ◌≤◌, Bool, true, false, ◌&&◌, if◌then◌else◌, Option, List, [], ◌∷◌, ◌++◌, length, map, take, drop, max, refl, sym, ap, subst, ◌∙◌, append_assoc, length-append, length-drop, arith}
use Rattle.std.proofs.lemmas.List.{length-map, map-append}
use Rattle.std.proofs.lemmas.Bool.{lt-leb}
use Rattle.std.proofs.Math.Seq.{take-nil, take-append_seam}
use Rattle.std.proofs.lemmas.Bool.Decides.{leb_tells}
use Rattle.rep_types.specs.declared.key.Key.{Key}
use Rattle.rep_types.specs.declared.item.Item.{Item}
use Rattle.rep_types.specs.declared.item.Item.TheVariants.{WriteSet, SetWindow}
use Rattle.rep_types.specs.declared.judged.Judged.{Judged}
use Rattle.rep_types.specs.Items.{is_write_set, writes_of}
use Rattle.rep_types.specs.Settings.{Setting}
use Rattle.rep_types.specs.Order.{Order, State, content_after, counts, items_of, history, read, rows}
use Rattle.rep_types.specs.ByItems.{HistoryByItems, ReadsByItems}
use Rattle.rep_versions.specs.Following.{VersionsFollowTheItems, rows_after, effect_of as written_of}
use Rattle.rep_disk.specs.declared.disk.Disk.{Ghosts}
use Rattle.rep_cert.specs.Holdings.{Holding}
use Rattle.rep_steps.specs.Nodes.{Node, advanced}
use Rattle.rep_steps.specs.Images.{AreJudgedFrom}
use Rattle.rep_steps.specs.Orders.{IsOf}
use Rattle.rep_engine.specs.Engines.{Engine}
use Rattle.rep_stations.specs.Judging.{Legal, start_of}
use Rattle.rep_stations.specs.Taking.{StartsAs}
use Rattle.rep_stations.specs.Orders.{HistoriesExtendTheOrder}
use Rattle.rep_snap.specs.declared.change.Pair.{Pair}
use Rattle.rep_snap.specs.declared.change.Change.{Change}
use Rattle.rep_snap.specs.declared.change.Change.TheVariants.{Publish, Prune}
use Rattle.rep_snap.specs.Lists.{Ascends, front_of, oldest_of}
use Rattle.rep_snap.specs.Laws.{PeeksFollowTheFold, rows_at}
use Rattle.rep_ordered.specs.Views.{StartsWith}
use Rattle.rep_node.specs.Publishing.{effect_of, shown}

-- ---- what an item is shown to have written is what it wrote

by_kind : (i : Item) (b : Bool) → (if is_write_set i && b then writes_of i else []) ≡ (if b then writes_of i else [])
by_kind (WriteSet w) b = refl
by_kind (SetWindow c) true = refl
by_kind (SetWindow c) false = refl

same_effect : (j : Judged) → effect_of j ≡ written_of j
same_effect j = by_kind j.item (counts j)

-- ---- the rows at a position, by the pairs and by what the items wrote

abbrev Rows : Type 0
Rows = Key → Option (List ℕ)

abbrev step : ℕ → Rows → Judged → Bool → Rows
step at content j b = if b then content_after content (effect_of j) else content

-- below the first item nothing is written
rows_before : (p : Setting) (S : State) (content : Rows) (at : ℕ) (js : List Judged) → AreJudgedFrom p S js → at ≤ S.position → rows_at content (shown js) at ≡ content
rows_before p S content at [] legal low = refl
rows_before p S content at (j ∷ js) legal low = let here = legal.0 in
    ap (λ b. rows_at (step at content j b) (shown js) at) (lt-leb j.seqno at (omega (arith, here, low))) ∙ rows_before p (advanced p S j) content at js legal.2 (omega (arith, low))

rows_made : (p : Setting) (S : State) (content : Rows) (at : ℕ) (js : List Judged) → AreJudgedFrom p S js → rows_at content (shown js) at ≡ rows_after content (take (at - S.position) (map written_of js))
rows_made p S content at [] legal = ap (rows_after content) (sym (take-nil (at - S.position)))
rows_made p S content at (j ∷ js) legal = elim (leb_tells j.seqno at) [
  | inl low ↦ let here = legal.0 in let up = low.1 in
      ap (λ b. rows_at (step at content j b) (shown js) at) low.0
      ∙ rows_made p (advanced p S j) (content_after content (effect_of j)) at js legal.2
      ∙ ap (λ ws. rows_after (content_after content ws) (take (at - (S.position + 1)) (map written_of js))) (same_effect j)
      ∙ ap (λ k. rows_after content (take k (map written_of (j ∷ js)))) (one_more (omega (arith, here, up)))
  | inr high ↦ let here = legal.0 in let above = high.1 in
      ap (λ b. rows_at (step at content j b) (shown js) at) high.0
      ∙ rows_before p (advanced p S j) content at js legal.2 (omega (arith, here, above))
      ∙ ap (λ k. rows_after content (take k (map written_of (j ∷ js)))) (nothing (omega (arith, here, above)))
]
  where
    one_more : S.position < at → suc (at - (S.position + 1)) ≡ at - S.position
    one_more high = omega (arith, high)

    nothing : at ≤ S.position → zero ≡ at - S.position
    nothing low = omega (arith, low)

-- ---- the seqnos of what is shown

pub front_of_shown : (p : Setting) (S : State) (js : List Judged) → AreJudgedFrom p S js → front_of S.position (shown js) ≡ S.position + length js
front_of_shown p S [] legal = omega arith
front_of_shown p S (j ∷ js) legal = ap (λ k. front_of k (shown js)) legal.0 ∙ front_of_shown p (advanced p S j) js legal.2 ∙ omega arith

ascends_shown : (p : Setting) (S : State) (js : List Judged) → AreJudgedFrom p S js → Ascends S.position (shown js)
ascends_shown p S [] legal = tt
ascends_shown p S (j ∷ js) legal = let here = legal.0 in (omega (arith, here), subst (λ k. Ascends k (shown js)) (sym here) (ascends_shown p (advanced p S j) js legal.2))

-- no snapshot is older than the start
pub not_before : (start : ℕ) (changes : List Change) → start ≤ oldest_of start changes
not_before start [] = omega arith
not_before start (Publish pair ∷ changes) = not_before start changes
not_before start (Prune c ∷ changes) = let up = not_before (max start c) changes in omega (arith, up)

-- ---- the rows of an order

module _ (versions : VersionsFollowTheItems) where
  -- where the items are those of the order behind its first ones
  made_of : (p : Setting) (L : Order) (items : List Judged) (key : Key) (at : ℕ) → items ≡ drop (length L) (history p (L ++ items_of items)) → length L ≤ at
      → rows_after (rows p L) (take (at - length L) (map written_of items)) key ≡ read p (L ++ items_of items) key at
  made_of p L items key at are low =
      let M = L ++ items_of items in
      ap (λ (l : Order). rows_after (rows p l) (take (at - length L) (map written_of items)) key) (sym (take-append_seam L (items_of items)))
      ∙ ap (λ (js : List Judged). rows_after (rows p (take (length L) M)) (take (at - length L) (map written_of js)) key) are
      ∙ versions.order p M (length L) at key low

  module _ (by_items : HistoryByItems) {D : Type 0} (g : Ghosts D) (extend : HistoriesExtendTheOrder g) (L : Order) (n : Node) (first : Engine D) (c : Holding) (of : IsOf L n) (starts : StartsAs g first c n) where
    -- the order has as many items as the certifier had come to
    pub as_long : length L ≡ c.delivered
    as_long = let within = of.within in let count = starts.count in
        let items : length n.items ≡ length L - n.base.position = ap length of.items ∙ length-drop n.base.position (history n.facts.setting L) ∙ ap (λ k. k - n.base.position) (by_items.as_many n.facts.setting L) in
        omega (arith, within, count, items)

    -- the rows that a fold over what is shown has, if it begins with those of the order, are those of the order that goes on by the items
    pub folded : (items : List Judged) (key : Key) (at : ℕ) → Legal c items → c.delivered ≤ at → rows_at (rows c.setting L) (shown items) at key ≡ read c.setting (L ++ items_of items) key at
    folded items key at legal low =
        let long = as_long in
        ap (λ (rs : Rows). rs key) (rows_made c.setting (start_of c) (rows c.setting L) at items legal)
        ∙ ap (λ k. rows_after (rows c.setting L) (take (at - k) (map written_of items)) key) (sym long)
        ∙ made_of c.setting L items key at (extend.entries L n first c items of starts legal) (omega (arith, long, low))

    -- ---- what readers see of a longer list

    -- a list that begins with what was seen says of a position that it reaches what that said
    pub begins_alike : ReadsByItems → (items more : List Judged) (key : Key) (at : ℕ) → StartsWith more items → at ≤ c.delivered + length items → read c.setting (L ++ items_of more) key at ≡ read c.setting (L ++ items_of items) key at
    begins_alike reads items more key at begins low =
        let whole : L ++ items_of more ≡ (L ++ items_of items) ++ items_of begins.0 = ap (λ js. L ++ items_of js) begins.1 ∙ (ap (λ l. L ++ l) (map-append _ items begins.0) ∙ sym (append_assoc L (items_of items) (items_of begins.0))) in
        let size : length (L ++ items_of items) ≡ length L + length items = length-append L (items_of items) ∙ ap (λ k. length L + k) (length-map items _) in
        let long = as_long in
        ap (λ (l : Order). read c.setting l key at) whole ∙ reads.stays c.setting (L ++ items_of items) (items_of begins.0) key at (omega (arith, size, long, low))

    -- so does one of which so much is shown
    pub shown_alike : ReadsByItems → PeeksFollowTheFold → (items more : List Judged) (rest : List Pair) (key : Key) (at : ℕ) → Legal c items → Legal c more → shown items ++ rest ≡ shown more → at ≤ c.delivered + length items
        → read c.setting (L ++ items_of more) key at ≡ read c.setting (L ++ items_of items) key at
    shown_alike reads folds items more rest key at legal longer same low = elim (leb_tells c.delivered at) [
      | inl behind ↦
          let front = front_of_shown c.setting (start_of c) items legal in
          let ascends : Ascends c.delivered (shown items ++ rest) = subst (Ascends c.delivered) (sym same) (ascends_shown c.setting (start_of c) more longer) in
          sym (folded more key at longer behind.1)
          ∙ ap (λ pairs. rows_at (rows c.setting L) pairs at key) (sym same)
          ∙ ap (λ (rs : Rows). rs key) (folds.front (rows c.setting L) c.delivered at (shown items) rest ascends (omega (arith, front, low)))
          ∙ folded items key at legal behind.1
      | inr before ↦
          let long = as_long in
          let early = before.1 in
          let here : at ≤ length L = omega (arith, long, early) in
          reads.stays c.setting L (items_of more) key at here ∙ sym (reads.stays c.setting L (items_of items) key at here)
    ]
