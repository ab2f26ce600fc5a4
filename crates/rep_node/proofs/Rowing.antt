-- The rows of a node that runs, read one after another.
use Rattle.std.proofs.Common.{◌≡◌, inl, inr, ℕ, Option, Some, Result, Ok, IfOk, IfSome, List, ◌++◌, sym, ap, subst, ◌∙◌, append_assoc}
use mathlib.Core.List.{IsPrefix}
use Rattle.rep_types.specs.declared.key.Key.{Key}
use Rattle.rep_types.specs.declared.refusal.Refusal.{Refusal}
use Rattle.rep_types.specs.Settings.{Setting}
use Rattle.rep_types.specs.Order.{Order, items_of, read}
use Rattle.rep_types.specs.ByItems.{HistoryByItems, ReadsByItems}
use Rattle.rep_versions.specs.Following.{VersionsFollowTheItems}
use Rattle.rep_disk.specs.declared.disk.Disk.{Ghosts}
use Rattle.rep_stations.specs.Orders.{HistoriesExtendTheOrder}
use Rattle.rep_snap.specs.Lists.{published}
use Rattle.rep_snap.specs.Laws.{HistoriesGrow, PeeksFollowTheFold}
use Rattle.rep_snap.specs.Views.{Watching}
use Rattle.rep_ordered.specs.GoingLaws.{begins_on}
use Rattle.rep_node.specs.declared.origin.Origin.{Origin}
use Rattle.rep_node.specs.Publishing.{shown}
use Rattle.rep_node.specs.Homes.{Start, values_of}
use Rattle.rep_node.specs.Seats.{WentIdle}
use Rattle.rep_node.specs.Reading.{IsRowOf}
use Rattle.rep_node.specs.Rows.{Beside, HasRowsOf}
use Rattle.rep_node.proofs.Shown.{begins_alike, shown_alike}

-- what begins a list begins one that goes on from it
prefix_on : {A : Type 0} (xs ys zs : List A) → IsPrefix xs ys → IsPrefix ys zs → IsPrefix xs zs
prefix_on xs ys zs p q = (p.0 ++ q.0, sym (append_assoc xs p.0 q.0) ∙ (ap (λ l. l ++ q.0) p.1 ∙ q.1))

module _ {D : Type 0} (g : Ghosts D) (a b : Beside D) (r q : Watching Origin) (was : a.reader ≡ Some r) (is : b.reader ≡ Some q) where
  -- an order that goes on from more goes on from less
  pub forgets_none : HistoriesGrow → WentIdle a.seat.view b.seat.view → IsPrefix r.seen q.seen → (p : Setting) (L : Order) → HasRowsOf g b p L → HasRowsOf g a p L
  forgets_none laws idle more p L h = record {
    start = h.start;
    first = sym idle.0.goes.first ∙ h.first;
    setting = h.setting;
    order = h.order;
    node = h.node;
    is_of = h.is_of;
    starts = h.starts;
    items = h.items;
    legal = h.legal;
    whole = h.whole;
    seen = begins_on a.seat.view.seen b.seat.view.seen h.items idle.0.goes.seen h.seen;
    list = subst (λ (o : Option (Watching Origin)). IfSome o (λ (t : Watching Origin). IsPrefix (published t.seen) (shown h.items))) (sym was)
        (prefix_on (published r.seen) (published q.seen) (shown h.items) (laws.beginning r.seen q.seen more) (subst (λ (o : Option (Watching Origin)). IfSome o (λ (t : Watching Origin). IsPrefix (published t.seen) (shown h.items))) is h.list));
  }

  module _ (versions : VersionsFollowTheItems) (by_items : HistoryByItems) (extend : HistoriesExtendTheOrder g) (reads : ReadsByItems) (folds : PeeksFollowTheFold) (idle : WentIdle a.seat.view b.seat.view) (key : Key) (at : ℕ) where
    row_is : (x : Option (List ℕ)) (p : Setting) (L : Order) → ((s : Start D) → a.seat.view.first ≡ values_of s → IsRowOf g s b.seat.view q key at x) → HasRowsOf g b p L → x ≡ read p L key at
    row_is x p L row h =
        let s = h.start in
        let c = s.certifier.current in
        let told = row s (sym idle.0.goes.first ∙ h.first) in
        let low = told.reaches in
        let list : IsPrefix (published q.seen) (shown h.items) = subst (λ (o : Option (Watching Origin)). IfSome o (λ (t : Watching Origin). IsPrefix (published t.seen) (shown h.items))) is h.list in
        let same : read c.setting (h.order ++ items_of h.items) key at ≡ read c.setting (h.order ++ items_of told.items) key at = elim told.known [
          | inl shows ↦ shown_alike versions by_items g extend h.order h.node s.desk.engine c h.is_of h.starts reads folds told.items h.items list.0 key at told.legal h.legal (ap (λ l. l ++ list.0) (sym shows) ∙ list.1) low
          | inr begins ↦ begins_alike versions by_items g extend h.order h.node s.desk.engine c h.is_of h.starts reads told.items h.items key at (begins_on told.items b.seat.view.seen h.items begins h.seen) low
        ] in
        told.row h.order h.node h.is_of h.starts ∙ sym same ∙ (λ i. read (sym h.setting i) (sym h.whole i) key at)

    pub rows_are : (answer : Result (Option (List ℕ)) Refusal) → IfOk answer (λ row. (s : Start D) → a.seat.view.first ≡ values_of s → IsRowOf g s b.seat.view q key at row) → (x : Option (List ℕ)) (p : Setting) (L : Order) → answer ≡ Ok x → HasRowsOf g b p L → x ≡ read p L key at
    rows_are answer row x p L ok h = row_is x p L (subst (λ (z : Result (Option (List ℕ)) Refusal). IfOk z (λ row. (s : Start D) → a.seat.view.first ≡ values_of s → IsRowOf g s b.seat.view q key at row)) ok row) h
