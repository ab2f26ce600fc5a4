use Rattle.std.proofs.Common.{◌≡◌, ℕ, ◌≤◌, true, nat_le, length, Contains, refl, ap, ◌∙◌}
use Rattle.std.proofs.lemmas.Bool.{leb-true, le-leb}
use Rattle.rep_types.specs.Settings.{Setting}
use Rattle.rep_types.specs.Entries.{Entry}
use Rattle.rep_types.specs.Windows.{Window, fixed}
use Rattle.rep_types.specs.Items.{AreWriteSets}
use Rattle.rep_types.specs.Reaches.{floor}
use Rattle.rep_types.specs.Order.{Order, entries, history, window}
use Rattle.rep_types.specs.ByItems.{IsEntry}
use Rattle.rep_types.proofs.Members.{Contains-filter, Contains-from_filter}
use Rattle.rep_types.proofs.Reaches.{size-write_sets, floor-write_sets}
use Rattle.rep_types.proofs.Committed.{IsEntry-from_entries, entries_from_IsEntry, AscendBySeqno-from, AscendFrom-filter, AscendFrom-history}
use Rattle.rep_types.proofs.laws.window_by_items.Goals as goal

-- what the window has
found : (p : Setting) (L : Order) (e : Entry) → Contains (window p L).entries e → IsEntry p L e × (floor p L (length L) ≤ e.seqno)
found p L e has =
    let lowest : ℕ = floor p L (length L) in
    let kept : Contains (entries (history p L)) e × (nat_le lowest e.seqno ≡ true) =
    Contains-from_filter (λ (f : Entry). nat_le lowest f.seqno) (entries (history p L)) e has in
    (IsEntry-from_entries p L e kept.0, leb-true lowest e.seqno kept.1)

-- and what is in it
held : (p : Setting) (L : Order) (e : Entry) → IsEntry p L e × (floor p L (length L) ≤ e.seqno) → Contains (window p L).entries e
held p L e is =
    let lowest : ℕ = floor p L (length L) in
    Contains-filter (λ (f : Entry). nat_le lowest f.seqno) (entries (history p L)) e (entries_from_IsEntry p L e is.0) (le-leb lowest e.seqno is.1)

-- of write sets alone
same_size : (p : Setting) (L : Order) → AreWriteSets L → window p L ≡ fixed p.window (length L) (window p L).entries
same_size p L are =
    ap (λ (s : ℕ). made s (floor p L (length L))) (size-write_sets p L are) ∙ ap (made p.window) (floor-write_sets p L (length L) are)
  where
    made : ℕ → ℕ → Window
    made s f = record { size = s; floor = f; entries = (window p L).entries }

pub returns : goal.returns
returns c = record {
  all = λ p L e. (IsEntry-from_entries p L e, entries_from_IsEntry p L e);
  all_ascend = λ p L. AscendBySeqno-from 1 (entries (history p L)) (AscendFrom-history p L);
  has_size = λ p L. refl;
  has_floor = λ p L. refl;
  spanned = λ p L e. (found p L e, held p L e);
  spanned_ascend = λ p L.
      AscendBySeqno-from 1 (window p L).entries
      (AscendFrom-filter (λ (f : Entry). nat_le (floor p L (length L)) f.seqno) 1 (entries (history p L)) (AscendFrom-history p L));
  same_size = same_size;
}
