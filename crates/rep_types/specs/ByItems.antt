-- The history, the rows, the window and the state in the subject's own words, by the items of the order; and how far back its window
-- reaches.
use Rattle.std.specs.Prelude.{◌≡◌, ◌≢◌, ◌↔◌, ℕ, ◌+◌, ◌-◌, ◌<◌, ◌≤◌, List, [], ◌∷◌, ◌++◌, length, take, slice_index_or, max, true, Contains, None}
use Rattle.rep_types.specs.declared.key.Key.{Key}
use Rattle.rep_types.specs.declared.value.Write.{Write}
use Rattle.rep_types.specs.declared.item.Item.{Item}
use Rattle.rep_types.specs.declared.item.Item.TheVariants.{SetWindow as OfSetWindow}
use Rattle.rep_types.specs.declared.item.SetWindow.{SetWindow}
use Rattle.rep_types.specs.declared.judged.Judged.{Judged}
use Rattle.rep_types.specs.declared.verdict.Verdict.TheVariants.{Commit}
use Rattle.rep_types.specs.Settings.{Setting}
use Rattle.rep_types.specs.Entries.{Entry}
use Rattle.rep_types.specs.Windows.{fixed}
use Rattle.rep_types.specs.Items.{is_write_set, AreWriteSets, writes_of, written_by}
use Rattle.rep_types.specs.Reaches.{size, floor, reach, reach_after}
use Rattle.rep_types.specs.Order.{Order, item, verdict, history, entries, effects, rows, read, window, state}

-- the order has an item n, and it committed
pub record IsCommitted (p : Setting) (L : Order) (n : ℕ) : Type 0 where
  pub first : 1 ≤ n
  pub last : n ≤ length L
  pub commit : verdict p L n ≡ Commit

-- The history has the items of the order, each with its seqno and its verdict: its item n is at the place n, counted from 1. The
-- history of a front of the order is a front of it, more items give the earlier ones no other verdict, and one more item stands behind
-- it with the verdict that the longer order gives it.
pub record HistoryByItems : Type 0 where
  pub seqno : (before behind : Order) (i : Item) → item (before ++ i ∷ behind) (length before + 1) ≡ i
  pub as_many : (p : Setting) (L : Order) → length (history p L) ≡ length L
  pub items : (p : Setting) (L : Order) (n : ℕ) (d : Judged) → 1 ≤ n → n ≤ length L →
      slice_index_or (history p L) (n - 1) d ≡ record { seqno = n; item = item L n; verdict = verdict p L n }
  pub front : (p : Setting) (L : Order) (n : ℕ) → take n (history p L) ≡ history p (take n L)
  pub verdicts : (p : Setting) (L : Order) (k n : ℕ) → 1 ≤ n → n ≤ k → verdict p (take k L) n ≡ verdict p L n
  pub one_more : (p : Setting) (L : Order) (i : Item) →
      history p (L ++ i ∷ []) ≡ history p L ++ record { seqno = length L + 1; item = i; verdict = verdict p (L ++ i ∷ []) (length L + 1) } ∷ []

-- e stands for a committed write set of the order: the one with its seqno, which wrote its keys
pub record IsEntry (p : Setting) (L : Order) (e : Entry) : Type 0 where
  pub committed : IsCommitted p L e.seqno
  pub kind : is_write_set (item L e.seqno) ≡ true
  pub keys : e.keys ≡ written_by (item L e.seqno)

-- each seqno is below those behind it
abbrev pub AscendBySeqno : List Entry → Type 0
AscendBySeqno es = (i j : ℕ) (d : Entry) → i < j → j < length es → (slice_index_or es i d).seqno < (slice_index_or es j d).seqno

-- The entries are those of the committed write sets, and the window has those of them from the floor on; both in the order of their
-- seqnos, each once. The window has the size and the floor of the order. Where no item changes the size, it is the fixed window of the
-- parameters' size.
pub record WindowByItems : Type 0 where
  pub all : (p : Setting) (L : Order) (e : Entry) → Contains (entries (history p L)) e ↔ IsEntry p L e
  pub all_ascend : (p : Setting) (L : Order) → AscendBySeqno (entries (history p L))
  pub has_size : (p : Setting) (L : Order) → (window p L).size ≡ size p L
  pub has_floor : (p : Setting) (L : Order) → (window p L).floor ≡ floor p L (length L)
  pub spanned : (p : Setting) (L : Order) (e : Entry) → Contains (window p L).entries e ↔ (IsEntry p L e × (floor p L (length L) ≤ e.seqno))
  pub spanned_ascend : (p : Setting) (L : Order) → AscendBySeqno (window p L).entries
  pub same_size : (p : Setting) (L : Order) → AreWriteSets L → window p L ≡ fixed p.window (length L) (window p L).entries

-- the writes write the key, and this is the last that does
pub record IsLastWrite (writes : List Write) (key : Key) (write : Write) : Type 0 where
  pub place : ℕ
  pub inside : place < length writes
  pub is : slice_index_or writes place write ≡ write
  pub of_key : write.key ≡ key
  pub last : (k : ℕ) (d : Write) → place < k → k < length writes → (slice_index_or writes k d).key ≢ key

-- A key that no committed item writes has no row. Where committed items write it, the last of them says the row: the value of
-- its last write of the key, or no row where that is a delete. What takes effect is what committed items write.
pub record RowsByItems : Type 0 where
  pub absent : (p : Setting) (L : Order) (key : Key) → ((n : ℕ) → IsCommitted p L n → Contains (written_by (item L n)) key → ⊥) → rows p L key ≡ None
  pub present : (p : Setting) (L : Order) (key : Key) (n : ℕ) (write : Write) → IsCommitted p L n → IsLastWrite (writes_of (item L n)) key write →
      ((k : ℕ) → n < k → IsCommitted p L k → Contains (written_by (item L k)) key → ⊥) → rows p L key ≡ write.value
  pub effects : (p : Setting) (L : Order) (write : Write) →
      Contains (effects (history p L)) write ↔ ((n : ℕ) × IsCommitted p L n × Contains (writes_of (item L n)) write)

-- A read at s is of the rows after the first s items. It stays the same as more items come.
pub record ReadsByItems : Type 0 where
  pub rows : (p : Setting) (L : Order) (key : Key) (s : ℕ) → read p L key s ≡ rows p (take s L) key
  pub stays : (p : Setting) (L M : Order) (key : Key) (s : ℕ) → s ≤ length L → read p (L ++ M) key s ≡ read p L key s

-- A state is how many items came, the rows after them, and the window.
pub record StateByParts : Type 0 where
  pub position : (p : Setting) (L : Order) → (state p L).position ≡ length L
  pub content : (p : Setting) (L : Order) (key : Key) → (state p L).content key ≡ rows p L key
  pub kept : (p : Setting) (L : Order) → (state p L).kept ≡ window p L

-- The size of the window is the one that the last change of it set, and that of the parameters where no item changes it.
pub record SizeByItems : Type 0 where
  pub first : (p : Setting) (L : List Item) → AreWriteSets L → size p L ≡ p.window
  pub last : (p : Setting) (L M : List Item) (c : SetWindow) → AreWriteSets M → size p (L ++ OfSetWindow c ∷ M) ≡ c.size

-- The floor never falls, and is 1 at first. After each item it is at least the least seqno that the size at that item spans there,
-- and it is the least number that does so. Where no item changes the size, it is the least seqno that this size spans, 1 or more.
pub record FloorByItems : Type 0 where
  pub rises : (p : Setting) (L : List Item) (m n : ℕ) → m ≤ n → floor p L m ≤ floor p L n
  pub first : (p : Setting) (L : List Item) (n : ℕ) → 1 ≤ floor p L n
  pub spans : (p : Setting) (L : List Item) (m n : ℕ) → 1 ≤ m → m ≤ n → m + 1 ≤ floor p L n + size p (take m L)
  pub least : (p : Setting) (L : List Item) (n bound : ℕ) → 1 ≤ bound → ((m : ℕ) → 1 ≤ m → m ≤ n → m + 1 ≤ bound + size p (take m L)) →
      floor p L n ≤ bound
  pub fixed : (p : Setting) (L : List Item) (n : ℕ) → AreWriteSets L → floor p L n ≡ max 1 (n + 1 - p.window)

-- The reach of an order is its size and its floor, and goes on from itself as the order does. The floor at a position is that of the
-- order up to there, whatever items come behind.
pub record ReachByItems : Type 0 where
  pub has_size : (p : Setting) (L : List Item) → (reach p L).size ≡ size p L
  pub has_floor : (p : Setting) (L : List Item) → (reach p L).floor ≡ floor p L (length L)
  pub front : (p : Setting) (L : List Item) (k n : ℕ) → n ≤ k → floor p (take k L) n ≡ floor p L n
  pub first : (p : Setting) → reach p [] ≡ record { size = p.window; floor = 1 }
  pub one_more : (p : Setting) (L : List Item) (i : Item) → reach p (L ++ i ∷ []) ≡ reach_after (reach p L) (length L + 1) i
