-- The delivered order, and what follows from it: verdicts, rows, windows and states.
use Rattle.std.specs.Prelude.{ℕ, ◌+◌, ◌-◌, Bool, nat_lt, nat_le, ◌&&◌, true, false, not, if◌then◌else◌, List, [], ◌∷◌, ◌++◌, length, map, filter, take, fold, max, slice_index_or, Option, None, Some}
use Rattle.std.specs.List.{list_any, list_all, flat_map, reduce}
use Rattle.std.specs.Option.{option_and_then, option_or}
use Rattle.rep_types.specs.declared.key.Key.{Key}
use Rattle.rep_types.specs.declared.value.Write.{Write}
use Rattle.rep_types.specs.declared.item.Item.{Item}
use Rattle.rep_types.specs.declared.item.Item.TheVariants.{WriteSet, SetWindow}
use Rattle.rep_types.specs.declared.judged.Judged.{Judged}
use Rattle.rep_types.specs.declared.verdict.Verdict.{Verdict}
use Rattle.rep_types.specs.declared.verdict.Verdict.TheVariants.{Commit, Conflict, Stale, Future, BadKey}
use Rattle.rep_types.specs.Keys.{key_eq}
use Rattle.rep_types.specs.Transactions.{Transaction, named}
use Rattle.rep_types.specs.Settings.{Setting, has_row}
use Rattle.rep_types.specs.Entries.{Entry}
use Rattle.rep_types.specs.Windows.{Window}
use Rattle.rep_types.specs.Items.{is_write_set, writes_of, written_by}
use Rattle.rep_types.specs.Reaches.{resized, size, floor}

-- The delivered order (Pedone, Guerraoui and Schiper 2003): the items as every node receives them, one after another. They are write
-- sets and, in this project, changes of the window's size. An item's seqno is its place in the order, from 1, whatever its verdict.
abbrev pub Order : Type 0
Order = List Item

-- what stands where an order has no item
abbrev pub no_item : Item
no_item = WriteSet (record { source = 0; trx = 0; last_seen = 0; reads = []; writes = [] })

-- the item with the seqno n
abbrev pub item : Order → ℕ → Item
item L n = slice_index_or L (n - 1) no_item

-- whether some key stands in both lists
abbrev pub touches : List Key → List Key → Bool
touches keys others = list_any (λ (key : Key). list_any (key_eq key) others) keys

-- whether each key that w reads or writes is a row of the schema
abbrev pub in_schema : Setting → Transaction → Bool
in_schema p w = list_all (has_row p.rows) (named w)

-- the last element that passes the test
abbrev pub latest : {A : Type 0} → (A → Bool) → List A → Option A
latest test [] = None
latest test (x ∷ xs) = option_or (latest test xs) (if test x then Some x else None)

-- whether the committed write set is concurrent with w, that is after what w had seen, and wrote a key that w reads or writes
abbrev pub against : Transaction → Entry → Bool
against w e = nat_lt w.last_seen e.seqno && touches e.keys (named w)

-- the seqnos of the entries that stand against w
abbrev pub seqnos_against : Transaction → List Entry → List ℕ
seqnos_against w es = map (λ (e : Entry). e.seqno) (filter (against w) es)

-- the greatest of these seqnos, if there is one
abbrev pub greatest : List ℕ → Option ℕ
greatest seqnos = reduce max seqnos

-- a conflict with the write set of that seqno, if there is one
abbrev pub conflict_with : Option ℕ → Verdict
conflict_with None = Commit
conflict_with (Some m) = Conflict m

-- The verdict on w at the seqno n, where these write sets are committed and the window reaches down to the floor: the first
-- line that applies. (Pedone, Guerraoui and Schiper 2003 have conflict and commit; the other lines are this project's.)
abbrev pub verdict_among : Setting → ℕ → ℕ → List Entry → Transaction → Verdict
verdict_among p lowest n entries w =
    if nat_le n w.last_seen then Future
    else if not (in_schema p w) then BadKey
    else if nat_lt (w.last_seen + 1) lowest then Stale
    else conflict_with (greatest (seqnos_against w entries))

-- The verdict on an item: a change of the window's size always commits (this project).
abbrev pub verdict_on : Setting → ℕ → ℕ → List Entry → Item → Verdict
verdict_on p lowest n entries (WriteSet w) = verdict_among p lowest n entries w
verdict_on p lowest n entries (SetWindow c) = Commit

abbrev pub is_commit : Verdict → Bool
is_commit Commit = true
is_commit (Conflict m) = false
is_commit Stale = false
is_commit Future = false
is_commit BadKey = false

-- whether an item takes effect
abbrev pub counts : Judged → Bool
counts j = is_commit j.verdict

-- whether it is a write set that takes effect, which later ones may conflict with
abbrev pub is_kept : Judged → Bool
is_kept j = is_write_set j.item && counts j

-- the seqno and the written keys of an item
abbrev pub entry_of : Judged → Entry
entry_of j = record { seqno = j.seqno; keys = written_by j.item }

-- the committed write sets, each as its seqno and written keys
abbrev pub entries : List Judged → List Entry
entries h = map entry_of (filter is_kept h)

-- the items, without what was said of them
abbrev pub items_of : List Judged → Order
items_of h = map (λ (j : Judged). j.item) h

-- the order so far, with the verdict on each item, and one more item
abbrev pub joined : Setting → List Judged → Item → List Judged
joined p h i =
    let n = length h + 1 in
    h ++ (record { seqno = n; item = i; verdict = verdict_on p (floor p (items_of h) (length h)) n (entries h) i }) ∷ []

-- each item of the order, with its seqno and its verdict
abbrev pub history : Setting → Order → List Judged
history p L = fold (joined p) [] L

-- The verdict on the item n of the order: what the items before it make of it.
abbrev pub verdict : Setting → Order → ℕ → Verdict
verdict p L n = verdict_on p (floor p L (n - 1)) n (entries (history p (take (n - 1) L))) (item L n)

-- the writes that took effect, in order
abbrev pub effects : List Judged → List Write
effects h = flat_map (λ (j : Judged). writes_of j.item) (filter counts h)

-- the value that the last write to the key put, or None where that deleted it or there is none
abbrev pub row_in : List Write → Key → Option (List ℕ)
row_in writes key = option_and_then (λ (write : Write). write.value) (latest (λ (write : Write). key_eq write.key key) writes)

-- The rows after the order (Pedone, Guerraoui and Schiper 2003): each key has the value of its last committed write.
abbrev pub rows : Setting → Order → Key → Option (List ℕ)
rows p L key = row_in (effects (history p L)) key

-- a read of the key in the state after the first s items
abbrev pub read : Setting → Order → Key → ℕ → Option (List ℕ)
read p L key s = rows p (take s L) key

-- the entries from the floor on
abbrev pub recent : ℕ → List Entry → List Entry
recent lowest es = filter (λ (e : Entry). nat_le lowest e.seqno) es

-- The window after the order (this project): its size, its floor, and the committed write sets that certification may still need.
abbrev pub window : Setting → Order → Window
window p L =
    let lowest = floor p L (length L) in
    record { size = size p L; floor = lowest; entries = recent lowest (entries (history p L)) }

-- A state: how many items came, the rows, and the window.
pub record State : Type 0 where
  pub position : ℕ
  pub content : Key → Option (List ℕ)
  pub kept : Window

-- the state after the order
abbrev pub state : Setting → Order → State
state p L = record { position = length L; content = rows p L; kept = window p L }

-- The verdict on the next item, judged from a state alone.
abbrev pub judge : Setting → ℕ → Window → Item → Verdict
judge p position v i = verdict_on p v.floor (position + 1) v.entries i

-- the next item, with its seqno and that verdict
abbrev pub judged_next : Setting → ℕ → Window → Item → Judged
judged_next p position v i = record { seqno = position + 1; item = i; verdict = judge p position v i }

-- its entry, where it has one
abbrev pub entry_in : Judged → List Entry
entry_in j = if is_kept j then entry_of j ∷ [] else []

-- a window after one more item, with its seqno and its verdict
abbrev pub extended : Window → Judged → Window
extended v j =
    let span = resized v.size j.item in
    let lowest = max v.floor (j.seqno + 1 - span) in
    record { size = span; floor = lowest; entries = recent lowest (v.entries ++ entry_in j) }

-- the window after the next item
abbrev pub window_after : Setting → ℕ → Window → Item → Window
window_after p position v i = extended v (judged_next p position v i)

-- what stands under a key after a write of it, if there is one, over what stood there
abbrev pub overwritten : Option (List ℕ) → Option Write → Option (List ℕ)
overwritten before None = before
overwritten before (Some write) = write.value

-- the rows after these writes
abbrev pub content_after : (Key → Option (List ℕ)) → List Write → Key → Option (List ℕ)
content_after content writes key = overwritten (content key) (latest (λ (write : Write). key_eq write.key key) writes)

-- The state after one more item.
abbrev pub after : Setting → State → Item → State
after p S i = record {
  position = S.position + 1;
  content = if is_commit (judge p S.position S.kept i) then content_after S.content (writes_of i) else S.content;
  kept = window_after p S.position S.kept i;
}
