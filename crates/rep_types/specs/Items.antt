-- The items of an order, and what both kinds have. Write sets and their certification are of Pedone, Guerraoui and Schiper 2003,
-- changes of the window's size of this project.
use Rattle.std.specs.Prelude.{◌≡◌, ℕ, Bool, true, false, List, [], Result, Ok, Err, All, IsTrue}
use Rattle.rep_types.specs.declared.key.Key.{Key}
use Rattle.rep_types.specs.declared.value.Write.{Write}
use Rattle.rep_types.specs.declared.item.Item.{Item}
use Rattle.rep_types.specs.declared.item.Item.TheVariants.{WriteSet, SetWindow}
use Rattle.rep_types.specs.declared.refusal.Refusal.{Refusal}
use Rattle.rep_types.specs.Transactions.{Transaction, IsWithinLimits, written, named}
use Rattle.rep_types.specs.Windows.{is_window_size}

-- whether the item is a write set, and no change of the window's size
abbrev pub is_write_set : Item → Bool
is_write_set (WriteSet w) = true
is_write_set (SetWindow c) = false

-- the limits of an item: those of a write set, or of a window's size
abbrev pub IsWithin : Item → Type 0
IsWithin (WriteSet w) = IsWithinLimits w
IsWithin (SetWindow c) = IsTrue (is_window_size c.size)

-- the write set as an item, unless it is refused
abbrev pub as_item : Result Transaction Refusal → Result Item Refusal
as_item (Ok w) = Ok (WriteSet w)
as_item (Err e) = Err e

-- no item changes the window's size
abbrev pub AreWriteSets : List Item → Type 0
AreWriteSets L = All (λ (i : Item). is_write_set i ≡ true) L

-- what the item writes: a change of the window's size writes nothing
abbrev pub writes_of : Item → List Write
writes_of (WriteSet w) = w.writes
writes_of (SetWindow c) = []

-- the keys that it writes, in their order
abbrev pub written_by : Item → List Key
written_by (WriteSet w) = written w
written_by (SetWindow c) = []

-- the keys that its transaction read
abbrev pub reads_of : Item → List Key
reads_of (WriteSet w) = w.reads
reads_of (SetWindow c) = []

-- the keys that it reads or writes
abbrev pub named_by : Item → List Key
named_by (WriteSet w) = named w
named_by (SetWindow c) = []

-- the position that its transaction saw: a change of the window's size saw none
abbrev pub seen_by : Item → ℕ
seen_by (WriteSet w) = w.last_seen
seen_by (SetWindow c) = 0

-- its two labels, without effect on a verdict or a window
abbrev pub source_of : Item → ℕ
source_of (WriteSet w) = w.source
source_of (SetWindow c) = c.source

abbrev pub trx_of : Item → ℕ
trx_of (WriteSet w) = w.trx
trx_of (SetWindow c) = c.trx
