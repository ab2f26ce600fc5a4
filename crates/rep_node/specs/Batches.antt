-- Items that a seat hands in, several at once, and what stands in the history for them.
use Rattle.std.specs.Prelude.{◌≡◌, ℕ, ◌+◌, ◌<◌, ◌≤◌, Option, Some, List, [], ◌∷◌, ◌++◌, length, map, slice_get}
use Rattle.rep_types.specs.declared.item.Item.{Item}
use Rattle.rep_types.specs.declared.judged.Judged.{Judged}
use Rattle.rep_ordered.specs.declared.view.Joined.{Joined}
use Rattle.rep_ordered.specs.declared.view.View.{View}
use Rattle.rep_ordered.specs.Counts.{times}
use Rattle.rep_ordered.specs.Views.{Every, OwnEntry}
use Rattle.rep_node.specs.declared.home.Home.{Home}
use Rattle.rep_node.specs.declared.batch.Receipt.{Receipt}
use Rattle.rep_node.specs.declared.pace.Point.{Point}
use Rattle.rep_node.specs.declared.pace.Point.TheVariants.{Claimed, Certified, Queued}
use Rattle.rep_node.specs.Seats.{own_entry}

-- what a receipt says of its item, as an entry of the history
abbrev pub entry_of : Item → Receipt → Judged
entry_of item r = record { seqno = r.seqno; item = item; verdict = r.verdict }

abbrev pub seqno_of : Receipt → ℕ
seqno_of r = r.seqno

abbrev pub index_of : Receipt → ℕ
index_of r = r.index

-- The pace let a worker go on with the item of this seqno behind each of its steps.
abbrev pub LetsOn : (Point → ℕ → Type 0) → ℕ → Type 0
LetsOn lets seqno = lets Claimed seqno × lets Certified seqno × lets Queued seqno

-- and so with the item of each receipt
abbrev pub AreLetOn : (Point → ℕ → Type 0) → List Receipt → Type 0
AreLetOn lets receipts = Every (λ (r : Receipt). LetsOn lets r.seqno) receipts

abbrev pub carried : Joined Judged → Option Item
carried o = Some o.entry.item

-- The entries carry items of the batch, unchanged, each that of another place, from this place on and below that one.
pub record ComeFrom (items : List Item) (from to : ℕ) (joined : List (Joined Judged)) : Type 0 where
  pub places : List ℕ
  pub are : map carried joined ≡ map (slice_get items) places
  pub once : (i : ℕ) → times i places ≤ 1
  pub within : Every (λ (i : ℕ). (from ≤ i) × (i < to)) places

module _ {D : Type 0} where
  -- The receipt is of an item of the batch, at its place: at its number the history has that item with its verdict, as an entry of the
  -- seat's own, above all that the seat had seen; and it is durable.
  pub record IsReceipt (items : List Item) (v w : View (Home D) Judged) (r : Receipt) : Type 0 where
    pub item : Item
    pub at : slice_get items r.index ≡ Some item
    pub stands : OwnEntry w.start w.seen w.own (own_entry (entry_of item r))
    pub later : v.start + length v.seen ≤ r.seqno
    pub durable : r.seqno ≤ w.durable

  -- What a batch has come to, of the places from this one on and below that one: each receipt is of another place, and its seqno is one
  -- that was drawn for the batch, none twice; no more were drawn than there are places; and what the seat let join the history since are
  -- entries of different items of the batch, unchanged, each with its receipt or not.
  pub record IsBatch (items : List Item) (from to : ℕ) (v w : View (Home D) Judged) (receipts : List Receipt) : Type 0 where
    pub drawn : List ℕ
    pub own : w.own ≡ v.own ++ drawn
    pub few : from + length drawn ≤ to
    pub told : Every (IsReceipt items v w) receipts
    pub seqnos : (x : ℕ) → times x (map seqno_of receipts) ≤ times x drawn
    pub places : (i : ℕ) → times i (map index_of receipts) ≤ 1
    pub within : Every (λ (r : Receipt). (from ≤ r.index) × (r.index < to)) receipts
    pub before : List (Joined Judged)
    pub after : List (Joined Judged)
    pub joined : w.joined ≡ before ++ v.joined ++ after
    pub come : ComeFrom items from to (before ++ after)

  -- And it came to all: each item has its receipt, and no seqno was drawn but those of the receipts.
  pub record IsWhole (from to : ℕ) (v w : View (Home D) Judged) (receipts : List Receipt) : Type 0 where
    pub count : from + length receipts ≡ to
    pub drawn : length w.own ≡ length v.own + length receipts

-- each receipt's seqno is above that of the one before
abbrev pub Ascends : List Receipt → Type 0
Ascends [] = Unit {0}
Ascends (r ∷ []) = Unit {0}
Ascends (r ∷ q ∷ rs) = (r.seqno < q.seqno) × Ascends (q ∷ rs)
