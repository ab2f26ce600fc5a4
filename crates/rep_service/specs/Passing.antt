-- Items of an order that are durable already.
use Rattle.std.specs.Prelude.{◌≡◌, ◌⊎◌, ℕ, ◌+◌, ◌≤◌, Bool, true, nat_lt, if◌then◌else◌, List, [], ◌∷◌, ◌++◌, length, map, take, Option, None, Some, Result, Ok, Err}
use Rattle.std.specs.Io.KnownBytes.{Appends, Consumes}
use Rattle.rep_types.specs.declared.item.Item.{Item}
use Rattle.rep_types.specs.declared.judged.Judged.{Judged}
use Rattle.rep_types.specs.declared.refusal.Refusal.{Refusal}
use Rattle.rep_types.specs.declared.refusal.Refusal.TheVariants.{StreamFault}
use Rattle.rep_types.specs.Replies.{reply_of}
use Rattle.rep_requests.specs.Requests.{requested}
use Rattle.rep_follow.specs.Receipts.{receipt_line}
use Rattle.rep_follow.specs.Taking.{text_of}
use Rattle.rep_service.specs.Commanding.{awaited}

-- ---- lines and the items among them

-- The line is one that a node answers which awaits this item of the order; or it is that item.
abbrev pub IsAnswered : ℕ → List ℕ → Type 0
IsAnswered next line = (number : ℕ) × (awaited next number (requested number line) ≡ Ok None)

abbrev pub IsItem : ℕ → List ℕ → Item → Type 0
IsItem next line i = (number : ℕ) × (awaited next number (requested number line) ≡ Ok (Some i))

-- Of these lines these are items, which follow one another in the order from this seqno on; and the others are answered.
abbrev pub AreLines : ℕ → List (List ℕ) → List Item → Type 0
AreLines next [] items = items ≡ []
AreLines next (line ∷ lines) items = (IsAnswered next line × AreLines next lines items) ⊎ ((i : Item) × (rest : List Item) × (items ≡ i ∷ rest) × IsItem next line i × AreLines (next + 1) lines rest)

abbrev pub items_of : Option Item → List Item
items_of None = []
items_of (Some i) = i ∷ []

-- These items were passed over, one after another from behind this position on, among lines that were answered.
pub record Passes (first : ℕ) (text behind : Option (List ℕ)) (items : List Item) (position : ℕ) : Type 0 where
  pub lines : List (List ℕ)
  pub are : AreLines (first + 1) lines items
  pub handed : Consumes text behind (text_of lines)
  pub position_is : position ≡ first + length items

-- The items up to the base were passed over; or the text has ended before.
pub record PassesOld (base first : ℕ) (text behind : Option (List ℕ)) (done : Bool) (position : ℕ) : Type 0 where
  pub items : List Item
  pub passes : Passes first text behind items position
  pub enough : done ≡ true → base ≤ position

-- ---- the records of the log

abbrev pub item_in : Judged → Item
item_in j = j.item

-- the records above a position, each above those before it
abbrev pub records_behind : ℕ → List Judged → List Judged
records_behind position [] = []
records_behind position (j ∷ js) = if nat_lt position j.seqno then j ∷ records_behind j.seqno js else records_behind position js

-- What was passed over are exactly the items of these records that are behind the position; or, where the text has ended before, of the first of them.
pub record PassesRecords (records : List Judged) (first : ℕ) (text behind : Option (List ℕ)) (done : Bool) (position : ℕ) : Type 0 where
  pub front : List Judged
  pub left : List Judged
  pub split : records_behind first records ≡ front ++ left
  pub passes : Passes first text behind (map item_in front) position
  pub all : done ≡ true → left ≡ []

-- ---- what is written of them

-- What is written of an item that is this one of the log: its receipt, or a front of it where the writer failed.
abbrev pub TellsDurable : Judged → Option (List ℕ) → Option (List ℕ) → Result (Unit {0}) Refusal → Type 0
TellsDurable j before after (Ok x) = Appends before after (receipt_line (reply_of j))
TellsDurable j before after (Err e) = (e ≡ StreamFault) × ((k : ℕ) × Appends before after (take k (receipt_line (reply_of j))))
