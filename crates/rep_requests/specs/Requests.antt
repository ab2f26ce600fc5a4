-- What a line asks of a node that follows an order (this project): total over all bytes.
use Rattle.std.specs.Prelude.{ℕ, ◌^◌, ◌==◌, Bool, true, false, not, ◌||◌, ◌&&◌, nat_lt, if◌then◌else◌, ℤ, pos, negsuc, List, [], ◌∷◌, length, take, drop, codes, Option, None, Some, Result, Ok, Err}
use Rattle.std.specs.Char.{is_digit}
use Rattle.rep_types.specs.declared.key.Key.{Key}
use Rattle.rep_types.specs.declared.item.Item.{Item}
use Rattle.rep_types.specs.declared.refusal.Refusal.{Refusal}
use Rattle.rep_types.specs.declared.refusal.Refusal.TheVariants.{Malformed, TooManyReads}
use Rattle.rep_types.specs.Gtids.{Gtid, gtid_in}
use Rattle.rep_record.specs.declared.text_reader.TheConstants.{MAX_LINE}
use Rattle.rep_record.specs.Words.{words, is_blank, cut}
use Rattle.rep_record.specs.Reading.{number_in, is_next, some_each, key_in, order_line}
use Rattle.rep_record.specs.Published.{published}
use Rattle.rep_requests.specs.declared.request.Request.{Request}
use Rattle.rep_requests.specs.declared.request.Request.TheVariants as request

-- What a line asks for: nothing; the item that has this seqno of the order, or the next one; a row of each of these keys; the sum of the rows
-- at this position, or at what is durable; a line of the state, the limits or the counters; a transfer. Or it is refused; or it begins with a digit and has no seqno.
pub data Requested : Type 0 where
  Nothing : Requested
  Published : (seqno : ℕ) (i : Item) → Requested
  Stated : (i : Item) → Requested
  Read : (keys : List Key) → Requested
  Sum : (at : Option ℕ) → Requested
  State : Requested
  Limits : Requested
  Counters : Requested
  Donate : (have out : List ℕ) → Requested
  Refused : (refusal : Refusal) → Requested
  Broken : Requested

-- the same as the code has it
abbrev pub said_of : Request → Requested
said_of request.Nothing = Nothing
said_of (request.Published seqno i) = Published seqno i
said_of (request.Stated i) = Stated i
said_of (request.Read keys) = Read keys.items
said_of (request.Sum at) = Sum at
said_of request.State = State
said_of request.Limits = Limits
said_of request.Counters = Counters
said_of (request.Donate have out) = Donate have.now out.now
said_of (request.Refused refusal) = Refused refusal
said_of request.Broken = Broken

-- ---- an item of an order that others write to

-- whether the line's first byte is a digit
abbrev pub begins_with_digit : List ℕ → Bool
begins_with_digit [] = false
begins_with_digit (b ∷ bs) = is_digit b 10

-- the seqno that the digits write: 1 to 20 of a number below 2^64, zeros in front allowed
abbrev pub seqno_in : List ℕ → Option ℕ
seqno_in digits = if nat_lt 20 (length digits) then None else number_in (2 ^ 64) digits

-- the item of this text, where there is a seqno
abbrev pub published_as : Option ℕ → List ℕ → Requested
published_as None text = Broken
published_as (Some seqno) text = Published seqno (published text)

abbrev pub numbered_by : Option (List ℕ × List ℕ) → Requested
numbered_by None = Broken
numbered_by (Some parts) = published_as (seqno_in parts.0) parts.1

-- What a line asks for that begins with a digit: a seqno, one space, and any text.
abbrev pub numbered : List ℕ → Requested
numbered line = numbered_by (cut 32 line)

-- the item of these parts
abbrev pub published_with : Option (ℕ × List ℕ) → Requested
published_with None = Broken
published_with (Some parts) = Published parts.0 (published parts.1)

-- ---- a text that is no item

abbrev pub is_read : Result Item Refusal → Bool
is_read (Ok i) = true
is_read (Err refusal) = false

-- whether the text is an item: it has at most 4,096 bytes, and is a line of an order text
abbrev pub is_item : List ℕ → Bool
is_item text = not (nat_lt MAX_LINE (length text)) && is_read (order_line 0 text)

abbrev pub is_unreadable_by : Option (List ℕ × List ℕ) → Bool
is_unreadable_by None = false
is_unreadable_by (Some parts) = not (is_item parts.1)

-- Whether what stands after the first space of the line is no item.
abbrev pub is_unreadable : List ℕ → Bool
is_unreadable line = is_unreadable_by (cut 32 line)

-- ---- a command

-- the first 16 of the keys, and whether there are more
abbrev pub first_keys : List Key → List Key × Bool
first_keys keys = (take 16 keys, nat_lt 16 (length keys))

-- what `read` asks for with these keys behind it
abbrev pub rows_requested : ℕ → Option (List Key) → Requested
rows_requested number None = Refused (Malformed number)
rows_requested number (Some keys) = if nat_lt 16 (length keys) then Refused TooManyReads else Read keys

-- what `sum` asks for at the position that this is
abbrev pub sum_at : ℕ → Option ℕ → Requested
sum_at number None = Refused (Malformed number)
sum_at number (Some position) = Sum (Some position)

-- what `sum` asks for with these words behind it: a position, or none
abbrev pub sum_requested : ℕ → List (List ℕ) → Requested
sum_requested number [] = Sum None
sum_requested number (word ∷ []) = sum_at number (number_in (2 ^ 64) word)
sum_requested number words = Refused (Malformed number)

-- what `donate` asks for with these words behind it: two names
abbrev pub transfer_requested : ℕ → List (List ℕ) → Requested
transfer_requested number (have ∷ out ∷ []) = Donate have out
transfer_requested number words = Refused (Malformed number)

-- a command of one word, with these words behind it
abbrev pub alone : ℕ → Requested → List (List ℕ) → Requested
alone number a words = if nat_lt 0 (length words) then Refused (Malformed number) else a

-- the next item, where the line is one of an order text
abbrev pub item_requested : Result Item Refusal → Requested
item_requested (Ok i) = Stated i
item_requested (Err refusal) = Refused refusal

abbrev pub command_in : ℕ → List ℕ → List (List ℕ) → Requested
command_in number line words =
    if is_next (codes "item") words || is_next (codes "window") words then item_requested (order_line number line)
    else if is_next (codes "read") words then rows_requested number (some_each key_in (drop 1 words))
    else if is_next (codes "sum") words then sum_requested number (drop 1 words)
    else if is_next (codes "state") words then alone number State (drop 1 words)
    else if is_next (codes "limits") words then alone number Limits (drop 1 words)
    else if is_next (codes "counters") words then alone number Counters (drop 1 words)
    else if is_next (codes "donate") words then transfer_requested number (drop 1 words)
    else Refused (Malformed number)

abbrev pub command : ℕ → List ℕ → Requested
command number line = command_in number line (words line)

-- What the line with this number asks for, behind the line of the order.
abbrev pub requested : ℕ → List ℕ → Requested
requested number line =
    if begins_with_digit line then numbered line
    else if nat_lt 4096 (length line) then Refused (Malformed number)
    else if is_blank line then Nothing
    else command number line

-- ---- the line of the order

-- a GTID that has a seqno
abbrev pub seqno_or : Gtid → ℤ → Option Gtid
seqno_or g (pos n) = Some g
seqno_or g (negsuc n) = None

abbrev pub with_seqno : Gtid → Option Gtid
with_seqno g = seqno_or g g.seqno

-- the same, and no word behind it
abbrev pub position_in : Result Gtid Refusal → List (List ℕ) → Option Gtid
position_in (Ok g) words = if length words == 0 then with_seqno g else None
position_in (Err refusal) words = None

abbrev pub behind_order : List (List ℕ) → Option Gtid
behind_order [] = None
behind_order (word ∷ words) = position_in (gtid_in word) words

-- the position that the words say: `order` and a GTID that has a seqno
abbrev pub order_in : List (List ℕ) → Option Gtid
order_in words = if is_next (codes "order") words then behind_order (drop 1 words) else None

abbrev pub ordered : ℕ → Option Gtid → Result (Option Gtid) Refusal
ordered number None = Err (Malformed number)
ordered number (Some g) = Ok (Some g)

-- What the line with this number says, which is the first with words or has none: the position behind which the items come.
abbrev pub order_said : ℕ → List ℕ → Result (Option Gtid) Refusal
order_said number line =
    if nat_lt 4096 (length line) then Err (Malformed number)
    else if is_blank line then Ok None
    else ordered number (order_in (words line))
