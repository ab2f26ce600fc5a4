-- What an order text says, and what judging it writes.
use Rattle.std.specs.Prelude.{◌≡◌, ℕ, ◌+◌, if◌then◌else◌, List, [], ◌∷◌, ◌++◌, length, take, Option, None, Some, IsSomeAnd, Result, Ok, Err}
use Rattle.std.specs.List.{flat_map}
use Rattle.std.specs.Io.KnownBytes.{Appends}
use Rattle.rep_types.specs.declared.item.Item.{Item}
use Rattle.rep_types.specs.declared.judged.Judged.{Judged}
use Rattle.rep_types.specs.declared.refusal.Refusal.{Refusal}
use Rattle.rep_types.specs.declared.refusal.Refusal.TheVariants.{OutOfMemory, Malformed, StreamFault}
use Rattle.rep_types.specs.Settings.{Setting}
use Rattle.rep_types.specs.Order.{Order, history, verdict}
use Rattle.rep_cert.specs.Holdings.{Holding}
use Rattle.rep_cert.specs.Following.{Follows}
use Rattle.rep_record.specs.Words.{is_blank}
use Rattle.rep_record.specs.Lines.{Unread, ahead, raw_lines, without_feed, line_fault}
use Rattle.rep_record.specs.Reading.{order_line, params_line}
use Rattle.rep_record.specs.Texts.{verdict_line}

-- What a text with parameters says: the parameters, what the lines behind them say up to the first fault, and that fault. Of an order
-- text the lines say items.
pub record Reading (A : Type 0) : Type 0 where
  pub setting : Setting
  pub order : List A
  pub fault : Option Refusal

-- A line with its line feed, its number, and the number of bytes before it, as it is read: a fault of any line comes first,
-- and a line without words says nothing.
abbrev pub line_reading : {A : Type 0} → (ℕ → List ℕ → Result A Refusal) → ℕ → ℕ → List ℕ → Option Refusal → Option (Result A Refusal)
line_reading read number before raw (Some fault) = Some (Err fault)
line_reading read number before raw None = if is_blank (without_feed raw) then None else Some (read number (without_feed raw))

abbrev pub read_line : {A : Type 0} → (ℕ → List ℕ → Result A Refusal) → ℕ → ℕ → List ℕ → Option (Result A Refusal)
read_line read number before raw = line_reading read number before raw (line_fault number before raw)

-- what a line and the lines after it say
abbrev pub with_line : {A : Type 0} → Option (Result A Refusal) → List A × Option Refusal → List A × Option Refusal
with_line None later = later
with_line (Some (Ok x)) later = (x ∷ later.0, later.1)
with_line (Some (Err fault)) later = ([], Some fault)

-- What these lines say up to the first fault, each read so, and that fault; the first line has this number, and so many bytes stand
-- before it.
unfoldable pub said_by : {A : Type 0} → (ℕ → List ℕ → Result A Refusal) → ℕ → ℕ → List (List ℕ) → List A × Option Refusal
said_by read number before [] = ([], None)
said_by read number before (raw ∷ lines) = with_line (read_line read number before raw) (said_by read (number + 1) (before + length raw) lines)

-- the items of these lines
abbrev pub items_of : ℕ → ℕ → List (List ℕ) → Order × Option Refusal
items_of number before lines = said_by order_line number before lines

-- what stands where a text has no parameters
abbrev pub no_setting : Setting
no_setting = record { window = 0; cells = 0; rows = [] }

abbrev pub refused : {A : Type 0} → Refusal → Reading A
refused fault = record { setting = no_setting; order = []; fault = Some fault }

-- the parameters of a line, and what the lines after it say
abbrev pub with_params : {A : Type 0} → Option (Result Setting Refusal) → List A × Option Refusal → Reading A → Reading A
with_params None said later = later
with_params (Some (Ok p)) said later = record { setting = p; order = said.0; fault = said.1 }
with_params (Some (Err fault)) said later = refused fault

-- What these lines say: the first with words is a params line, and the others with words are read so. Where none has words,
-- the params line is missing at the number after the last.
unfoldable pub text_of : {A : Type 0} → (ℕ → List ℕ → Result A Refusal) → ℕ → ℕ → List (List ℕ) → Reading A
text_of read number before [] = refused (Malformed number)
text_of read number before (raw ∷ lines) =
    with_params (read_line params_line number before raw) (said_by read (number + 1) (before + length raw) lines) (text_of read (number + 1) (before + length raw) lines)

-- What an order text says.
abbrev pub reading : List ℕ → Reading Item
reading text = text_of order_line 1 0 (raw_lines text)

-- the line of a judged item
abbrev pub line_of : Judged → List ℕ
line_of j = verdict_line j.seqno j.verdict

-- the verdict lines of judged items
abbrev pub verdict_lines : List Judged → List ℕ
verdict_lines h = flat_map line_of h

-- The verdict lines of what a text says, by the definition of a verdict.
abbrev pub judged_text : Reading Item → List ℕ
judged_text r = verdict_lines (history r.setting r.order)

-- How judging a text ended, and what is answered then: at the end of a text without fault, all verdict lines; at want of memory, the
-- lines of some first items, whole; at a stream fault, which may also be the reader's or the writer's, a front of all verdict
-- lines; at any other refusal, which is the text's first fault, all verdict lines of the items before it.
abbrev pub EndsBy : Reading Item → (List ℕ → Type 0) → Result (Unit {0}) Refusal → Type 0
EndsBy r IsAnswered (Ok _) = (r.fault ≡ None) × IsAnswered (judged_text r)
EndsBy r IsAnswered (Err OutOfMemory) = (k : ℕ) × IsAnswered (verdict_lines (take k (history r.setting r.order)))
EndsBy r IsAnswered (Err StreamFault) = (k : ℕ) × IsAnswered (take k (judged_text r))
EndsBy r IsAnswered (Err refusal) = (r.fault ≡ Some refusal) × IsAnswered (judged_text r)

-- how it ended, where all that is answered was written
abbrev pub Ends : Reading Item → Option (List ℕ) → Option (List ℕ) → Result (Unit {0}) Refusal → Type 0
Ends r old new result = EndsBy r (Appends old new) result

-- a reading with these parameters
abbrev pub reading_of : {A : Type 0} → Setting → List A × Option Refusal → Reading A
reading_of p said = record { setting = p; order = said.0; fault = said.1 }

-- what the lines say that a reader of lines still has
abbrev pub said_ahead : {A : Type 0} → (ℕ → List ℕ → Result A Refusal) → Unread → List ℕ → List A × Option Refusal
said_ahead read u text = said_by read (u.number + 1) u.taken (raw_lines text)

-- the items of these lines
abbrev pub items_ahead : Unread → List ℕ → Order × Option Refusal
items_ahead u text = said_ahead order_line u text

-- what the text says that a reader of lines still has
abbrev pub text_ahead : {A : Type 0} → (ℕ → List ℕ → Result A Refusal) → Unread → List ℕ → Reading A
text_ahead read u text = text_of read (u.number + 1) u.taken (raw_lines text)

-- How the params line was read of a text whose other lines are read so: on success what follows it is ahead; a stream fault may also
-- be the reader's.
abbrev pub ReadsParams : {A : Type 0} → (ℕ → List ℕ → Result A Refusal) → List ℕ → Unread → Result Setting Refusal → Unread → Option (List ℕ) → Type 0
ReadsParams read text old (Ok p) new left = IsSomeAnd (ahead new left) (λ rest. text_ahead read old text ≡ reading_of p (said_ahead read new rest))
ReadsParams read text old (Err StreamFault) new left = Unit {0}
ReadsParams read text old (Err refusal) new left = text_ahead read old text ≡ refused refusal

-- what a line without its line feed says
abbrev pub content : {A : Type 0} → (ℕ → List ℕ → Result A Refusal) → ℕ → List ℕ → Option (Result A Refusal)
content read number line = if is_blank line then None else Some (read number line)

-- The parameters, and the items that were judged so far.
pub record Delivered : Type 0 where
  pub setting : Setting
  pub order : Order

-- the line that is written for the next item
abbrev pub next_verdict_line : Delivered → Item → List ℕ
next_verdict_line node i = verdict_line (length node.order + 1) (verdict node.setting (node.order ++ i ∷ []) (length node.order + 1))

-- What judging one line does to the items that were judged so far and to what is written.
abbrev pub JudgesLine : Delivered → Option (Result Item Refusal) → Result (Unit {0}) Refusal → Delivered → Option (List ℕ) → Option (List ℕ) → Type 0
JudgesLine old None result new before after = (result ≡ Ok tt) × (new ≡ old) × Appends before after []
JudgesLine old (Some (Err refusal)) result new before after = (result ≡ Err refusal) × Appends before after []
JudgesLine old (Some (Ok i)) (Ok _) new before after = (new ≡ record old { order = old.order ++ i ∷ [] }) × Appends before after (next_verdict_line old i)
JudgesLine old (Some (Ok i)) (Err StreamFault) new before after = (k : ℕ) × Appends before after (take k (next_verdict_line old i))
JudgesLine old (Some (Ok i)) (Err refusal) new before after = ⊥

-- What judging one line does to a certifier that follows the items that were judged so far, and to what is written.
abbrev pub JudgesNext : Holding → Order → Option (Result Item Refusal) → Result (Unit {0}) Refusal → Holding → Option (List ℕ) → Option (List ℕ) → Type 0
JudgesNext old L c result new before after =
    (M : Order) × Follows new M × JudgesLine (record { setting = old.setting; order = L }) c result (record { setting = new.setting; order = M }) before after
