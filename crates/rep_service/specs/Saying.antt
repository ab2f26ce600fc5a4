-- What a node that follows an order writes, line by line.
use Rattle.std.specs.Prelude.{◌≡◌, ◌≢◌, ℕ, List, [], ◌∷◌, map, take, Option, Result, Ok, Err}
use Rattle.std.specs.List.{flat_map}
use Rattle.std.specs.Io.KnownBytes.{Appends}
use Rattle.rep_types.specs.declared.judged.Judged.{Judged}
use Rattle.rep_types.specs.declared.reply.Reply.{Reply}
use Rattle.rep_types.specs.declared.refusal.Refusal.{Refusal}
use Rattle.rep_types.specs.declared.refusal.Refusal.TheVariants.{StreamFault}
use Rattle.rep_types.specs.Entries.{Entry}
use Rattle.rep_types.specs.Gtids.{Gtid}
use Rattle.rep_types.specs.Replies.{reply_of}
use Rattle.rep_types.specs.Windows.{Window}
use Rattle.rep_sum.specs.declared.sum.Sum.{Sum as SumOf}
use Rattle.rep_sum.specs.Sums.{RowRead}
use Rattle.rep_script.specs.Answering.{limits_line, state_line}
use Rattle.rep_script.specs.CatchingUp.{donated_line}
use Rattle.rep_script.specs.Refusing.{refused_line}
use Rattle.rep_script.specs.Summing.{sum_line}
use Rattle.rep_follow.specs.declared.counts.Counts.{Counts}
use Rattle.rep_follow.specs.Receipts.{receipt_line}
use Rattle.rep_service.specs.declared.counters.Level.{Level}
use Rattle.rep_service.specs.Lines.{rows_line, counters_line, old_line}

-- What a line says: the receipt of an item that became durable; that of an item as the log has it; that an item is at or below the base; rows at one
-- position; a sum, at a position where one was asked for; the state; the limits of the window; what is counted; that a transfer was written; or why something is refused.
pub data Said : Type 0 where
  Receipt : (reply : Reply) → Said
  Logged : (judged : Judged) → Said
  Old : (seqno : ℕ) → Said
  Rows : (at : ℕ) (rows : List RowRead) → Said
  Summed : (asked : Option ℕ) (sum : SumOf) → Said
  State : (gtid : Gtid) (base : ℕ) (window : List Entry) → Said
  Limits : (window : Window) → Said
  Counters : (level : Level) (counts : Counts) → Said
  Donated : (last : ℕ) → Said
  Refused : (refusal : Refusal) → Said

abbrev pub line_of : Said → List ℕ
line_of (Receipt r) = receipt_line r
line_of (Logged j) = receipt_line (reply_of j)
line_of (Old seqno) = old_line seqno
line_of (Rows at rows) = rows_line at rows
line_of (Summed asked sum) = sum_line sum
line_of (State gtid base window) = state_line gtid base window
line_of (Limits window) = limits_line window
line_of (Counters level counts) = counters_line level counts
line_of (Donated last) = donated_line last
line_of (Refused e) = refused_line e

abbrev pub lines_of : List Said → List ℕ
lines_of said = flat_map line_of said

-- What was written: these lines; where the writer failed, a front of them.
abbrev pub Writes : List Said → Option (List ℕ) → Option (List ℕ) → Result (Unit {0}) Refusal → Type 0
Writes said before after (Ok x) = Appends before after (lines_of said)
Writes said before after (Err e) = (k : ℕ) × Appends before after (take k (lines_of said)) × (e ≢ StreamFault → take k (lines_of said) ≡ lines_of said)

-- ---- of which kind a line is

abbrev pub receipt_in : Said → List Reply
receipt_in (Receipt r) = r ∷ []
receipt_in said = []

-- the receipts of items that became durable
abbrev pub receipts_in : List Said → List Reply
receipts_in said = flat_map receipt_in said

abbrev pub passed_at : Said → List Said
passed_at (Logged j) = Logged j ∷ []
passed_at (Old seqno) = Old seqno ∷ []
passed_at said = []

-- what is said of items that were durable already
abbrev pub passed_in : List Said → List Said
passed_in said = flat_map passed_at said

abbrev pub answer_at : Said → List Said
answer_at (Receipt r) = []
answer_at (Logged j) = []
answer_at (Old seqno) = []
answer_at said = said ∷ []

-- what is said of no item
abbrev pub answers_in : List Said → List Said
answers_in said = flat_map answer_at said

-- receipts, one after another
abbrev pub receipts_said : List Reply → List Said
receipts_said receipts = map Receipt receipts
