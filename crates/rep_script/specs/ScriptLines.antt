-- What a line of a script asks for: functions of its words, each None where there is nothing of the form.
use Rattle.std.specs.Prelude.{ℕ, ◌^◌, ◌==◌, if◌then◌else◌, List, length, drop, codes, Option, None, Some, Result, Ok, Err}
use Rattle.rep_types.specs.declared.item.Item.{Item}
use Rattle.rep_types.specs.declared.refusal.Refusal.{Refusal}
use Rattle.rep_types.specs.declared.refusal.Refusal.TheVariants.{Malformed}
use Rattle.rep_forms.specs.Options.{◌>>=◌}
use Rattle.rep_record.specs.Words.{words}
use Rattle.rep_record.specs.Reading.{number_in, given, key_in, is_next, next, item_in, outcome, order_outcome}
use Rattle.rep_disk.specs.declared.memory.Loss.{Loss}
use Rattle.rep_disk.specs.declared.memory.Loss.TheVariants.{Keep, Drop, Junk}
use Rattle.rep_steps.specs.declared.event.Event.TheVariants.{Log, Sync, Check, Flush, Read}
use Rattle.rep_steps.specs.Events.{delivery}
use Rattle.rep_script.specs.declared.script_line.Command.{Command}
use Rattle.rep_script.specs.declared.script_line.Command.TheVariants.{Step, State, Limits, Sum, Stop}

-- what a stop loses, and the words after it
unfoldable pub loss_in : List (List ℕ) → Option (Loss × List (List ℕ))
loss_in words =
    if is_next (codes "keep") words then Some (Keep, drop 1 words)
    else if is_next (codes "drop") words then Some (Drop, drop 1 words)
    else if is_next (codes "junk") words then Some (Junk, drop 1 words)
    else None

-- a flush of the page with this number, and the words after it
unfoldable pub flush_in : List (List ℕ) → Option (Command × List (List ℕ))
flush_in words = next (number_in (2 ^ 64)) words >>= λ x. Some (Step (Flush x.0), x.1)

-- a read of a key after so many items, and the words after it
unfoldable pub read_in : List (List ℕ) → Option (Command × List (List ℕ))
read_in words = next key_in words >>= λ x. next (number_in (2 ^ 64)) x.1 >>= λ y. Some (Step (Read x.0 y.0), y.1)

-- a sum at a position, or where no word is left at what is durable, and the words after it
unfoldable pub sum_in : List (List ℕ) → Option (Command × List (List ℕ))
sum_in words = if length words == 0 then Some (Sum None, words) else next (number_in (2 ^ 64)) words >>= λ x. Some (Sum (Some x.0), x.1)

-- a stop with its loss, and the words after it
unfoldable pub stop_in : List (List ℕ) → Option (Command × List (List ℕ))
stop_in words = loss_in words >>= λ x. Some (Stop x.0, x.1)

-- a command other than a delivery, and the words after it
unfoldable pub plain_in : List (List ℕ) → Option (Command × List (List ℕ))
plain_in words =
    if is_next (codes "log") words then Some (Step Log, drop 1 words)
    else if is_next (codes "sync") words then Some (Step Sync, drop 1 words)
    else if is_next (codes "check") words then Some (Step Check, drop 1 words)
    else if is_next (codes "state") words then Some (State, drop 1 words)
    else if is_next (codes "limits") words then Some (Limits, drop 1 words)
    else if is_next (codes "flush") words then flush_in (drop 1 words)
    else if is_next (codes "read") words then read_in (drop 1 words)
    else if is_next (codes "sum") words then sum_in (drop 1 words)
    else if is_next (codes "stop") words then stop_in (drop 1 words)
    else None

-- such a command that is the whole line
unfoldable pub whole_in : List (List ℕ) → Option Command
whole_in words = plain_in words >>= λ x. given (length x.1 == 0) x.0

-- the delivery of an item under this seqno
abbrev pub delivered : ℕ → Result Item Refusal → Result Command Refusal
delivered seqno (Ok i) = Ok (Step (delivery seqno i))
delivered seqno (Err refusal) = Err refusal

-- a delivery by its seqno and the words that say its item
abbrev pub delivery_of : ℕ → Option (ℕ × List (List ℕ)) → Result Command Refusal
delivery_of number None = Err (Malformed number)
delivery_of number (Some x) = delivered x.0 (order_outcome number (item_in x.1))

-- What comes of a script's line with this number: `deliver seqno tail`, `deliver seqno window size [id source:trx]`, `log`, `sync`, `check`,
-- `flush p`, `read key s`, `sum [s]`, `state`, `limits`, `stop keep`, `stop drop` or `stop junk`.
abbrev pub script_line : ℕ → List ℕ → Result Command Refusal
script_line number line =
    if is_next (codes "deliver") (words line) then delivery_of number (next (number_in (2 ^ 64)) (drop 1 (words line)))
    else outcome Ok number (whole_in (words line))
