-- What is kept of a line while it is read: of each list one element more than the limit, so that too many show.
use Rattle.std.specs.Prelude.{◌≡◌, ℕ, Bool, nat_lt, if◌then◌else◌, List, length, map, take, Option, None, Some, Result, Err}
use Rattle.std.specs.List.{list_any}
use Rattle.rep_types.specs.declared.key.Key.{Key}
use Rattle.rep_types.specs.declared.value.Write.{Write}
use Rattle.rep_types.specs.declared.refusal.Refusal.{Refusal}
use Rattle.rep_types.specs.declared.refusal.Refusal.TheVariants.{TooManyReads, TooManyWrites, ValueTooLong}
use Rattle.rep_types.specs.Transactions.{Transaction, misplaced}
use Rattle.rep_types.specs.Settings.{Setting, setting}
use Rattle.rep_record.specs.Reading.{is_long, well_placed}

-- a write without its value where that is too long
abbrev pub short_write : Write → Write
short_write write = if is_long write then record { key = write.key; value = None } else write

-- and whether it is
abbrev pub drafted_write : Write → Write × Bool
drafted_write write = (short_write write, is_long write)

-- what is kept of some writes
abbrev pub drafted_writes : List Write → List Write × Bool
drafted_writes writes = (take 17 (map short_write writes), list_any is_long writes)

-- what is kept of some reads, with the words after them
abbrev pub drafted_reads : List Key × List (List ℕ) → List Key × List (List ℕ)
drafted_reads reads = (take 17 reads.0, reads.1)

-- what is kept of a write set, and whether one of its values is too long
abbrev pub drafted : Transaction → Transaction × Bool
drafted w = (record w { reads = take 17 w.reads; writes = take 17 (map short_write w.writes) }, list_any is_long w.writes)

-- The write set that is kept, or the first limit that it passes, in the line with this number.
abbrev pub limited_draft : ℕ → Transaction × Bool → Result Transaction Refusal
limited_draft number draft =
    if nat_lt 16 (length draft.0.reads) then Err TooManyReads
    else if nat_lt 16 (length draft.0.writes) then Err TooManyWrites
    else if draft.1 then Err ValueTooLong
    else well_placed number draft.0 (misplaced draft.0.reads draft.0.writes)

-- what is kept of a node's parameters
abbrev pub drafted_setting : Setting → Setting
drafted_setting p = setting p.window p.cells (take 9 p.rows)

-- What a function returned, seen by view, with the words that it left, is what reading gives.
abbrev pub Gives : {X Y : Type 0} → (X → Y) → Option X → List (List ℕ) → Option (Y × List (List ℕ)) → Type 0
Gives view None rest read = read ≡ None
Gives view (Some x) rest read = read ≡ Some (view x, rest)
