-- What a reader that learnt of a list finds of a row.
use Rattle.std.specs.Prelude.{◌≡◌, ◌⊎◌, ℕ, ◌<◌, List, Option, Result, Ok, Err}
use Rattle.rep_types.specs.declared.key.Key.{Key}
use Rattle.rep_types.specs.declared.refusal.Refusal.{Refusal}
use Rattle.rep_types.specs.declared.refusal.Refusal.TheVariants.{Closed}
use Rattle.rep_snap.specs.declared.change.Pair.{Pair}
use Rattle.rep_snap.specs.declared.peek.Peek.{Peek}
use Rattle.rep_snap.specs.Lists.{oldest_of}
use Rattle.rep_snap.specs.Laws.{rows_at, row_over}
use Rattle.rep_snap.specs.Views.{Watching}

-- It is the row that a plain fold over the pairs has at the snapshot, or, where it is cold, had at the oldest snapshot, whatever the rows were before the first pair.
-- It is refused where the door was found shut, and below the oldest snapshot.
abbrev pub FindsTheRow : {A : Type 0} → (Watching A → Type 0) → List Pair → Key → ℕ → Watching A → Result Peek Refusal → Type 0
FindsTheRow shut pairs key snapshot w (Ok peek) = (content : Key → Option (List ℕ))
    → rows_at content pairs snapshot key ≡ row_over (rows_at content pairs (oldest_of w.start w.seen) key) peek
FindsTheRow shut pairs key snapshot w (Err refusal) = ((refusal ≡ Closed) × shut w) ⊎ (snapshot < oldest_of w.start w.seen)
