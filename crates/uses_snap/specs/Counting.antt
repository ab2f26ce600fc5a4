-- A list that is a plain fold: the seqnos from 1 on, where each puts its own number into one row.
use Rattle.std.specs.Prelude.{◌≡◌, ◌⊎◌, ℕ, zero, suc, ◌%◌, ◌<◌, List, [], ◌∷◌, ◌++◌, Some, Result, Ok, Err}
use Rattle.rep_types.specs.declared.key.Key.{Key}
use Rattle.rep_types.specs.declared.refusal.Refusal.{Refusal}
use Rattle.rep_types.specs.declared.refusal.Refusal.TheVariants.{Closed}
use Rattle.rep_snap.specs.declared.change.Pair.{Pair}
use Rattle.rep_snap.specs.declared.peek.Peek.{Peek}
use Rattle.rep_snap.specs.declared.peek.Peek.TheVariants.{Value}
use Rattle.rep_snap.specs.Lists.{oldest_of}
use Rattle.rep_snap.specs.Views.{Watching}

abbrev pub the_row : Key
the_row = record { table = 0; row = 1 }

-- what the seqno puts
abbrev pub number_at : ℕ → List ℕ
number_at n = n % 256 ∷ []

abbrev pub pair_at : ℕ → Pair
pair_at n = record { seqno = n; writes = record { items = record { key = the_row; value = Some (number_at n) } ∷ [] } }

abbrev pub counted : ℕ → List Pair
counted zero = []
counted (suc n) = counted n ++ pair_at (suc n) ∷ []

-- Above the oldest snapshot a peek of the row finds what its own seqno put. It is refused where the door was found shut, and below the oldest snapshot.
abbrev pub FindsTheNumber : {A : Type 0} → (Watching A → Type 0) → Watching A → ℕ → Result Peek Refusal → Type 0
FindsTheNumber shut w snapshot (Ok peek) = oldest_of w.start w.seen < snapshot → peek ≡ Value (number_at snapshot)
FindsTheNumber shut w snapshot (Err refusal) = ((refusal ≡ Closed) × shut w) ⊎ (snapshot < oldest_of w.start w.seen)
