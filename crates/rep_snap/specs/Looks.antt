-- What a reader's look finds.
use Rattle.std.specs.Prelude.{◌≡◌, ◌⊎◌, ℕ, List, Result, Err}
use mathlib.Core.List.{IsPrefix}
use Rattle.rep_types.specs.declared.key.Key.{Key}
use Rattle.rep_types.specs.declared.refusal.Refusal.{Refusal}
use Rattle.rep_types.specs.declared.refusal.Refusal.TheVariants.{Closed}
use Rattle.rep_snap.specs.declared.change.Pair.{Pair}
use Rattle.rep_snap.specs.declared.peek.Peek.{Peek}
use Rattle.rep_snap.specs.Lists.{published, front_of, oldest_of, Ascends, left, Answers}
use Rattle.rep_snap.specs.Views.{Watching}

module _ {A : Type 0} (allows : A → ℕ → List Pair → Type 0) where
  -- The reader has looked: it saw a history that goes on from what it had seen and was told, and whose list is allowed.
  pub record Looked (v w : Watching A) : Type 0 where
    pub same : w ≡ record v { seen = w.seen }
    pub seen : IsPrefix v.seen w.seen
    pub told : IsPrefix v.told w.seen
    pub ascends : Ascends w.start (published w.seen)
    pub allowed : allows w.basis w.start (published w.seen)

  -- The answer is what the row is at the snapshot of the history that the look saw; or the door was found shut, and the reader is as it was.
  abbrev pub IsPeek : (Watching A → Type 0) → Watching A → Key → ℕ → Watching A → Result Peek Refusal → Type 0
  IsPeek shut v key snapshot w answer = ((answer ≡ Err Closed) × (w ≡ v) × shut v)
      ⊎ (Looked v w × Answers (front_of w.start (published w.seen)) (oldest_of w.start w.seen) (left (oldest_of w.start w.seen) (published w.seen) key) snapshot answer)

  -- The front is that of the history that the look saw; or the door was found shut, and it is that of the history that the reader saw last.
  abbrev pub IsFront : (Watching A → Type 0) → Watching A → Watching A → ℕ → Type 0
  IsFront shut v w front = (front ≡ front_of w.start (published w.seen)) × (((w ≡ v) × shut v) ⊎ Looked v w)
