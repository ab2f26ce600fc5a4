-- What is known of histories, of their lists and of peeks.
use Rattle.std.specs.Prelude.{◌≡◌, ℕ, ◌≤◌, nat_le, ◌==◌, if◌then◌else◌, List, [], ◌∷◌, ◌++◌, map, fold, Option, None, Some, Result}
use mathlib.Core.List.{IsPrefix}
use Rattle.rep_types.specs.declared.key.Key.{Key}
use Rattle.rep_types.specs.declared.refusal.Refusal.{Refusal}
use Rattle.rep_types.specs.Order.{content_after}
use Rattle.rep_versions.specs.Versions.{Version}
use Rattle.rep_versions.specs.Following.{made_by}
use Rattle.rep_snap.specs.declared.change.Pair.{Pair}
use Rattle.rep_snap.specs.declared.change.Change.{Change}
use Rattle.rep_snap.specs.declared.change.Change.TheVariants.{Publish, Prune}
use Rattle.rep_snap.specs.declared.peek.Peek.{Peek}
use Rattle.rep_snap.specs.declared.peek.Peek.TheVariants.{Value, Absent, Cold}
use Rattle.rep_snap.specs.Lists.{published, front_of, oldest_of, oldest_after, Ascends, written, left, IsFound, Answers}

-- A pair that is published comes behind the list, and its seqno is the front, and so do several; a prune leaves the list, and moves the oldest snapshot. What begins a history has a list
-- that begins its list, and no higher front. At its own seqno a pair says what the row is, and elsewhere nothing.
pub record HistoriesGrow : Type 0 where
  pub publish : (changes : List Change) (pair : Pair) → published (changes ++ Publish pair ∷ []) ≡ published changes ++ pair ∷ []
  pub several : (changes : List Change) (pairs : List Pair) → published (changes ++ map Publish pairs) ≡ published changes ++ pairs
  pub prune : (changes : List Change) (c : ℕ) → published (changes ++ Prune c ∷ []) ≡ published changes
  pub front : (start : ℕ) (pairs : List Pair) (pair : Pair) → front_of start (pairs ++ pair ∷ []) ≡ pair.seqno
  pub oldest : (start : ℕ) (changes : List Change) (change : Change) → oldest_of start (changes ++ change ∷ []) ≡ oldest_after (oldest_of start changes) change
  pub stays : (start : ℕ) (changes : List Change) (pairs : List Pair) → oldest_of start (changes ++ map Publish pairs) ≡ oldest_of start changes
  pub beginning : (xs ys : List Change) → IsPrefix xs ys → IsPrefix (published xs) (published ys)
  pub higher : (start : ℕ) (pairs more : List Pair) → Ascends start (pairs ++ more) → front_of start pairs ≤ front_of start (pairs ++ more)
  pub row : (pairs : List Pair) (pair : Pair) (key : Key) (s : ℕ) → written (pairs ++ pair ∷ []) key s ≡ (if pair.seqno == s then made_by pair.writes.items key else written pairs key s)

-- A row is one thing at a snapshot, and a peek has one right answer.
pub record PeeksHaveOneAnswer : Type 0 where
  pub found : (writes : ℕ → Option Version) (snapshot : ℕ) → (peek : Peek) × IsFound writes snapshot peek
  pub row : (writes : ℕ → Option Version) (snapshot : ℕ) (a b : Peek) → IsFound writes snapshot a → IsFound writes snapshot b → a ≡ b
  pub answer : (front oldest : ℕ) (writes : ℕ → Option Version) (snapshot : ℕ) (a b : Result Peek Refusal) → Answers front oldest writes snapshot a → Answers front oldest writes snapshot b → a ≡ b

-- The rows at a snapshot, by a plain fold over the pairs: what those up to there make of the rows, one after another, if the rows are this before the first.
abbrev pub rows_at : (Key → Option (List ℕ)) → List Pair → ℕ → Key → Option (List ℕ)
rows_at content pairs s = fold (λ rows pair. if nat_le pair.seqno s then content_after rows pair.writes.items else rows) content pairs

-- what a peek says of the row, if it is this below all that is left
abbrev pub row_over : Option (List ℕ) → Peek → Option (List ℕ)
row_over below (Value value) = Some value
row_over below Absent = None
row_over below Cold = below

-- What is found of a row at a snapshot is the fold's row there; where it is cold, the row is as it was at the oldest snapshot. Pairs behind a list leave its rows as
-- they are, up to its front.
pub record PeeksFollowTheFold : Type 0 where
  pub row : (content : Key → Option (List ℕ)) (start oldest s : ℕ) (pairs : List Pair) (key : Key) (peek : Peek) → Ascends start pairs → oldest ≤ s
      → IsFound (left oldest pairs key) s peek → rows_at content pairs s key ≡ row_over (rows_at content pairs oldest key) peek
  pub front : (content : Key → Option (List ℕ)) (start s : ℕ) (pairs more : List Pair) → Ascends start (pairs ++ more) → s ≤ front_of start pairs
      → rows_at content (pairs ++ more) s ≡ rows_at content pairs s
