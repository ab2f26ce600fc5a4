-- Published lists, and what a row is at a snapshot of one.
use Rattle.std.specs.Prelude.{◌≡◌, ℕ, ◌<◌, ◌≤◌, nat_lt, nat_le, ◌==◌, max, if◌then◌else◌, List, [], ◌∷◌, fold, Option, None, Some, Result, MatchResult}
use Rattle.rep_types.specs.declared.key.Key.{Key}
use Rattle.rep_types.specs.declared.value.Write.{Write}
use Rattle.rep_types.specs.declared.refusal.Refusal.{Refusal}
use Rattle.rep_types.specs.declared.refusal.Refusal.TheVariants.{NotYet, TooOld}
use Rattle.rep_types.specs.Order.{latest}
use Rattle.rep_versions.specs.Versions.{Version}
use Rattle.rep_versions.specs.Following.{made_by}
use Rattle.rep_snap.specs.declared.change.Pair.{Pair}
use Rattle.rep_snap.specs.declared.change.Change.{Change}
use Rattle.rep_snap.specs.declared.change.Change.TheVariants.{Publish, Prune}
use Rattle.rep_snap.specs.declared.peek.Peek.{Peek}
use Rattle.rep_snap.specs.declared.peek.Peek.TheVariants.{Value, Absent, Cold}

-- what was written at a seqno
abbrev pub pair_of : ℕ → List Write → Pair
pair_of seqno writes = record { seqno = seqno; writes = record { items = writes } }

-- The published list: the pairs of what a publisher did, in order (after the write sets that a replica applies in the order of their seqnos).
abbrev pub published : List Change → List Pair
published [] = []
published (Publish pair ∷ changes) = pair ∷ published changes
published (Prune c ∷ changes) = published changes

-- its front: the last seqno, or the start position
abbrev pub front_of : ℕ → List Pair → ℕ
front_of start pairs = fold (λ _ pair. pair.seqno) start pairs

-- the seqnos ascend, from above this one on
abbrev pub Ascends : ℕ → List Pair → Type 0
Ascends below [] = Unit {0}
Ascends below (pair ∷ pairs) = (below < pair.seqno) × Ascends pair.seqno pairs

abbrev pub oldest_after : ℕ → Change → ℕ
oldest_after oldest (Publish pair) = oldest
oldest_after oldest (Prune c) = max oldest c

-- The oldest snapshot: the greatest of the start position and the positions that were pruned to.
abbrev pub oldest_of : ℕ → List Change → ℕ
oldest_of start changes = fold oldest_after start changes

abbrev pub written_by : Key → Option Pair → Option Version
written_by key None = None
written_by key (Some pair) = made_by pair.writes.items key

-- The change may come next: the seqno of a pair is above the front.
abbrev pub Follows : ℕ → List Change → Change → Type 0
Follows start changes (Publish pair) = front_of start (published changes) < pair.seqno
Follows start changes (Prune c) = Unit {0}

-- what the pair of a seqno made of the row, if it wrote it
abbrev pub written : List Pair → Key → ℕ → Option Version
written pairs key s = written_by key (latest (λ (pair : Pair). pair.seqno == s) pairs)

-- the same of the pairs above the oldest snapshot, which are left after a prune
abbrev pub left : ℕ → List Pair → Key → ℕ → Option Version
left oldest pairs key s = if nat_le s oldest then None else written pairs key s

-- of the writes of a row, by seqno, the newest at most at the snapshot is the one at the seqno m
pub record IsNewestWrite (writes : ℕ → Option Version) (snapshot m : ℕ) (version : Version) : Type 0 where
  pub stands : writes m ≡ Some version
  pub within : m ≤ snapshot
  pub none_above : (n : ℕ) → m < n → n ≤ snapshot → writes n ≡ None

-- What a row with these writes is at the snapshot: what the newest write up to there made it, and Cold exactly where there is none.
abbrev pub IsFound : (ℕ → Option Version) → ℕ → Peek → Type 0
IsFound writes snapshot (Value value) = (m : ℕ) × IsNewestWrite writes snapshot m (Some value)
IsFound writes snapshot Absent = (m : ℕ) × IsNewestWrite writes snapshot m None
IsFound writes snapshot Cold = (m : ℕ) → m ≤ snapshot → writes m ≡ None

-- the refusal of a snapshot, where it is above the front or below the oldest one
abbrev pub refused : ℕ → ℕ → ℕ → Option Refusal
refused front oldest snapshot = if nat_lt front snapshot then Some (NotYet front) else if nat_lt snapshot oldest then Some (TooOld oldest) else None

-- the answer is the refusal where there is one, and else what the row is
abbrev pub Answers : ℕ → ℕ → (ℕ → Option Version) → ℕ → Result Peek Refusal → Type 0
Answers front oldest writes snapshot answer = MatchResult answer (λ peek. (refused front oldest snapshot ≡ None) × IsFound writes snapshot peek) (λ refusal. refused front oldest snapshot ≡ Some refusal)
