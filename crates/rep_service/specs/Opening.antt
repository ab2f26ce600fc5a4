-- The first line of a text that a node follows, and where the node begins.
use Rattle.std.specs.Prelude.{◌≡◌, ◌≢◌, ◌⊎◌, ℕ, ◌+◌, ◌<◌, ◌≤◌, ℤ, pos, negsuc, List, [], ◌∷◌, ◌++◌, length, take, codes, Option, None, Some, Result, Ok, Err, MatchResult}
use Rattle.std.specs.List.{AllByRecursion}
use Rattle.std.specs.Fmt.{decimal}
use Rattle.std.specs.Io.KnownBytes.{Appends, Consumes, IsAtEnd}
use Rattle.rep_types.specs.declared.refusal.Refusal.{Refusal}
use Rattle.rep_types.specs.declared.refusal.Refusal.TheVariants.{Malformed, Undefined, WrongCluster, OutOfOrder, StreamFault, Exhausted}
use Rattle.rep_types.specs.Gtids.{Gtid, gtid_text}
use Rattle.rep_lines.specs.Lines.{HasNoFeed}
use Rattle.rep_requests.specs.Requests.{order_said}
use Rattle.rep_layout.specs.Supers.{IsNil}
use Rattle.rep_steps.specs.Standings.{Standing}
use Rattle.rep_follow.specs.Taking.{text_of}
use Rattle.rep_service.specs.Inputs.{counted}

-- ---- the first line with words

-- The line has no words, whatever its number is.
abbrev pub HasNoWords : List ℕ → Type 0
HasNoWords line = (number : ℕ) → order_said number line ≡ Ok None

-- The line behind these says this, as the first with words.
pub record IsFirst (number : ℕ) (before : List (List ℕ)) (text behind : Option (List ℕ)) (said : Result (Option Gtid) Refusal) : Type 0 where
  pub line : List ℕ
  pub says : order_said (counted number 1) line ≡ said
  pub handed : Consumes text behind (text_of (before ++ line ∷ []))

-- There is none behind these: the text has ended.
pub record HasNoFirst (before : List (List ℕ)) (left : List ℕ) (rest text behind : Option (List ℕ)) : Type 0 where
  pub whole : HasNoFeed left
  pub ended : IsAtEnd rest
  pub handed : Consumes text behind (text_of before)

-- What the first line with words says, behind so many without: a position; or it is another line, which is malformed at its number, as is a text
-- without such a line, at one more than its lines.
abbrev pub SaysFirst : ℕ → List (List ℕ) → List ℕ → Option (List ℕ) → Option (List ℕ) → Option (List ℕ) → Result Gtid Refusal → Type 0
SaysFirst number before left rest text behind (Ok g) = IsFirst number before text behind (Ok (Some g))
SaysFirst number before left rest text behind (Err StreamFault) = Unit {0}
SaysFirst number before left rest text behind (Err Exhausted) = Unit {0}
SaysFirst number before left rest text behind (Err e) =
    IsFirst number before text behind (Err e) ⊎ (HasNoFirst before left rest text behind × (e ≡ Malformed (counted number 1)))

-- So it is with a text of which so many lines were handed out before.
pub record FindsFirst (number : ℕ) (left : List ℕ) (rest text behind : Option (List ℕ)) (result : Result Gtid Refusal) : Type 0 where
  pub before : List (List ℕ)
  pub are : AllByRecursion HasNoWords before
  pub says : SaysFirst (counted number (length before)) before left rest text behind result

-- ---- where the node begins

-- the seqno as a position
abbrev pub position_in : ℤ → ℕ
position_in (pos n) = n
position_in (negsuc n) = 0

-- Where a node begins in the order of this position, or the first reason why it doesn't: it is of no cluster; the order is another cluster's; the
-- position is above what is durable; else it begins there.
pub record BeginsBy (s : Standing) (g : Gtid) (result : Result ℕ Refusal) : Type 0 where
  pub undefined : IsNil s.uuid → result ≡ Err Undefined
  pub another : (IsNil s.uuid → ⊥) → g.uuid ≢ s.uuid → result ≡ Err WrongCluster
  pub above : (IsNil s.uuid → ⊥) → g.uuid ≡ s.uuid → s.durable < position_in g.seqno → result ≡ Err (OutOfOrder (s.durable + 1))
  pub there : (IsNil s.uuid → ⊥) → g.uuid ≡ s.uuid → position_in g.seqno ≤ s.durable → result ≡ Ok (position_in g.seqno)

-- the line of a node at its opening
abbrev pub at_line : Gtid → ℕ → List ℕ
at_line gtid base = codes "at " ++ (gtid_text gtid ++ (codes " base " ++ (decimal base ++ codes "\n")))

-- What comes of the first line, which says this: the line that tells where the node stands is written, unless the writer fails; or the line is refused,
-- or the order is, and nothing is written.
abbrev pub Tells : List ℕ → Result ℕ Refusal → Option (List ℕ) → Option (List ℕ) → Result ℕ Refusal → Type 0
Tells line (Err e) before after result = (result ≡ Err e) × (after ≡ before)
Tells line (Ok position) before after result = MatchResult result (λ at. (at ≡ position) × Appends before after line) (λ e. (e ≡ StreamFault) × ((k : ℕ) × Appends before after (take k line)))

abbrev pub Begins : Standing → List ℕ → Result Gtid Refusal → Option (List ℕ) → Option (List ℕ) → Result ℕ Refusal → Type 0
Begins s line (Err e) before after result = (result ≡ Err e) × (after ≡ before)
Begins s line (Ok g) before after result = (begun : Result ℕ Refusal) × BeginsBy s g begun × Tells line begun before after result

pub record OpensOrder (s : Standing) (line : List ℕ) (number : ℕ) (left : List ℕ) (rest text behind before after : Option (List ℕ)) (result : Result ℕ Refusal) : Type 0 where
  pub said : Result Gtid Refusal
  pub finds : FindsFirst number left rest text behind said
  pub begins : Begins s line said before after result
