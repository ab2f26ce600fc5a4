-- What a seat of a node has done.
use Rattle.std.specs.Prelude.{◌≡◌, Bool, false, ℕ, ◌+◌, ◌<◌, ◌≤◌, ◌⊎◌, [], ◌∷◌, ◌++◌, length}
use Rattle.rep_types.specs.declared.item.Item.{Item}
use Rattle.rep_types.specs.declared.judged.Judged.{Judged}
use Rattle.rep_types.specs.declared.verdict.Verdict.{Verdict}
use Rattle.rep_types.specs.declared.limits.TheConstants.{MAX_SEQNO}
use Rattle.rep_disk.specs.declared.disk.Disk.{Ghosts}
use Rattle.rep_ordered.specs.declared.view.Joined.{Joined}
use Rattle.rep_ordered.specs.declared.view.View.{View}
use Rattle.rep_ordered.specs.Counts.{times}
use Rattle.rep_ordered.specs.Views.{OwnEntry, Sees}
use Rattle.rep_ordered.specs.Going.{AllPassed, Went}
use Rattle.rep_node.specs.declared.home.Home.{Home}
use Rattle.rep_node.specs.Homes.{Start, Begins, IsLegal, position_of, values_of}

-- A seat of a node that was started with these values: the seqnos begin behind its position, and end at the last one, and it drew none
-- twice.
pub record IsSeat {D : Type 0} (g : Ghosts D) (v : View (Home D) Judged) : Type 0 where
  pub start : Start D
  pub first : v.first ≡ values_of start
  pub begins : Begins g start
  pub number : v.start ≡ position_of start + 1
  pub whole : v.start + v.whole ≡ MAX_SEQNO + 1
  pub once : (x : ℕ) → times x v.own ≤ 1

-- A seat went on, and drew this one number.
pub record DrewOne {D : Type 0} (g : Ghosts D) (number : ℕ) (v w : View (Home D) Judged) : Type 0 where
  pub went : Went v w
  pub own : w.own ≡ v.own ++ number ∷ []
  pub seat : IsSeat g w

-- an entry of the seat's own
abbrev pub own_entry : Judged → Joined Judged
own_entry j = record { number = j.seqno; entry = j }

module _ {D : Type 0} where
  -- what the seat then sees is legal behind what the node was started with
  abbrev pub SeesLegal : View (Home D) Judged → View (Home D) Judged → Type 0
  SeesLegal v w = Sees (IsLegal v.first) w

  -- the seat went on, sees a legal history, and neither drew a number nor let anything join the history
  abbrev pub WentIdle : View (Home D) Judged → View (Home D) Judged → Type 0
  WentIdle v w = Went v w × (w.own ≡ v.own) × (w.joined ≡ v.joined) × SeesLegal v w

  -- the seat gave nothing up, unless it keeps
  abbrev pub KeptBy : Bool → View (Home D) Judged → View (Home D) Judged → Type 0
  KeptBy keeps v w = keeps ≡ false → w.given_up ≡ v.given_up

  -- the seat drew this number
  abbrev pub Drew : ℕ → View (Home D) Judged → Type 0
  Drew n v = 0 < times n v.own

  -- Each number that the seat drew has passed the last station that tickets pass, unless the seat knows of a halt.
  abbrev pub PassedOrStopped : View (Home D) Judged → Type 0
  PassedOrStopped v = v.halted ≡ 0 → AllPassed 2 v

  -- the seat let nothing join the history, or this item alone, at a number that the history had not come to
  abbrev pub Joins : Item → View (Home D) Judged → View (Home D) Judged → Type 0
  Joins item v w = (w.joined ≡ v.joined) ⊎ (j : Judged) × (j.item ≡ item) × (v.start + length v.seen ≤ j.seqno) × (w.joined ≡ own_entry j ∷ v.joined)

  -- The item was given this seqno and this verdict: it joined the history there, above all that the seat had seen, and is durable.
  pub record IsGiven (item : Item) (seqno : ℕ) (verdict : Verdict) (v w : View (Home D) Judged) : Type 0 where
    pub joined : w.joined ≡ own_entry (record { seqno = seqno; item = item; verdict = verdict }) ∷ v.joined
    pub stands : OwnEntry w.start w.seen w.own (own_entry (record { seqno = seqno; item = item; verdict = verdict }))
    pub later : v.start + length v.seen ≤ seqno
    pub durable : seqno ≤ w.durable

-- A seat between two calls, whose owner may draw so many seqnos more: it holds no station and sees a legal history, and each seqno that it
-- drew has passed, unless it knows of a halt. Then it may draw fewer than it might.
pub record Rests {D : Type 0} (g : Ghosts D) (v : View (Home D) Judged) (allowance : ℕ) : Type 0 where
  pub seat : IsSeat g v
  pub free : v.held ≡ []
  pub less : allowance ≤ v.allowance
  pub left : v.halted ≡ 0 → allowance ≡ v.allowance
  pub sees : SeesLegal v v
  pub passed : PassedOrStopped v
