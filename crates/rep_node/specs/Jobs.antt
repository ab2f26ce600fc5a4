-- A batch in parts: what each worker is given, and what came of it.
use Rattle.std.specs.Prelude.{◌≡◌, Bool, false, ℕ, ◌+◌, ◌-◌, ◌<◌, ◌≤◌, ◌⊎◌, Option, Some, None, IfSome, List, [], ◌∷◌, ◌++◌, length, map, slice_get, vec_capacity}
use Rattle.atomic_table.specs.Seated.{TableId}
use Rattle.rep_types.specs.declared.item.Item.{Item}
use Rattle.rep_types.specs.declared.judged.Judged.{Judged}
use Rattle.rep_types.specs.declared.refusal.Refusal.{Refusal}
use Rattle.rep_types.specs.declared.refusal.Refusal.TheVariants.{Stopped}
use Rattle.rep_disk.specs.declared.disk.Disk.{Ghosts}
use Rattle.rep_ordered.specs.declared.view.Joined.{Joined}
use Rattle.rep_ordered.specs.declared.view.View.{View}
use Rattle.rep_ordered.specs.Counts.{times}
use Rattle.rep_ordered.specs.Views.{Every, given}
use Rattle.rep_ordered.specs.Seats.{seat_of}
use Rattle.rep_ordered.specs.Going.{Went}
use Rattle.rep_node.specs.declared.home.Home.{Home}
use Rattle.rep_node.specs.declared.batch.Receipt.{Receipt}
use Rattle.rep_node.specs.declared.batch.Share.{Share}
use Rattle.rep_node.specs.declared.batch.Job.{Job}
use Rattle.rep_node.specs.declared.pace.Point.{Point}
use Rattle.rep_node.specs.Seats.{IsSeat, KeptBy, PassedOrStopped, SeesLegal, own_entry}
use Rattle.rep_node.specs.Batches.{AreLetOn, ComeFrom, entry_of, index_of, seqno_of}

-- it is one of these
abbrev pub Among : {A : Type 0} → A → List A → Type 0
Among x [] = ⊥
Among x (y ∷ ys) = (y ≡ x) ⊎ Among x ys

-- Each begins where the one before it ended, the first at this place, and the last ends at that one.
abbrev pub Adjoin : {A : Type 0} → (A → ℕ) → (A → ℕ) → (A → Type 0) → ℕ → ℕ → List A → Type 0
Adjoin begin end P a c [] = a ≡ c
Adjoin begin end P a c (x ∷ xs) = (begin x ≡ a) × P x × Adjoin begin end P (end x) c xs

-- The receipt is of the item at its place: at its seqno an entry with that item and its verdict joined, not below `low`, and it is durable.
pub record IsNoted (items : List Item) (low upto : ℕ) (joined : List (Joined Judged)) (r : Receipt) : Type 0 where
  pub item : Item
  pub at : slice_get items r.index ≡ Some item
  pub among : Among (own_entry (entry_of item r)) joined
  pub later : low ≤ r.seqno
  pub durable : r.seqno ≤ upto

-- What came of the places from this one on and below that one: the seqnos that were drawn for them, the entries that joined, and the
-- receipts, each of another place and with another of these seqnos.
pub record IsPart (items : List Item) (from to low upto : ℕ) (drawn : List ℕ) (joined : List (Joined Judged)) (receipts : List Receipt) : Type 0 where
  pub few : from + length drawn ≤ to
  pub most : length receipts ≤ length drawn
  pub noted : Every (IsNoted items low upto joined) receipts
  pub seqnos : (x : ℕ) → times x (map seqno_of receipts) ≤ times x drawn
  pub places : (i : ℕ) → times i (map index_of receipts) ≤ 1
  pub within : Every (λ (r : Receipt). (from ≤ r.index) × (r.index < to)) receipts
  pub come : ComeFrom items from to joined

-- each of these places has its receipt, and no seqno was drawn but those of the receipts
pub record IsAll (from to : ℕ) (numbers : List ℕ) (receipts : List Receipt) : Type 0 where
  pub count : from + length receipts ≡ to
  pub drawn : length numbers ≡ length receipts

abbrev pub share_from : Share → ℕ
share_from s = s.from

abbrev pub share_to : Share → ℕ
share_to s = s.to

-- a share of so many places, which has room for its receipts
pub record IsShare (count : ℕ) (s : Share) : Type 0 where
  pub range : (s.from < s.to) × (s.to ≤ count)
  pub room : (s.receipts.items ≡ []) × (s.to ≤ s.from + vec_capacity s.receipts)

-- these shares cover so many places, the last places first
abbrev pub AreShares : ℕ → List Share → Type 0
AreShares count shares = Adjoin share_to share_from (IsShare count) count 0 shares

module _ {D : Type 0} where
  abbrev pub job_from : Job D → ℕ
  job_from j = j.from

  abbrev pub job_to : Job D → ℕ
  job_to j = j.to

  -- A worker's job, before it works: its seat was split off one with this view, for as many items.
  pub record IsJob (table : TableId) (v : View (Home D) Judged) (count : ℕ) (j : Job D) : Type 0 where
    pub seat : j.seat ≡ seat_of table (given (j.to - j.from) v)
    pub range : (j.from < j.to) × (j.to ≤ count)
    pub room : (j.receipts.items ≡ []) × (j.to ≤ j.from + vec_capacity j.receipts)
    pub fresh : j.end ≡ None

  -- these jobs cover so many places
  abbrev pub AreJobs : TableId → View (Home D) Judged → ℕ → List (Job D) → Type 0
  AreJobs table v count jobs = Adjoin job_from job_to (IsJob table v count) 0 count jobs

  -- What a worker leaves of its job: its seat went on, and what it drew and let join is of the job's places.
  pub record Worked (lets : Point → ℕ → Type 0) (keeps : Bool) (items : List Item) (j k : Job D) : Type 0 where
    pub lock : k.seat.lock ≡ j.seat.lock
    pub range : (k.from ≡ j.from) × (k.to ≡ j.to)
    pub went : Went j.seat.view k.seat.view
    pub kept : KeptBy keeps j.seat.view k.seat.view
    pub runs : k.end ≡ None → k.seat.view.halted ≡ 0
    pub paced : AreLetOn lets k.receipts.items
    pub passed : PassedOrStopped k.seat.view
    pub part : IsPart items j.from j.to (j.seat.view.start + length j.seat.view.seen) k.seat.view.durable k.seat.view.own k.seat.view.joined k.receipts.items
    pub all : k.end ≡ None → IsAll j.from j.to k.seat.view.own k.receipts.items
    pub stopped : IfSome k.end (λ (refusal : Refusal). (refusal ≡ Stopped) × (k.seat.view.halted ≡ 1))

  -- the same of a job whose seat was split off one with this view
  pub record IsDone (lets : Point → ℕ → Type 0) (keeps : Bool) (table : TableId) (v : View (Home D) Judged) (items : List Item) (count : ℕ) (k : Job D) : Type 0 where
    pub lock : k.seat.lock ≡ table
    pub range : (k.from < k.to) × (k.to ≤ count)
    pub went : Went (given (k.to - k.from) v) k.seat.view
    pub kept : keeps ≡ false → k.seat.view.given_up ≡ []
    pub runs : k.end ≡ None → k.seat.view.halted ≡ 0
    pub paced : AreLetOn lets k.receipts.items
    pub passed : PassedOrStopped k.seat.view
    pub part : IsPart items k.from k.to (v.start + length v.seen) k.seat.view.durable k.seat.view.own k.seat.view.joined k.receipts.items
    pub all : k.end ≡ None → IsAll k.from k.to k.seat.view.own k.receipts.items
    pub stopped : IfSome k.end (λ (refusal : Refusal). (refusal ≡ Stopped) × (k.seat.view.halted ≡ 1))

  -- a seat that may draw so many more
  abbrev pub regaining : ℕ → View (Home D) Judged → View (Home D) Judged
  regaining more v = record v { allowance = v.allowance + more }

  -- What a seat with this view has come to, from which the seats of the jobs had been split off, and which took those in again whose
  -- places are from this one on and below that one: it has what they drew and let join, and may draw what they may.
  pub record Gathered (lets : Point → ℕ → Type 0) (keeps : Bool) (items : List Item) (from to : ℕ) (v w : View (Home D) Judged) (receipts : List Receipt) (end : Option Refusal) : Type 0 where
    pub went : Went (regaining (to - from) v) w
    pub kept : KeptBy keeps v w
    pub runs : end ≡ None → w.halted ≡ v.halted
    pub low : w.halted ≤ 1
    pub sees : SeesLegal w w
    pub paced : AreLetOn lets receipts
    pub once : (x : ℕ) → times x w.own ≤ 1
    pub passed : PassedOrStopped w
    pub drawn : List ℕ
    pub own : w.own ≡ v.own ++ drawn
    pub more : List (Joined Judged)
    pub joined : w.joined ≡ v.joined ++ more
    pub part : IsPart items from to (v.start + length v.seen) w.durable drawn more receipts
    pub all : end ≡ None → IsAll from to drawn receipts
    pub stopped : IfSome end (λ (refusal : Refusal). (refusal ≡ Stopped) × (0 < w.halted))

  module _ (g : Ghosts D) where
    -- A job that a worker can do.
    pub record IsReady (table : TableId) (count : ℕ) (j : Job D) : Type 0 where
      pub lock : j.seat.lock ≡ table
      pub seat : IsSeat g j.seat.view
      pub free : j.seat.view.held ≡ []
      pub fresh : (j.seat.view.own ≡ []) × (j.seat.view.joined ≡ []) × (j.end ≡ None)
      pub range : (j.from < j.to) × (j.to ≤ count)
      pub allowance : j.to ≤ j.from + j.seat.view.allowance
      pub room : (j.receipts.items ≡ []) × (j.to ≤ j.from + vec_capacity j.receipts)
