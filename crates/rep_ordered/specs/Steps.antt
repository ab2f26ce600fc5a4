-- What each step on the words tells the seat that makes it.
use Rattle.std.specs.Prelude.{◌≡◌, ◌≢◌, ℕ, ◌+◌, ◌-◌, ◌*◌, ◌/◌, ◌%◌, ◌^◌, ◌<◌, ◌≤◌, Option, Some, None, List, [], ◌∷◌, map, length}
use Rattle.atomic_table.specs.Table.{Me, Step, rest}
use Rattle.rep_ordered.specs.declared.view.Hold.{Hold}
use Rattle.rep_ordered.specs.declared.view.Mind.{Mind}
use Rattle.rep_ordered.specs.declared.view.View.{View}
use Rattle.rep_ordered.specs.Counts.{times}
use Rattle.rep_ordered.specs.Views.{abandoned_with, Every, HasAll, StartsWith, Sees, held_at, reached_at, hold, reach, backed_after, common_after, names, turn_of, word_at, with_number, knowing, except, without}
use Rattle.rep_ordered.specs.Seats.{empty_slot}

module _ {V E : Type 0} where
  -- a number was drawn: not one of its own, and none that has passed station 0 already
  pub record Claims (v w : View V E) (number : ℕ) : Type 0 where
    pub view : w ≡ with_number number v
    pub limit : number ≤ 2 ^ 60
    pub later : v.start + length v.seen ≤ number
    pub fresh : times number v.own ≡ 0

  -- word 1, as it is known: at most 2 ^ 60, and 2 ^ 63 more after a halt
  pub record Reads (w : View V E) (word : ℕ) : Type 0 where
    pub durable : word % 2 ^ 63 ≡ w.durable
    pub halted : word / 2 ^ 63 ≡ w.halted
    pub low : w.durable ≤ 2 ^ 60
    pub stop_bit : w.halted ≤ 1

  -- word 1 as it was found, before the number was raised: at most what is then known, and a halt that was there is known
  pub record Found (w : View V E) (word : ℕ) : Type 0 where
    pub durable : word % 2 ^ 63 ≤ w.durable
    pub halted : word / 2 ^ 63 ≡ w.halted
    pub stop_bit : w.halted ≤ 1

module _ {V E : Type 0} (law : List E → Type 0) where
  -- after a load, where v is what was known before, and this history was heard of: the whole history is known, and no number was drawn twice
  pub record Learns (heard : List E) (v w : View V E) : Type 0 where
    pub same : w ≡ knowing w.seen w.durable w.halted v
    pub seen : StartsWith w.seen v.seen
    pub told : StartsWith w.seen heard
    pub sees : Sees law w
    -- while it holds station 0, nothing joins the history
    pub still : 0 < held_at 0 v.held → w.seen ≡ v.seen
    pub durable : v.durable ≤ w.durable
    pub halted : v.halted ≤ w.halted
    -- after a halt the durable number stays
    pub stays : 0 < v.halted → w.durable ≡ v.durable
    pub once : (x : ℕ) → times x v.own ≤ 1
    -- no seat may draw more numbers than the lock has
    pub within : w.allowance ≤ w.whole
    -- one holder at a time: of a station that it holds, no seat that it knows of has seen the turn beyond its own
    pub inside : Every (λ (h : Hold). reached_at h.station v.reached ≤ h.word / 4) v.held

module _ {V E : Type 0} (law : List E → Type 0) (at_home : ℕ → ℕ → ℕ → List E → ℕ → V → Type 0) (durable_of common_of : V → ℕ) where
  -- The seat has entered the station, by the ticket of this number (kind 1) or from the side at it (kind 2), and found the value x. All that it knows of the history and of the durable number is as it was then; it learns of no halt.
  pub record Entered (station number kind : ℕ) (v w : View V E) (x : V) : Type 0 where
    pub view : w ≡ record (knowing w.seen w.durable w.halted v) { backed = backed_after station (durable_of x) v.backed; common = common_after station (common_of x) v.common; reached = reach station number ∷ v.reached; held = hold station (4 * number + kind) (durable_of x) ∷ v.held }
    pub seen : StartsWith w.seen v.seen
    pub sees : Sees law w
    -- while it holds station 0, nothing joins the history
    pub still : 0 < held_at 0 v.held → w.seen ≡ v.seen
    pub durable : v.durable ≤ w.durable
    pub halted : w.halted ≡ v.halted
    -- after a halt the durable number stays
    pub stays : 0 < v.halted → w.durable ≡ v.durable
    -- the value meets what may lie at home there
    pub keeps : at_home station number 0 w.seen w.durable x
    pub backed : station ≡ 1 → (v.backed ≤ durable_of x) × (w.durable ≤ durable_of x)
    -- the number that stations 1 and 2 name is not below what the seat saw, and the same where it holds the other one
    pub common : 0 < names station → (v.common ≤ common_of x) × (0 < held_at 1 v.held + held_at 2 v.held → v.common ≡ common_of x)
    -- that number covers what is durable
    pub covers : 0 < names station → w.durable ≤ common_of x
    -- the turns begin at the first number, and end behind the last
    pub begun : v.start ≤ number
    pub limit : number ≤ 2 ^ 60 + 1
    -- the turn had come no further than to this number
    pub turn : reached_at station v.reached ≤ number
    -- the station is now held at this number, in this way
    pub word : word_at station w.held ≡ 4 * number + kind
    pub now : turn_of station w ≡ number
    -- at station 0 the history has as many entries as tickets passed
    pub place : station ≡ 0 → v.start + length w.seen ≡ number
    -- nobody held the station, this seat neither
    pub alone : held_at station v.held ≡ 0

module _ {V E : Type 0} where
  -- what a seat was told beside its view, and the slots that it carries, stay as they are
  abbrev pub Apart : Me (Option V) (Mind V E) → Me (Option V) (Mind V E) → Type 0
  Apart m m' = (m'.0.told ≡ m.0.told) × (m'.1 ≡ m.1)

  -- nothing is told beside the view any more, and the slots stay
  abbrev pub Plain : Me (Option V) (Mind V E) → Me (Option V) (Mind V E) → Type 0
  Plain m m' = (m'.0.told ≡ []) × (m'.1 ≡ m.1)

  abbrev pub claimed : Step (Option V) → Me (Option V) (Mind V E) → ℕ → Me (Option V) (Mind V E) → Type 0
  claimed st m r m' = Claims m.0.view m'.0.view r × Apart m m'

  abbrev pub loaded : (List E → Type 0) → Step (Option V) → Me (Option V) (Mind V E) → ℕ → Me (Option V) (Mind V E) → Type 0
  loaded law st m r m' = Learns law m.0.told m.0.view m'.0.view × Plain m m'

  -- a load by which a seat learns of no halt
  abbrev pub looked : (List E → Type 0) → Step (Option V) → Me (Option V) (Mind V E) → ℕ → Me (Option V) (Mind V E) → Type 0
  looked law st m r m' = loaded law st m r m' × (m'.0.view.halted ≡ m.0.view.halted)

  -- a load of word 1. A seat that has all the numbers knows the whole history, and of every halt
  abbrev pub fronted : (List E → Type 0) → Step (Option V) → Me (Option V) (Mind V E) → ℕ → Me (Option V) (Mind V E) → Type 0
  fronted law st m r m' = loaded law st m r m' × Reads m'.0.view r × (m.0.told ≡ [] → HasAll m.0.view → (m'.0.view.halted ≡ m.0.view.halted) × (m'.0.view.seen ≡ m.0.view.seen))

  abbrev pub raised : (List E → Type 0) → Step (Option V) → Me (Option V) (Mind V E) → ℕ → Me (Option V) (Mind V E) → Type 0
  raised law st m r m' = loaded law st m r m' × Found m'.0.view r × (m'.0.view.halted ≡ 0 → st.first ≤ m'.0.view.durable) × (HasAll m.0.view → m'.0.view.halted ≡ m.0.view.halted)

  abbrev pub stopped : (List E → Type 0) → Step (Option V) → Me (Option V) (Mind V E) → ℕ → Me (Option V) (Mind V E) → Type 0
  stopped law st m r m' = loaded law st m r m' × (m'.0.view.halted ≡ 1)

  -- the exchange succeeds where the word is the old one, and takes the slot; else nothing changes
  abbrev pub tried : (List E → Type 0) → (ℕ → ℕ → ℕ → List E → ℕ → V → Type 0) → (V → ℕ) → (V → ℕ) → ℕ → Step (Option V) → Me (Option V) (Mind V E) → ℕ → Me (Option V) (Mind V E) → Type 0
  tried law at_home durable_of common_of kind st m r m' =
      (r ≡ st.first → (x : V) × Entered law at_home durable_of common_of (st.word - 2) (st.first / 4) kind m.0.view m'.0.view x × (m'.0.told ≡ []) × (m'.1 ≡ (st.word - 2, Some x) ∷ m.1))
      × (r ≢ st.first → m' ≡ m)

  -- The station's slot is brought in front of the others that the seat carries, which are all empty. What the seat knows is as before
  abbrev pub brought : Step (Option V) → Me (Option V) (Mind V E) → ℕ → Me (Option V) (Mind V E) → Type 0
  brought st m r m' = (m'.0 ≡ m.0) × (m'.1 ≡ (st.word - 2, None) ∷ map empty_slot (except (st.word - 2) m.0.view.held))

  -- the station's word is changed, and its slot given back
  abbrev pub left : Option E → ℕ → ℕ → ℕ → Step (Option V) → Me (Option V) (Mind V E) → ℕ → Me (Option V) (Mind V E) → Type 0
  left entry durable common number st m r m' = (m'.0.view ≡ without entry (st.word - 2) number durable common m.0.view) × (m'.0.told ≡ m.0.told) × (m'.1 ≡ rest m.1)

  -- the same of a station that is given up with these values, of which there is one
  abbrev pub abandons : List V → ℕ → ℕ → ℕ → Step (Option V) → Me (Option V) (Mind V E) → ℕ → Me (Option V) (Mind V E) → Type 0
  abandons xs durable common number st m r m' = (m'.0.view ≡ abandoned_with (st.word - 2) xs (without None (st.word - 2) number durable common m.0.view)) × (m'.0.told ≡ m.0.told) × (m'.1 ≡ rest m.1)
