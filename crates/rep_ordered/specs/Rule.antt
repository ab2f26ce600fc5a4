-- What holds of the lock at every moment: of its words, of the values at home, and of what the seats know.
-- Word 0 is the next ticket. Word 1 is the durable number, and 2 ^ 63 more after a halt. Word j + 2 is the one of station j, four times the number of its turn, and 0 where it is free, 1 where it is held by the ticket of that number, 2 where it is held from the side, and 3 where it was given up. Its value lies in slot j.
use Rattle.std.specs.Prelude.{◌≡◌, ℕ, ◌+◌, ◌*◌, ◌/◌, ◌%◌, ◌^◌, ◌<◌, ◌≤◌, max, min, Option, Some, List, length}
use mathlib.Core.Option as maybe
use lib.ListN.{get_elem?}
use Rattle.atomic_table.specs.Table.{State}
use Rattle.rep_ordered.specs.declared.view.GivenUp.{GivenUp}
use Rattle.rep_ordered.specs.declared.view.Hold.{Hold}
use Rattle.rep_ordered.specs.declared.view.Mind.{Mind}
use Rattle.rep_ordered.specs.declared.rule.Opening.{Opening}
use Rattle.rep_ordered.specs.Counts.{total, times, once_below, busy, gave}
use Rattle.rep_ordered.specs.Views.{Every, StartsWith, Placed, held_at, reached_at, names, allowance_of, count_of, drew, on, halted_of}

-- the values that the lock was made with
abbrev pub first_of : {V : Type 0} → Opening V → List V
first_of k = k.first.value.items

-- the number that stations 1 and 2 name covers the durable number that this value names, as far as a durable number can go
abbrev pub Covers : {V : Type 0} → (V → ℕ) → (V → ℕ) → V → Type 0
Covers durable_of common_of x = min (durable_of x) (2 ^ 60) ≤ common_of x

-- what the rule keeps beside the words: the history, what the words mean, the durable number of station 1's value, and the number that stations 1 and 2 name
pub record Figures (E : Type 0) : Type 0 where
  pub history : List E
  pub next : ℕ
  pub durable : ℕ
  pub stop : ℕ
  pub backed : ℕ
  pub common : ℕ

pub record HoldIsRight {E : Type 0} (f : Figures E) (words : List ℕ) (own : List ℕ) (seen : List E) (h : Hold) : Type 0 where
  pub word : get_elem? words (h.station + 2) ≡ maybe.some h.word
  pub taken : busy h.word ≡ 1
  pub floor : h.station ≡ 1 → f.backed ≤ h.floor
  pub drawn : h.word % 4 ≡ 1 → 0 < times (h.word / 4) own
  pub whole : h.station ≡ 0 → seen ≡ f.history

-- the station was given up, and has this value at home
pub record Gone {V : Type 0} (words : List ℕ) (homes : List (maybe.Option (Option V))) (g : GivenUp V) : Type 0 where
  pub word : ℕ
  pub there : get_elem? words (g.station + 2) ≡ maybe.some word
  pub gone : gave word ≡ 1
  pub home : get_elem? homes g.station ≡ maybe.some (maybe.some (Some g.value))

module _ {V E : Type 0} where
  -- what the first two words mean, and the limits
  pub record Spelled (k : Opening V) (f : Figures E) (words : List ℕ) (slots : ℕ) : Type 0 where
    pub wide : length words ≡ slots + 2
    pub next_is : get_elem? words 0 ≡ maybe.some f.next
    pub durable_is : get_elem? words 1 ≡ maybe.some (f.durable + 2 ^ 63 * f.stop)
    pub low : f.durable ≤ 2 ^ 60
    pub stop_bit : f.stop ≤ 1
    pub backed_up : f.durable ≤ f.backed
    pub covered : min f.backed (2 ^ 60) ≤ f.common
    pub short : k.start + length f.history ≤ f.next
    pub small : k.start + k.whole ≤ 2 ^ 60 + 1

  -- each number from the first to the next ticket was drawn once, and the others may still be drawn
  pub record Dealt (k : Opening V) (next : ℕ) (views : List (Mind V E)) : Type 0 where
    pub tickets : next + total allowance_of views ≡ k.start + k.whole
    pub many : k.start + total count_of views ≡ next
    pub drawn : (x : ℕ) → total (drew x) views + once_below x k.start ≡ once_below x next

  -- what a seat knows is so
  pub record Knows (k : Opening V) (f : Figures E) (words : List ℕ) (homes : List (maybe.Option (Option V))) (m : Mind V E) : Type 0 where
    pub starts : m.view.start ≡ k.start
    pub wholes : m.view.whole ≡ k.whole
    pub firsts : m.view.first ≡ first_of k
    pub begins : StartsWith f.history m.view.seen
    pub told : StartsWith f.history m.told
    pub lasts : m.view.durable ≤ f.durable
    pub stops : m.view.halted ≤ f.stop
    -- after a halt the durable number stays
    pub stays : 0 < m.view.halted → f.durable ≤ m.view.durable
    pub below : m.view.backed ≤ f.backed
    pub named : m.view.common ≤ f.common
    pub exact : 0 < held_at 1 m.view.held + held_at 2 m.view.held → m.view.common ≡ f.common
    pub reached : (j w : ℕ) → get_elem? words (j + 2) ≡ maybe.some w → reached_at j m.view.reached ≤ w / 4
    pub holds : Every (HoldIsRight f words m.view.own m.view.seen) m.view.held
    pub lives : 0 < length m.view.held → 0 < k.whole → 0 < m.view.allowance + length m.view.own
    -- nobody enters a station again that was given up
    pub gone : Every (Gone words homes) m.view.given_up
    pub placed : Placed k.start f.history m.view.own m.view.joined
    -- who may not act any more, having been joined to another, knows of no halt
    pub idle : 0 < k.whole → m.view.allowance + length m.view.own ≡ 0 → m.view.halted ≡ 0

  -- some seat that may still act has seen the whole history, or was told of it
  pub record Known (k : Opening V) (f : Figures E) (views : List (Mind V E)) : Type 0 where
    pub seat : ℕ
    pub mind : Mind V E
    pub there : get_elem? views seat ≡ maybe.some mind
    pub lives : 0 < k.whole → 0 < mind.view.allowance + length mind.view.own
    pub knows : length f.history ≤ max (length mind.view.seen) (length mind.told)

module _ {V E : Type 0} (law : List E → Type 0) (at_home : ℕ → ℕ → ℕ → List E → ℕ → V → Type 0) (durable_of common_of : V → ℕ) where
  -- the value may lie at home in station j at the number n, and does not name too low a durable number
  abbrev pub Meets : ℕ → ℕ → List E → ℕ → V → Type 0
  Meets j n history durable x = at_home j n 0 history durable x × (j ≡ 1 → durable ≤ durable_of x)

  -- the value that lies at home in station j, at the number n, given up where g is 1
  pub record Home (f : Figures E) (homes : List (maybe.Option (Option V))) (j n g : ℕ) : Type 0 where
    pub value : V
    pub there : get_elem? homes j ≡ maybe.some (maybe.some (Some value))
    pub keeps : at_home j n g f.history f.durable value
    pub backed : j ≡ 1 → f.backed ≤ durable_of value
    -- who enters raises `backed` to the value's own number, so this is kept of the value itself
    pub covers : j ≡ 1 → Covers durable_of common_of value
    pub common : 0 < names j → common_of value ≡ f.common

  pub record Station (k : Opening V) (f : Figures E) (homes : List (maybe.Option (Option V))) (count j w : ℕ) : Type 0 where
    pub begun : k.start ≤ w / 4
    pub within : w / 4 ≤ f.next
    -- one holder at a time
    pub counts : count ≡ busy w
    pub counted : j ≡ 0 → k.start + length f.history ≡ w / 4
    -- after a halt alone
    pub gone : gave w ≤ f.stop
    pub home : busy w ≡ 0 → Home f homes j (w / 4) (gave w)

  pub record Kept (k : Opening V) (s : State (Option V) (Mind V E)) : Type 0 where
    pub figures : Figures E
    pub spelled : Spelled k figures s.words (length s.homes)
    pub dealt : Dealt k figures.next s.views
    pub each_station : (j w : ℕ) → get_elem? s.words (j + 2) ≡ maybe.some w → Station k figures s.homes (total (on j) s.views) j w
    pub each_seat : (i : ℕ) (m : Mind V E) → get_elem? s.views i ≡ maybe.some m → Knows k figures s.words s.homes m
    pub known : Known k figures s.views
    -- where there is no number at all, there is one seat
    pub lone : k.whole ≡ 0 → length s.views ≡ 1
    pub lawful : law figures.history
    -- some seat knows of a halt
    pub stopped : figures.stop ≤ total halted_of s.views
