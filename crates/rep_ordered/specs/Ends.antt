-- The first and the last of a lock: the values that it is made with, and those that it gives back.
use Rattle.std.specs.Prelude.{◌≡◌, ℕ, ◌+◌, ◌^◌, ◌<◌, ◌≤◌, Option, Some, List, [], length, slice_get}
use Rattle.rep_ordered.specs.declared.view.GivenUp.{GivenUp}
use Rattle.rep_ordered.specs.declared.view.View.{View}
use Rattle.rep_ordered.specs.Counts.{times, once_below}
use Rattle.rep_ordered.specs.Views.{Every, Sees, held_at, floor_at, reached_at, names}
use Rattle.rep_ordered.specs.Rule.{Covers, Meets}

-- the values of stations 1 and 2 name the same number
abbrev pub AllName : {V : Type 0} → (V → ℕ) → List V → Type 0
AllName {V} common_of values = (common : ℕ) × ((j : ℕ) (x : V) → slice_get values j ≡ Some x → 0 < names j → common_of x ≡ common)

-- the number that the value of station 1 names for both covers its durable number
abbrev pub AllCover : {V : Type 0} → (V → ℕ) → (V → ℕ) → List V → Type 0
AllCover {V} durable_of common_of values = (j : ℕ) (x : V) → slice_get values j ≡ Some x → j ≡ 1 → Covers durable_of common_of x

module _ {V E : Type 0} (law : List E → Type 0) (at_home : ℕ → ℕ → ℕ → List E → ℕ → V → Type 0) (durable_of common_of : V → ℕ) where
  -- each value may lie at home in its station at the number n, after an empty history
  abbrev pub AllMeet : ℕ → ℕ → List V → Type 0
  AllMeet n durable values = (j : ℕ) (x : V) → slice_get values j ≡ Some x → Meets law at_home durable_of common_of j n [] durable x

  -- the value that station j is closed with
  pub record ClosedAt (v : View V E) (durable shared j : ℕ) (found : Option V) : Type 0 where
    pub value : V
    pub number : ℕ
    pub is : found ≡ Some value
    -- 1 where the station was given up, else 0: after a halt alone, of which the seat knows
    pub given : ℕ
    pub halted : given ≤ v.halted
    -- where a seat gave the station up, it is the value that it gave back then
    pub kept : Every (λ (g : GivenUp V). g.station ≡ j → g.value ≡ value) v.given_up
    -- it meets what may lie at home there, at the history that the seat saw
    pub keeps : at_home j number given v.seen durable value
    pub backed : j ≡ 1 → (v.backed ≤ durable_of value) × (durable ≤ durable_of value)
    pub common : 0 < names j → common_of value ≡ shared
    -- the turn had come at least as far as the seat saw, and no further than the numbers that were drawn
    pub begun : v.start ≤ number
    pub turn : reached_at j v.reached ≤ number
    pub within : number ≤ v.start + length v.own
    -- so it ends behind the last number
    pub limit : number ≤ 2 ^ 60 + 1
    -- at station 0 the history has as many entries as tickets passed
    pub place : j ≡ 0 → v.start + length v.seen ≡ number

  -- What the last seat closes the lock with: of each station that it does not hold, the value at home.
  pub record Closed (v : View V E) (values : List (Option V)) : Type 0 where
    pub durable : ℕ
    pub common : ℕ
    pub known : v.durable ≤ durable
    -- after a halt the durable number stays
    pub stays : 0 < v.halted → durable ≡ v.durable
    pub limit : durable ≤ 2 ^ 60
    -- what is durable is so at the value of station 1, or at the one that the seat found there, where it is still inside
    pub backed : held_at 1 v.held ≡ 0 → (x : V) → slice_get values 1 ≡ Some (Some x) → durable ≤ durable_of x
    pub floor : 0 < held_at 1 v.held → durable ≤ floor_at 1 v.held
    pub named : v.common ≤ common
    -- the number that stations 1 and 2 name covers what is durable
    pub covered : durable ≤ common
    pub sees : Sees law v
    pub each : (j : ℕ) (found : Option V) → slice_get values j ≡ Some found → held_at j v.held ≡ 0 → ClosedAt v durable common j found
    -- its numbers are those from the first on, each once
    pub numbers : (x : ℕ) → times x v.own + once_below x v.start ≡ once_below x (v.start + length v.own)
