-- Tickets that pass two stations: what lies at home there, and what a seat has done.
use Rattle.std.specs.Prelude.{◌≡◌, ℕ, ◌+◌, ◌*◌, ◌<◌, List, [], ◌∷◌, length}
use Rattle.std.proofs.Common.{zero, suc}
use Rattle.rep_ordered.specs.declared.view.View.{View}
use Rattle.rep_ordered.specs.Counts.{times}
use Rattle.rep_ordered.specs.Views.{StartsWith, floor_at, names, reached_at, word_at}

-- so many numbers, from the first on
abbrev pub numbers : ℕ → ℕ → List ℕ
numbers first zero = []
numbers first (suc n) = first ∷ numbers (first + 1) n

-- The tickets that passed a station whose turn is at this number: all from the first on, in order. The history begins with them
pub record HavePassed (start number : ℕ) (history tickets : List ℕ) : Type 0 where
  pub count : start + length tickets ≡ number
  pub all : tickets ≡ numbers start (length tickets)
  pub front : StartsWith history tickets

-- the seat is inside the station with this ticket, and no durable number is named there
pub record Inside {V : Type 0} (station ticket : ℕ) (v : View V ℕ) : Type 0 where
  pub word : word_at station v.held ≡ 4 * ticket + 1
  pub floor : floor_at station v.held ≡ 0
  pub common : 0 < names station → v.common ≡ 0

-- every history is lawful
abbrev pub Anything : List ℕ → Type 0
Anything history = Unit {0}

-- each number that the seat drew has passed both stations
abbrev pub AllDone : {V : Type 0} → View V ℕ → Type 0
AllDone v = (x : ℕ) → 0 < times x v.own → (x < reached_at 0 v.reached) × (x < reached_at 1 v.reached)

-- at station 2 those that wait make up all numbers from the last that was taken over to the turn
abbrev pub PartAtHome : ℕ → ℕ → ℕ → ℕ → Type 0
PartAtHome station number taken waiting = station ≡ 2 → taken + waiting + 1 ≡ number
