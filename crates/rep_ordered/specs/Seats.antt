-- What clauses see of a seat, and what holds of each.
use Rattle.std.specs.Prelude.{◌≡◌, ℕ, ◌^◌, ◌<◌, ◌≤◌, Option, None, [], map}
use Rattle.atomic_table.specs.Table.{Me}
use Rattle.atomic_table.specs.Seated.{TableId}
use Rattle.rep_ordered.specs.declared.view.Hold.{Hold}
use Rattle.rep_ordered.specs.declared.view.Mind.{Mind}
use Rattle.rep_ordered.specs.declared.view.View.{View}
use Rattle.rep_ordered.specs.Counts.{times}
use Rattle.rep_ordered.specs.Views.{Every, Lives}

-- the lock that it is a seat of, and what it knows
pub record Place (V E : Type 0) : Type 0 where
  pub lock : TableId
  pub view : View V E

abbrev pub empty_slot : {V : Type 0} → Hold → ℕ × Option V
empty_slot h = (h.station, None)

-- between two calls a seat was told nothing that it has not seen, and the slots of the stations that it holds are empty
pub record IsSeated {V E : Type 0} (stations : ℕ) (me : Me (Option V) (Mind V E)) : Type 0 where
  pub told : me.0.told ≡ []
  pub lives : Lives me.0.view
  pub slots : me.1 ≡ map empty_slot me.0.view.held
  pub inside : Every (λ (h : Hold). h.station < stations) me.0.view.held
  pub small : (x : ℕ) → 0 < times x me.0.view.own → x ≤ 2 ^ 60

-- a lock of so many stations
abbrev pub stations_of : TableId → ℕ
stations_of lock = lock.slots

-- a seat of this lock, which has so many stations, that holds none of them
abbrev pub IsFree : {V E : Type 0} → TableId → ℕ → Place V E → Type 0
IsFree lock stations seat = (seat.lock ≡ lock) × (stations_of lock ≡ stations) × (seat.view.held ≡ [])

abbrev pub seat_of : {V E : Type 0} → TableId → View V E → Place V E
seat_of lock view = record { lock = lock; view = view }
