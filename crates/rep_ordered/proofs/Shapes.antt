-- A lock at a moment, the mind of one seat with what it carries, and the slots of the stations: by the types of a station's value and of
-- an entry.
use Rattle.std.proofs.Common.{Option, List}
use mathlib.Core.Option as maybe
use Rattle.atomic_table.specs.Table.{State, Me}
use Rattle.rep_ordered.specs.declared.view.Mind.{Mind}

abbrev pub Moment : Type 0 → Type 0 → Type 0
Moment V E = State (Option V) (Mind V E)

abbrev pub Mine : Type 0 → Type 0 → Type 0
Mine V E = Me (Option V) (Mind V E)

abbrev pub Homes : Type 0 → Type 0
Homes V = List (maybe.Option (Option V))
