-- What holds of a node, its one seat and its one reader; and of a reader beside a seat.
use Rattle.std.specs.Prelude.{◌≡◌}
use Rattle.atomic_table.specs.Seated.{TableId}
use Rattle.rep_types.specs.declared.judged.Judged.{Judged}
use Rattle.rep_snap.specs.Views.{Watching}
use Rattle.rep_ordered.specs.declared.view.View.{View}
use Rattle.rep_ordered.specs.Seats.{Place}
use Rattle.rep_ordered.specs.Views.{HasAll}
use Rattle.rep_node.specs.declared.home.Home.{Home}
use Rattle.rep_node.specs.declared.origin.Origin.{Origin}
use Rattle.rep_node.specs.Homes.{Start, values_of}
use Rattle.rep_node.specs.Reading.{IsReaderOf}

-- The seat is the only one of the node, which may be closed by it, and the reader was handed out with the node.
pub record Runs {D : Type 0} (node : TableId) (seat : Place (Home D) Judged) (reader : Watching Origin) : Type 0 where
  pub lock : seat.lock ≡ node
  pub all : HasAll seat.view
  pub own : IsReaderOf seat.view reader
  pub start : Start D
  pub first : seat.view.first ≡ values_of start

-- The reader was handed out with the node of a seat of this view, which was started with something.
pub record HasReader {D : Type 0} (v : View (Home D) Judged) (reader : Watching Origin) : Type 0 where
  pub own : IsReaderOf v reader
  pub start : Start D
  pub first : v.first ≡ values_of start
