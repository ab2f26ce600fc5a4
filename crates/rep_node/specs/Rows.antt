-- The rows of a node that threads run, as a session reads them beside it.
use Rattle.std.specs.Prelude.{◌≡◌, ℕ, ◌∷◌, [], ◌++◌, List, Option, None, Some, Result, Ok, IfSome, IfErr}
use mathlib.Core.List.{IsPrefix}
use Rattle.rep_types.specs.declared.key.Key.{Key}
use Rattle.rep_types.specs.declared.judged.Judged.{Judged}
use Rattle.rep_types.specs.declared.refusal.Refusal.{Refusal}
use Rattle.rep_types.specs.Settings.{Setting}
use Rattle.rep_types.specs.Order.{Order, items_of, read}
use Rattle.rep_disk.specs.declared.disk.Disk.{Ghosts}
use Rattle.rep_cert.specs.Holdings.{Holdings}
use Rattle.rep_steps.specs.Nodes.{Node}
use Rattle.rep_steps.specs.Orders.{IsOf}
use Rattle.rep_stations.specs.Judging.{Legal}
use Rattle.rep_stations.specs.Taking.{StartsAs}
use Rattle.rep_snap.specs.Lists.{published}
use Rattle.rep_snap.specs.Looks.{IsFront}
use Rattle.rep_snap.specs.Views.{Watching}
use Rattle.rep_ordered.specs.Seats.{Place}
use Rattle.rep_ordered.specs.Views.{StartsWith}
use Rattle.rep_node.specs.declared.home.Home.{Home}
use Rattle.rep_node.specs.declared.origin.Origin.{Origin}
use Rattle.rep_node.specs.Publishing.{shown}
use Rattle.rep_node.specs.Homes.{Start, values_of}
use Rattle.rep_node.specs.Seats.{WentIdle}
use Rattle.rep_node.specs.Reading.{allowed, Reads, Refuses}

-- What is known of them: by a seat of the node, and by a reader, which is away only while it reads.
pub record Beside (D : Type 0) : Type 0 where
  pub seat : Place (Home D) Judged
  pub reader : Option (Watching Origin)

abbrev pub tables_in : List Holdings → List ℕ
tables_in [] = []
tables_in (c ∷ certifiers) = c.current.setting.rows

-- the number of rows of each table, of the certifier with which the node was started
abbrev pub tables_of : Option (Watching Origin) → List ℕ
tables_of None = []
tables_of (Some r) = tables_in r.basis.certifier.log

module _ {D : Type 0} where
  -- the front of the published list, as the reader finds it; the seat is not asked
  pub record IsFrontBeside (shut : Watching Origin → Type 0) (a : Beside D) (front : ℕ) (b : Beside D) : Type 0 where
    pub before : Watching Origin
    pub was : a.reader ≡ Some before
    pub behind : Watching Origin
    pub is : b.reader ≡ Some behind
    pub found : IsFront allowed shut before behind front
    pub still : b.seat ≡ a.seat

  module _ (g : Ghosts D) where
    -- The rows are those of this order, under these parameters: what the node was started with stood for a node of an order, and this one goes
    -- on from that by a legal history, which goes on from what the seat has seen, and of which is published what the reader saw.
    pub record HasRowsOf (x : Beside D) (p : Setting) (L : Order) : Type 0 where
      pub start : Start D
      pub first : x.seat.view.first ≡ values_of start
      pub setting : p ≡ start.certifier.current.setting
      pub order : Order
      pub node : Node
      pub is_of : IsOf order node
      pub starts : StartsAs g start.desk.engine start.certifier.current node
      pub items : List Judged
      pub legal : Legal start.certifier.current items
      pub whole : L ≡ order ++ items_of items
      pub seen : StartsWith items x.seat.view.seen
      pub list : IfSome x.reader (λ (r : Watching Origin). IsPrefix (published r.seen) (shown items))

    -- What a read gives: what the node's read does, by the seat and the reader. It forgets nothing of the orders whose rows were known, and a row
    -- that is answered is that of each of these.
    pub record ReadsBeside (shut : Watching Origin → Type 0) (a : Beside D) (key : Key) (s : ℕ) (answer : Result (Option (List ℕ)) Refusal) (b : Beside D) : Type 0 where
      pub before : Watching Origin
      pub was : a.reader ≡ Some before
      pub behind : Watching Origin
      pub is : b.reader ≡ Some behind
      pub lock : b.seat.lock ≡ a.seat.lock
      pub idle : WentIdle a.seat.view b.seat.view
      pub reads : Reads g a.seat.view b.seat.view key s shut before behind answer
      pub refused : IfErr answer (Refuses g a.seat.view b.seat.view key s shut before behind)
      pub forgets : (p : Setting) (L : Order) → HasRowsOf b p L → HasRowsOf a p L
      pub rows : (x : Option (List ℕ)) (p : Setting) (L : Order) → answer ≡ Ok x → HasRowsOf b p L → x ≡ read p L key s
