use Rattle.std.proofs.Common.{◌≡◌, Some, refl, sym, ◌∙◌, subst}
use Rattle.rep_snap.specs.Doors.{FoundShut}
use Rattle.rep_node.specs.Rows.{Beside, ReadsBeside}
use Rattle.rep_node.proofs.Rowing.{forgets_none, rows_are}
use Rattle.rep_node.proofs.rows.NodeRowsRows.read_at.Goals as goal

-- the read of the node, by the seat and the reader
pub returns : goal.returns
returns g c =
    let shut = FoundShut g.W.Door.knows g.W.Door.shut in
    let told = c.read-reader.ensures in
    let a : Beside g.row.D.Denot = record { seat = c.self.inside.seat; reader = c.self.inside.reader } in
    let b : Beside g.row.D.Denot = record { seat = c.read-reader.new.seat; reader = Some c.read-reader.result.0 } in
    let was : c.self.inside.reader ≡ Some c.in-Some.reader = sym c.take.ensures.value ∙ c.in-Some.is in
    let all : ReadsBeside g.D.Disk shut a c.args.key c.args.s c.read-reader.result.1 b = record {
      before = c.in-Some.reader;
      was = was;
      behind = c.read-reader.result.0;
      is = refl;
      lock = told.lock;
      idle = told.idle;
      reads = told.reads;
      refused = told.refused;
      forgets = forgets_none g.D.Disk a b c.in-Some.reader c.read-reader.result.0 was refl c.histories_grow.ensures told.idle told.seen;
      rows = rows_are g.D.Disk a b c.in-Some.reader c.read-reader.result.0 was refl c.versions_follow_the_items.ensures c.history_by_items.ensures c.histories_extend_the_order.ensures c.reads_by_items.ensures c.peeks_follow_the_fold.ensures told.idle c.args.key c.args.s c.read-reader.result.1 told.row;
    } in
    subst (λ (z : Beside g.row.D.Denot). ReadsBeside g.D.Disk shut z c.args.key c.args.s c.read-reader.result.1 b) c.self.view_is all
