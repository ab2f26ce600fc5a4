use Rattle.std.proofs.Common.{Option, IfSome, sym, ap, ◌∙◌, subst}
use Rattle.rep_snap.specs.Views.{Watching}
use Rattle.rep_node.specs.declared.origin.Origin.{Origin}
use Rattle.rep_node.specs.Reading.{IsReaderOf}
use Rattle.rep_node.specs.Rows.{Beside, tables_in, tables_of}
use Rattle.rep_node.proofs.Peeks.{origin_of}
use Rattle.rep_node.proofs.rows.NodeRowsRows.schema.Goals as goal

pub returns : goal.returns
returns g c =
    let r = c.in-Some.reader in
    let v = c.self.inside.seat.view in
    let seat = c.is_one.ensures.seat in
    let own : IsReaderOf v r = subst (λ (o : Option (Watching Origin)). IfSome o (IsReaderOf v)) c.in-Some.is c.self.invariant.2 in
    let log = origin_of g.D.Disk v seat r own seat.start seat.first in
    c.schema.ensures seat.start.certifier log ∙ sym (ap tables_in log) ∙ ap tables_of (sym c.in-Some.is) ∙ ap (λ (z : Beside g.row.D.Denot). tables_of z.reader) c.self.view_is
