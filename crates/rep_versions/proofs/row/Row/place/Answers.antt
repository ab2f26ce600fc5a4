use Rattle.std.proofs.Common.{arith, subst, sym}
use Rattle.rep_versions.specs.Rows.{SplitsAt, IsGap}
use Rattle.rep_versions.proofs.InRow.{gap_is}
use Rattle.rep_versions.proofs.row.Row.place.Goals as goal

pub returns-else-index-seqno-clause-gap : goal.returns-else-index-seqno-clause-gap
returns-else-index-seqno-clause-gap c =
    let row = c.self.inside.versions.items in
    subst (λ r. IsGap r c.args.seqno c.up_to-count.result) c.self.view_is
    (gap_is row c.args.seqno c.up_to-count.result c.in-Some.last c.index.result.now c.self.invariant (subst (λ r. SplitsAt r c.args.seqno c.up_to-count.result) (sym c.self.view_is) c.up_to-count.ensures) (grind (arith, c.in-Some.ensures)) c.index.ensures c.if-index-seqno.false)
