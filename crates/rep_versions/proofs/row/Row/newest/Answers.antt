use Rattle.std.proofs.Common.{arith, ◌≡◌, subst, sym}
use Rattle.rep_versions.specs.Rows.{SplitsAt, IsNewestOf}
use Rattle.rep_versions.proofs.InRow.{newest_is, none_up_to}
use Rattle.rep_versions.proofs.row.Row.newest.Goals as goal

pub returns-in_err-last-clause-none : goal.returns-in_err-last-clause-none
returns-in_err-last-clause-none c = λ _ s le.
    let none : c.up_to.result ≡ 0 = grind (arith, c.in_err-last.ensures) in
    none_up_to c.args.self.now c.args.seqno (subst (SplitsAt c.args.self.now c.args.seqno) none c.up_to.ensures) s le

pub returns-clause-some : goal.returns-clause-some
returns-clause-some c =
    let row = c.self.inside.versions.items in
    subst (λ r. IsNewestOf r c.args.seqno c.index.result.now) c.self.view_is
    (newest_is row c.args.seqno c.up_to.result c.in_ok-last.last c.index.result.now c.self.invariant (subst (λ r. SplitsAt r c.args.seqno c.up_to.result) (sym c.self.view_is) c.up_to.ensures) (grind (arith, c.in_ok-last.ensures)) c.index.ensures)
