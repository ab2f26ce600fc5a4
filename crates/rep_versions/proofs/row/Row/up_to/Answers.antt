use Rattle.std.proofs.Common.{rules, leb, subst, sym, ◌∙◌}
use Rattle.std.proofs.lemmas.List.Sorted.{IsPartitionPoint-from_clause, IsPartitionedBy-leb}
use Rattle.rep_versions.specs.Rows.{SplitsAt}
use Rattle.rep_versions.proofs.InRow.{Rises, no_fall, splits, all_up_to}
use Rattle.rep_versions.proofs.row.Row.up_to.Goals as goal

pub returns-then-newest-seqno : goal.returns-then-newest-seqno
returns-then-newest-seqno c =
    let rises = subst Rises (sym c.deref.ensures.value) c.self.invariant in
    let all = all_up_to c.deref.result.now c.args.seqno c.in-Some.newest.now rises (sym c.in-Some.ensures.value) c.if-newest-seqno.true in
    subst (λ r. SplitsAt r c.args.seqno c.len.result) (c.deref.ensures.value ∙ c.self.view_is) (subst (SplitsAt c.deref.result.now c.args.seqno) (c.deref.ensures.len ∙ sym c.len.ensures) all)

pub returns : goal.returns
returns c =
    let row = c.deref-2.result.now in
    let rises = subst Rises (sym c.deref-2.ensures.value) c.self.invariant in
    let parted = IsPartitionedBy-leb (λ v. v.0) row c.args.seqno (no_fall row rises) in
    let point = IsPartitionPoint-from_clause (λ v. leb v.0 c.args.seqno) _ _ c.partition_point.ensures.partitioned parted (λ a r q k. search rules) in
    subst (λ r. SplitsAt r c.args.seqno c.partition_point.result) (c.deref-2.ensures.value ∙ c.self.view_is) (splits row c.args.seqno c.partition_point.result c.partition_point.ensures.bound point)
