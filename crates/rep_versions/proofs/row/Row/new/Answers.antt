use Rattle.std.proofs.Common.{sym, subst}
use Rattle.rep_versions.proofs.InRow.{Rises, rises_alone}
use Rattle.rep_versions.proofs.row.Row.new.Goals as goal

pub invariant_of-result : goal.invariant_of-result
invariant_of-result c = subst Rises (sym c.in_ok-vec.ensures.items) (rises_alone c.args.seqno c.args.value)
