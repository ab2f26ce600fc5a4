use Rattle.std.proofs.Common.{Some, sym, ap, ◌∙◌}
use Rattle.rep_types.proofs.Greatest.{greater, max_is_greater}
use Rattle.rep_plain.proofs.Scans.{take_read, greatest_seqno_push}
use Rattle.rep_plain.proofs.scan.greatest_conflict.Goals as goal
use Rattle.rep_plain.proofs.scan.greatest_conflict.Goals.{then-is_against, else-is_against}

pub loop-earlier-preserved : goal.loop-earlier-preserved
loop-earlier-preserved c =
    let more = take_read c.args.items.now c.loop-earlier.earlier-index c.earlier-item.result c.earlier-item.is c.loop-earlier-test.true in
    elim c.if-is_against.branch [
      | then-is_against w ↦ rw (more, greatest_seqno_push, sym c.is_against.ensures, w.if-is_against.true, w.found-is)
          (w.max-found.ensures ∙ max_is_greater c.loop-earlier.found (Some c.earlier-item.result.seqno) ∙ ap (λ o. greater o (Some c.earlier-item.result.seqno)) c.loop-earlier.invariant)
      | else-is_against w ↦ rw (more, greatest_seqno_push, sym c.is_against.ensures, w.if-is_against.false, w.found-is) c.loop-earlier.invariant
    ]
