use Rattle.std.proofs.Common.{refl, sym}
use Rattle.rep_types.specs.declared.value.Write.{Write}
use Rattle.rep_types.specs.Keys.{key_eq}
use Rattle.rep_types.proofs.Latest.{latest_more}
use Rattle.rep_plain.proofs.scan.last_write.Goals as goal
use Rattle.rep_plain.proofs.scan.last_write.Goals.{then-eq, else-eq}

pub loop-write-preserved : goal.loop-write-preserved
loop-write-preserved c =
    let more = latest_more (λ (write : Write). key_eq write.key c.args.key) c.args.writes.now c.loop-write.write-index c.write-item.result c.write-item.is c.loop-write-test.true in
    elim c.if-eq.branch [
      | then-eq w ↦ rw (more, sym c.eq.ensures, w.if-eq.true, w.found-is) refl
      | else-eq w ↦ rw (more, sym c.eq.ensures, w.if-eq.false, w.found-is) c.loop-write.invariant
    ]
