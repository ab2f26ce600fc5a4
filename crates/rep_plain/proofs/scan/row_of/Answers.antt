use Rattle.std.proofs.Common.{◌≡◌, Some, None, refl}
use Rattle.rep_types.specs.declared.value.Write.{Write}
use Rattle.rep_types.specs.Keys.{key_eq}
use Rattle.rep_types.specs.Items.{writes_of}
use Rattle.rep_types.specs.Order.{latest}
use Rattle.rep_plain.proofs.Scans.{take_read, row_push}
use Rattle.rep_plain.proofs.scan.row_of.Goals as goal
use Rattle.rep_plain.proofs.scan.row_of.Goals.{then-is_commit+in-Some, then-is_commit+in_default, else-is_commit}

pub loop-judged-preserved : goal.loop-judged-preserved
loop-judged-preserved c =
    let more = take_read c.args.items.now c.loop-judged.judged-index c.judged-item.result c.judged-item.is c.loop-judged-test.true in
    elim c.if-is_commit.branch [
      | then-is_commit+in-Some w ↦
          let last : latest (λ (write : Write). key_eq write.key c.args.key) (writes_of c.judged-item.result.item) ≡ Some w.in-Some.write.now =
          rw (← w.writes.ensures, ← w.last_write.ensures, w.in-Some.is) refl in
          rw (more, row_push _ _ c.args.key, ← c.is_commit.ensures, w.if-is_commit.true, last, w.row-is) w.as_ref-row.ensures.value
      | then-is_commit+in_default w ↦
          let last : latest (λ (write : Write). key_eq write.key c.args.key) (writes_of c.judged-item.result.item) ≡ None =
          rw (← w.writes.ensures, ← w.last_write.ensures, w.in_default.is) refl in
          rw (more, row_push _ _ c.args.key, ← c.is_commit.ensures, w.if-is_commit.true, last, w.row-is) c.loop-judged.invariant
      | else-is_commit w ↦ rw (more, row_push _ _ c.args.key, ← c.is_commit.ensures, w.if-is_commit.false, w.row-is) c.loop-judged.invariant
    ]
