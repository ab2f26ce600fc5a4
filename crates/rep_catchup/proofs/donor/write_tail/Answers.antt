use Rattle.std.proofs.Common.{Ok, Err, subst}
use Rattle.std.specs.Prelude.{IfSome, Option}
use Rattle.std.proofs.lemmas.Result.{err_from_is_err_and}
use Rattle.rep_types.specs.declared.refusal.Part.TheVariants.{Log as InLog}
use Rattle.rep_record.specs.Blocks.{Contents}
use Rattle.rep_replica.specs.EngineDonating.{IsTailBlock}
use Rattle.rep_catchup.specs.Donating.{as_seen}
use Rattle.rep_catchup.proofs.DonateReads.{asked_part, leaves_all, leaves_asked, leaves_cut, leaves_given, leaves_noted, leaves_passed, leaves_then, still_holds}
use Rattle.rep_catchup.proofs.DonateTail.{bad_block, block_at_first, blocks_end, blocks_end_within, due_first, form_first, past_first, there_first, wrote_all_blocks, wrote_more_blocks, wrote_no_blocks}
use Rattle.rep_catchup.proofs.donor.write_tail.Goals as goal

pub loop-block-init : goal.loop-block-init
loop-block-init g c = record {
  leaves = leaves_all g.D.Disk c.args.replica.now _ tt c.requires;
  written = wrote_no_blocks g.D.Disk c.args.replica.now c.args.position (g.W.Sink.contents c.args.writer.now);
}

pub returns-in_err-block-clause-leaves : goal.returns-in_err-block-clause-leaves
returns-in_err-block-clause-leaves g c =
    let p = err_from_is_err_and c.from_residual.result c.from_residual.ensures.1 in
    let e = c.in_err-block.field-0.0 in
    let old = c.args.replica.now in
    let now = c.loop-block.replica in
    let new = c.tail_block.new.self in
    let left = c.loop-block.invariant.leaves in
    rw (p.1, p.2) (leaves_passed g.D.Disk old new _ _ e (leaves_then g.D.Disk old now new (g.W.Sink.failed c.args.writer.now) (g.W.Sink.failed c.loop-block.writer) (g.W.Sink.failed c.loop-block.writer) tt (Err e) left
    (leaves_asked g.D.Disk _ now new (g.W.Sink.failed c.loop-block.writer) (Err e) c.in_err-block.ensures.asks c.in_err-block.ensures.asked left.runs c.in_err-block.ensures.holds c.in_err-block.ensures.whole
    (λ h is. bad_block (as_seen g.D.Disk now.engine) now.engine.layout now.engine.checkpoint.base now.engine.log c.loop-block.index (Err e) (λ past. c.in_err-block.ensures.behind past left.runs) (c.in_err-block.ensures.spelled h) is))))

pub returns-in_err-block-clause-writes : goal.returns-in_err-block-clause-writes
returns-in_err-block-clause-writes g c =
    let p = err_from_is_err_and c.from_residual.result c.from_residual.ensures.1 in
    rw (p.1, p.2) (blocks_end g.D.Disk c.args.replica.now c.args.position c.loop-block.index (g.W.Sink.contents c.args.writer.now) (g.W.Sink.contents c.loop-block.writer) c.in_err-block.field-0.0 c.loop-block.invariant.written)

pub returns-in_err-write_block-clause-leaves : goal.returns-in_err-write_block-clause-leaves
returns-in_err-write_block-clause-leaves g c =
    let p = err_from_is_err_and c.from_residual-in_err-write_block.result c.from_residual-in_err-write_block.ensures.1 in
    let e = c.in_err-write_block.field-0.0 in
    let x = c.in_ok-block.field-0 in
    let old = c.args.replica.now in
    let now = c.loop-block.replica in
    let new = c.tail_block.new.self in
    let left = c.loop-block.invariant.leaves in
    let read = leaves_then g.D.Disk old now new (g.W.Sink.failed c.args.writer.now) (g.W.Sink.failed c.loop-block.writer) (g.W.Sink.failed c.loop-block.writer) tt (Ok x) left
    (leaves_asked g.D.Disk _ now new (g.W.Sink.failed c.loop-block.writer) (Ok x) c.in_ok-block.ensures.asks c.in_ok-block.ensures.asked left.runs c.in_ok-block.ensures.holds c.in_ok-block.ensures.whole
    (λ h is. bad_block (as_seen g.D.Disk now.engine) now.engine.layout now.engine.checkpoint.base now.engine.log c.loop-block.index (Ok x) (λ past. c.in_ok-block.ensures.behind past left.runs) (c.in_ok-block.ensures.spelled h) is)) in
    rw (p.1, p.2) (leaves_then g.D.Disk old new new _ _ _ x (Err e) read (leaves_cut g.D.Disk new _ _ e c.in_err-write_block.ensures.written.refused c.in_err-write_block.ensures.notes))

pub returns-in_err-write_block-clause-writes : goal.returns-in_err-write_block-clause-writes
returns-in_err-write_block-clause-writes g c =
    let p = err_from_is_err_and c.from_residual-in_err-write_block.result c.from_residual-in_err-write_block.ensures.1 in
    let x = c.in_ok-block.field-0 in
    let block = c.in-Some.block in
    let old = c.args.replica.now in
    let now = c.loop-block.replica in
    let left = c.loop-block.invariant.leaves in
    let due = due_first g.D.Disk old now left.reads c.loop-block.index x block c.in-Some.is c.in_ok-block.ensures.none in
    let form = form_first g.D.Disk old now left.reads c.loop-block.index x block c.in-Some.is c.in_ok-block.ensures.form in
    rw (p.1, p.2) (blocks_end_within g.D.Disk old c.args.position c.loop-block.index block.records (g.W.Sink.contents c.args.writer.now) (g.W.Sink.contents c.loop-block.writer) (g.W.Sink.contents c.write_block.new.writer) c.in_err-write_block.field-0.0 c.loop-block.invariant.written due form c.in_err-write_block.ensures.written)

pub loop-block-preserved : goal.loop-block-preserved
loop-block-preserved g c =
    let x = c.in_ok-block.field-0 in
    let block = c.in-Some.block in
    let old = c.args.replica.now in
    let now = c.loop-block.replica in
    let new = c.tail_block.new.self in
    let left = c.loop-block.invariant.leaves in
    let read = leaves_then g.D.Disk old now new (g.W.Sink.failed c.args.writer.now) (g.W.Sink.failed c.loop-block.writer) (g.W.Sink.failed c.loop-block.writer) tt (Ok x) left
    (leaves_asked g.D.Disk _ now new (g.W.Sink.failed c.loop-block.writer) (Ok x) c.in_ok-block.ensures.asks c.in_ok-block.ensures.asked left.runs c.in_ok-block.ensures.holds c.in_ok-block.ensures.whole
    (λ h is. bad_block (as_seen g.D.Disk now.engine) now.engine.layout now.engine.checkpoint.base now.engine.log c.loop-block.index (Ok x) (λ past. c.in_ok-block.ensures.behind past left.runs) (c.in_ok-block.ensures.spelled h) is)) in
    let due = due_first g.D.Disk old now left.reads c.loop-block.index x block c.in-Some.is c.in_ok-block.ensures.none in
    let form = form_first g.D.Disk old now left.reads c.loop-block.index x block c.in-Some.is c.in_ok-block.ensures.form in
    record {
      leaves = leaves_then g.D.Disk old new new _ _ _ x (Ok tt) read (leaves_noted g.D.Disk new _ _ tt c.in_ok-write_block.ensures.notes read.runs);
      written = wrote_more_blocks g.D.Disk old c.args.position c.the_tail_is_told.ensures c.loop-block.index block.records (g.W.Sink.contents c.args.writer.now) (g.W.Sink.contents c.loop-block.writer) (g.W.Sink.contents c.write_block.new.writer) c.loop-block.invariant.written due form
          (λ h. there_first g.D.Disk old now left.reads c.loop-block.index x block c.in-Some.is h (c.in_ok-block.ensures.spelled (left.reads.stays_honest h)).block)
          (λ n h.
          let here = subst (λ (o : Option Contents). IfSome o (λ b. IsTailBlock n now.engine.layout (g.D.Disk.history now.engine.disk) now.engine.checkpoint.base now.engine.log c.loop-block.index b.records)) c.in-Some.is
          (c.in_ok-block.ensures.block n (still_holds g.D.Disk old now _ _ tt n left h)) in
          block_at_first g.D.Disk n old now c.loop-block.index block.records left.reads h.engine.is_honest here)
          c.in_ok-write_block.ensures.written.done;
    }

pub returns-clause-leaves : goal.returns-clause-leaves
returns-clause-leaves g c =
    let x = c.in_ok-block.field-0 in
    let old = c.args.replica.now in
    let now = c.loop-block.replica in
    let new = c.tail_block.new.self in
    let left = c.loop-block.invariant.leaves in
    leaves_given g.D.Disk old new _ _ x tt (leaves_then g.D.Disk old now new (g.W.Sink.failed c.args.writer.now) (g.W.Sink.failed c.loop-block.writer) (g.W.Sink.failed c.loop-block.writer) tt (Ok x) left
    (leaves_asked g.D.Disk _ now new (g.W.Sink.failed c.loop-block.writer) (Ok x) c.in_ok-block.ensures.asks c.in_ok-block.ensures.asked left.runs c.in_ok-block.ensures.holds c.in_ok-block.ensures.whole
    (λ h is. bad_block (as_seen g.D.Disk now.engine) now.engine.layout now.engine.checkpoint.base now.engine.log c.loop-block.index (Ok x) (λ past. c.in_ok-block.ensures.behind past left.runs) (c.in_ok-block.ensures.spelled h) is)))

pub returns-clause-writes : goal.returns-clause-writes
returns-clause-writes g c =
    wrote_all_blocks g.D.Disk c.args.replica.now c.args.position c.loop-block.index (g.W.Sink.contents c.args.writer.now) (g.W.Sink.contents c.loop-block.writer) c.requires c.loop-block.invariant.written
    (past_first g.D.Disk c.args.replica.now c.loop-block.replica c.loop-block.invariant.leaves.reads c.loop-block.index c.in_ok-block.field-0 c.in_default.is c.in_ok-block.ensures.none)

pub returns-in_err-block-clause-asked : goal.returns-in_err-block-clause-asked
returns-in_err-block-clause-asked g c =
    let p = err_from_is_err_and c.from_residual.result c.from_residual.ensures.1 in
    rw (p.1, p.2) (λ part is. asked_part {T = Unit {0}} InLog part (Err c.in_err-block.field-0.0) (c.in_err-block.ensures.asks.running c.loop-block.invariant.leaves.runs).1 is)

pub returns-in_err-write_block-clause-asked : goal.returns-in_err-write_block-clause-asked
returns-in_err-write_block-clause-asked g c =
    let p = err_from_is_err_and c.from_residual-in_err-write_block.result c.from_residual-in_err-write_block.ensures.1 in
    let refused = c.in_err-write_block.ensures.written.refused in
    rw (p.1, p.2) (λ part is. absurd cc)
