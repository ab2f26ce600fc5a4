use Rattle.std.proofs.Common.{refl}
use Rattle.rep_streams.proofs.Noted.{noted_ok}
use Rattle.rep_follow.proofs.Committing.{none_waits, some_waits}
use Rattle.rep_follow.proofs.Telling.{told_none, told_more, told_ended, told_blocks, told_idle, told_all, told_some}
use Rattle.rep_follow.proofs.Beginning.{block_smaller}
use Rattle.rep_follow.proofs.blocks.commit_all.Goals as goal

pub ahead-init : goal.ahead-init
ahead-init g c =
    told_none g.D.Disk c.args.replica.now c.args.counts.now (g.W.Sink.contents c.args.writer.now) (g.W.Sink.failed c.args.writer.now) c.limits.ensures c.requires.running

pub ahead-preserved : goal.ahead-preserved
ahead-preserved g c =
    let held = g.W.Sink.contents in
    let failed = g.W.Sink.failed in
    told_more g.D.Disk c.args.replica.now c.ahead.replica c.commit_and_begin.new.replica c.args.counts.now c.ahead.counts c.commit_and_begin.new.counts (held c.args.writer.now) (held c.ahead.writer) (held c.commit_and_begin.new.writer)
    (failed c.args.writer.now) (failed c.ahead.writer) (failed c.commit_and_begin.new.writer) c.ahead.invariant c.in_default.field-0 c.in_default.ensures.tells c.in_default.ensures.running
    (noted_ok _ _ _ c.in_default.ensures.notes)

pub ahead-smaller : goal.ahead-smaller
ahead-smaller g c =
    let held = g.W.Sink.contents in
    block_smaller g.D.Disk c.ahead.replica c.commit_and_begin.new.replica c.ahead.counts c.commit_and_begin.new.counts (held c.ahead.writer) (held c.commit_and_begin.new.writer) c.in_default.field-0 c.in_default.ensures.tells

pub returns-in-Err-clause-tells : goal.returns-in-Err-clause-tells
returns-in-Err-clause-tells g c =
    let held = g.W.Sink.contents in
    let failed = g.W.Sink.failed in
    told_ended g.D.Disk c.args.replica.now c.ahead.replica c.commit_and_begin.new.replica c.args.counts.now c.ahead.counts c.commit_and_begin.new.counts (held c.args.writer.now) (held c.ahead.writer) (held c.commit_and_begin.new.writer)
    (failed c.args.writer.now) (failed c.ahead.writer) (failed c.commit_and_begin.new.writer) c.ahead.invariant c.in-Err.refusal c.in-Err.ensures.tells

pub returns-in-Err-clause-begins : goal.returns-in-Err-clause-begins
returns-in-Err-clause-begins g c some =
    let held = g.W.Sink.contents in
    let failed = g.W.Sink.failed in
    told_blocks g.D.Disk c.args.replica.now c.ahead.replica c.commit_and_begin.new.replica c.args.counts.now c.ahead.counts c.commit_and_begin.new.counts (held c.args.writer.now) (held c.ahead.writer) (held c.commit_and_begin.new.writer)
    (failed c.args.writer.now) (failed c.ahead.writer) (failed c.commit_and_begin.new.writer) c.ahead.invariant _ c.in-Err.ensures.tells

pub returns-in-Err-clause-none : goal.returns-in-Err-clause-none
returns-in-Err-clause-none g c none =
    let held = g.W.Sink.contents in
    let failed = g.W.Sink.failed in
    absurd (told_idle g.D.Disk c.args.replica.now c.ahead.replica c.commit_and_begin.new.replica c.args.counts.now c.ahead.counts c.commit_and_begin.new.counts (held c.args.writer.now) (held c.ahead.writer) (held c.commit_and_begin.new.writer)
    (failed c.args.writer.now) (failed c.ahead.writer) (failed c.commit_and_begin.new.writer) c.ahead.invariant
    (some_waits g.D.Disk c.ahead.replica c.durable.result c.delivered.result c.durable.ensures.durable c.delivered.ensures.facts c.ahead.invariant.running c.ahead-test.true) none)

pub returns-clause-tells : goal.returns-clause-tells
returns-clause-tells g c =
    let held = g.W.Sink.contents in
    let failed = g.W.Sink.failed in
    told_all g.D.Disk c.args.replica.now c.ahead.replica c.args.counts.now c.ahead.counts (held c.args.writer.now) (held c.ahead.writer) (failed c.args.writer.now) (failed c.ahead.writer) c.ahead.invariant
    (none_waits g.D.Disk c.ahead.replica c.durable.result c.delivered.result c.durable.ensures.durable c.delivered.ensures.facts c.ahead.invariant.running c.ahead-test.false)

pub returns-clause-begins : goal.returns-clause-begins
returns-clause-begins g c =
    let held = g.W.Sink.contents in
    let failed = g.W.Sink.failed in
    told_some g.D.Disk c.args.replica.now c.ahead.replica c.args.counts.now c.ahead.counts (held c.args.writer.now) (held c.ahead.writer) (failed c.args.writer.now) (failed c.ahead.writer) c.ahead.invariant
    (none_waits g.D.Disk c.ahead.replica c.durable.result c.delivered.result c.durable.ensures.durable c.delivered.ensures.facts c.ahead.invariant.running c.ahead-test.false)

pub returns-clause-none : goal.returns-clause-none
returns-clause-none g c none = (refl, c.ahead.invariant.idle none)
