use Rattle.std.proofs.Common.{◌∙◌, Ok, Some, Option, refl, arith}
use Rattle.rep_lines.specs.Feeds.{ahead}
use Rattle.rep_follow.proofs.Groups.{took_none, took_behind, follows_behind, took_ended}
use Rattle.rep_follow.specs.declared.following.End.{End}
use Rattle.rep_follow.proofs.Noting.{either_done, either_err, source_kept, writer_kept}
use Rattle.rep_follow.proofs.following.follow_items.Goals as goal

pub loop-init : goal.loop-init
loop-init g c =
    record { source = refl; writer = refl; took = took_none g.D.Disk c.args.replica.now c.args.counts.now (g.R.Source.remaining c.args.source.now) (ahead c.args.feed.now (g.R.Source.remaining c.args.source.now)) (g.W.Sink.contents c.args.writer.now) c.args.next.now c.limits.ensures }

pub returns-in-Ok-Some : goal.returns-in-Ok-Some
returns-in-Ok-Some g c =
    let held = g.W.Sink.contents in
    let rest = g.R.Source.remaining in
    let group = rw c.in-Ok-Some.field-0-is at c.in-Ok-Some.ensures.follows in
    record {
      follows = follows_behind g.D.Disk c.args.next.now c.loop.next c.follow_group.new.next c.loop.counter c.args.replica.now c.loop.replica c.follow_group.new.replica c.args.counts.now c.loop.counts c.follow_group.new.counts c.follow_group.new.feed (rest c.args.source.now) (rest c.loop.source) (rest c.follow_group.new.source)
          (ahead c.args.feed.now (rest c.args.source.now)) (ahead c.loop.feed (rest c.loop.source)) (ahead c.follow_group.new.feed (rest c.follow_group.new.source)) c.follow_group.new.line.items
          (held c.args.writer.now) (held c.loop.writer) (held c.follow_group.new.writer) c.loop.invariant.took (Ok (Some c.in-Ok-Some.end)) group;
      notes = either_done (g.R.Source.failed c.args.source.now) (g.R.Source.failed c.follow_group.new.source) (g.W.Sink.failed c.args.writer.now) (g.W.Sink.failed c.follow_group.new.writer) c.in-Ok-Some.end (source_kept (g.R.Source.failed c.loop.source) (g.R.Source.failed c.follow_group.new.source) (g.W.Sink.failed c.loop.writer) (g.W.Sink.failed c.follow_group.new.writer) c.in-Ok-Some.field-0 c.in-Ok-Some.ensures.notes ∙ c.loop.invariant.source) (writer_kept (g.R.Source.failed c.loop.source) (g.R.Source.failed c.follow_group.new.source) (g.W.Sink.failed c.loop.writer) (g.W.Sink.failed c.follow_group.new.writer) c.in-Ok-Some.field-0 c.in-Ok-Some.ensures.notes ∙ c.loop.invariant.writer);
    }

pub returns-in-Err : goal.returns-in-Err
returns-in-Err g c =
    let held = g.W.Sink.contents in
    let rest = g.R.Source.remaining in
    record {
      follows = follows_behind g.D.Disk c.args.next.now c.loop.next c.follow_group.new.next c.loop.counter c.args.replica.now c.loop.replica c.follow_group.new.replica c.args.counts.now c.loop.counts c.follow_group.new.counts c.follow_group.new.feed (rest c.args.source.now) (rest c.loop.source) (rest c.follow_group.new.source)
          (ahead c.args.feed.now (rest c.args.source.now)) (ahead c.loop.feed (rest c.loop.source)) (ahead c.follow_group.new.feed (rest c.follow_group.new.source)) c.follow_group.new.line.items
          (held c.args.writer.now) (held c.loop.writer) (held c.follow_group.new.writer) c.loop.invariant.took _ c.in-Err.ensures.follows;
      notes = either_err (Option End) End (g.R.Source.failed c.args.source.now) (g.R.Source.failed c.loop.source) (g.R.Source.failed c.follow_group.new.source) (g.W.Sink.failed c.args.writer.now) (g.W.Sink.failed c.loop.writer) (g.W.Sink.failed c.follow_group.new.writer) c.in-Err.refusal c.loop.invariant.source c.loop.invariant.writer c.in-Err.ensures.notes;
    }

pub loop-preserved : goal.loop-preserved
loop-preserved g c =
    let held = g.W.Sink.contents in
    let rest = g.R.Source.remaining in
    let group = rw c.in-Ok-None.field-0-is at c.in-Ok-None.ensures.follows in
    record {
      took = took_behind g.D.Disk c.args.next.now c.loop.next c.follow_group.new.next c.loop.counter c.args.replica.now c.loop.replica c.follow_group.new.replica c.args.counts.now c.loop.counts c.follow_group.new.counts c.follow_group.new.feed (rest c.args.source.now) (rest c.loop.source) (rest c.follow_group.new.source)
          (ahead c.args.feed.now (rest c.args.source.now)) (ahead c.loop.feed (rest c.loop.source)) (ahead c.follow_group.new.feed (rest c.follow_group.new.source)) c.follow_group.new.line.items
          (held c.args.writer.now) (held c.loop.writer) (held c.follow_group.new.writer) c.loop.invariant.took group;
      source = (source_kept (g.R.Source.failed c.loop.source) (g.R.Source.failed c.follow_group.new.source) (g.W.Sink.failed c.loop.writer) (g.W.Sink.failed c.follow_group.new.writer) c.in-Ok-None.field-0 c.in-Ok-None.ensures.notes ∙ c.loop.invariant.source);
      writer = (writer_kept (g.R.Source.failed c.loop.source) (g.R.Source.failed c.follow_group.new.source) (g.W.Sink.failed c.loop.writer) (g.W.Sink.failed c.follow_group.new.writer) c.in-Ok-None.field-0 c.in-Ok-None.ensures.notes ∙ c.loop.invariant.writer);
    }

pub returns-clause-follows : goal.returns-clause-follows
returns-clause-follows g c =
    let held = g.W.Sink.contents in
    let rest = g.R.Source.remaining in
    took_ended g.D.Disk c.args.next.now c.loop.next c.loop.counter c.args.replica.now c.loop.replica c.args.counts.now c.loop.counts c.loop.feed (rest c.args.source.now) (rest c.loop.source) (ahead c.args.feed.now (rest c.args.source.now)) (ahead c.loop.feed (rest c.loop.source))
    c.loop.line.items (held c.args.writer.now) (held c.loop.writer) (let done = c.loop-test.false in omega arith) c.loop.invariant.took
