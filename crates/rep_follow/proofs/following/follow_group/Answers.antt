use Rattle.std.proofs.Common.{◌∙◌, ap, refl, Ok, Bool, Option, None, Some}
use Rattle.rep_follow.proofs.Groups.{group_refused, group_kept, group_failed, group_more, group_text}
use Rattle.rep_follow.specs.declared.following.End.{End}
use Rattle.rep_follow.specs.declared.following.End.TheVariants.{Text}
use Rattle.rep_streams.proofs.Noted.{noted_ok}
use Rattle.rep_follow.proofs.Noting.{either_done, either_writer, either_source}
use Rattle.rep_follow.proofs.following.follow_group.Goals as goal

pub returns-in-Err-commit : goal.returns-in-Err-commit
returns-in-Err-commit g c =
    let held = g.W.Sink.contents in
    let taken = rw c.in-Ok-false.field-0-test at c.in-Ok-false.ensures.takes in
    record {
      follows = group_kept g.D.Disk c.args.next.now c.take_lines.new.next c.args.replica.now c.take_lines.new.replica c.args.counts.now c.take_lines.new.counts c.args.feed.now c.take_lines.new.feed c.take_lines.new.line.items
          (held c.args.writer.now) (held c.take_lines.new.writer) taken c.commit.new.replica c.commit.new.counts (held c.commit.new.writer) (g.R.Source.remaining c.args.source.now) c.in-Err-commit.refusal c.in-Err-commit.ensures.refused c.in-Err-commit.ensures.tells.goes;
      notes = either_writer (Unit {0}) (Option End) (g.R.Source.failed c.args.source.now) (g.W.Sink.failed c.args.writer.now) (g.W.Sink.failed c.take_lines.new.writer) (g.W.Sink.failed c.commit.new.writer) c.in-Err-commit.refusal (noted_ok _ _ _ c.in-Ok-false.ensures.notes) c.in-Err-commit.ensures.notes;
    }

pub returns-in-Ok-true-ask_more : goal.returns-in-Ok-true-ask_more
returns-in-Ok-true-ask_more g c =
    let held = g.W.Sink.contents in
    let taken = rw c.in-Ok-false.field-0-test at c.in-Ok-false.ensures.takes in
    record {
      follows = group_more g.D.Disk c.args.next.now c.take_lines.new.next c.args.replica.now c.take_lines.new.replica c.args.counts.now c.take_lines.new.counts c.args.feed.now c.take_lines.new.feed c.take_lines.new.line.items
          (held c.args.writer.now) (held c.take_lines.new.writer) taken c.commit.new.replica c.commit.new.counts (held c.commit.new.writer) c.in_default.ensures.tells.goes c.in_default.ensures.tells.all c.ask_more.new.feed
          (g.R.Source.remaining c.args.source.now) (g.R.Source.remaining c.ask_more.new.source) c.ask_more.ensures.ahead (c.ask_more.ensures.read (c.in-Ok-true-ask_more.is ∙ ap Ok c.in-Ok-true-ask_more.field-0-test) taken.ends);
      notes = either_done (g.R.Source.failed c.args.source.now) (g.R.Source.failed c.ask_more.new.source) (g.W.Sink.failed c.args.writer.now) (g.W.Sink.failed c.commit.new.writer) None (noted_ok _ _ _ c.in-Ok-true-ask_more.ensures.notes) (noted_ok _ _ _ c.in_default.ensures.notes ∙ noted_ok _ _ _ c.in-Ok-false.ensures.notes);
    }

pub returns-in-Ok-false-ask_more : goal.returns-in-Ok-false-ask_more
returns-in-Ok-false-ask_more g c =
    let held = g.W.Sink.contents in
    let taken = rw c.in-Ok-false.field-0-test at c.in-Ok-false.ensures.takes in
    let at_end = c.ask_more.ensures.end (c.in-Ok-false-ask_more.is ∙ ap Ok c.in-Ok-false-ask_more.field-0-test) in
    record {
      follows = group_text g.D.Disk c.args.next.now c.take_lines.new.next c.args.replica.now c.take_lines.new.replica c.args.counts.now c.take_lines.new.counts c.args.feed.now c.take_lines.new.feed c.take_lines.new.line.items
          (held c.args.writer.now) (held c.take_lines.new.writer) taken c.commit.new.replica c.commit.new.counts (held c.commit.new.writer) c.in_default.ensures.tells.goes c.in_default.ensures.tells.all c.ask_more.new.feed
          (g.R.Source.remaining c.args.source.now) (g.R.Source.remaining c.ask_more.new.source) c.ask_more.ensures.ahead at_end.0 at_end.1;
      notes = either_done (g.R.Source.failed c.args.source.now) (g.R.Source.failed c.ask_more.new.source) (g.W.Sink.failed c.args.writer.now) (g.W.Sink.failed c.commit.new.writer) (Some Text) (noted_ok _ _ _ c.in-Ok-false-ask_more.ensures.notes) (noted_ok _ _ _ c.in_default.ensures.notes ∙ noted_ok _ _ _ c.in-Ok-false.ensures.notes);
    }

pub returns-in-Err-ask_more : goal.returns-in-Err-ask_more
returns-in-Err-ask_more g c =
    let held = g.W.Sink.contents in
    let taken = rw c.in-Ok-false.field-0-test at c.in-Ok-false.ensures.takes in
    record {
      follows = group_failed g.D.Disk c.args.next.now c.take_lines.new.next c.args.replica.now c.take_lines.new.replica c.args.counts.now c.take_lines.new.counts c.args.feed.now c.take_lines.new.feed c.take_lines.new.line.items
          (held c.args.writer.now) (held c.take_lines.new.writer) taken c.commit.new.replica c.commit.new.counts (held c.commit.new.writer) c.in_default.ensures.tells.goes c.in_default.ensures.tells.all c.ask_more.new.feed
          (g.R.Source.remaining c.args.source.now) (g.R.Source.remaining c.ask_more.new.source) c.ask_more.ensures.ahead c.in-Err-ask_more.refusal c.in-Err-ask_more.ensures.refused;
      notes = either_source Bool (Option End) (g.R.Source.failed c.args.source.now) (g.R.Source.failed c.ask_more.new.source) (g.W.Sink.failed c.args.writer.now) (g.W.Sink.failed c.commit.new.writer) c.in-Err-ask_more.refusal (noted_ok _ _ _ c.in_default.ensures.notes ∙ noted_ok _ _ _ c.in-Ok-false.ensures.notes) c.in-Err-ask_more.ensures.notes;
    }

pub returns-in-Err : goal.returns-in-Err
returns-in-Err g c =
    let held = g.W.Sink.contents in
    record {
      follows = group_refused g.D.Disk c.args.next.now c.take_lines.new.next c.args.replica.now c.take_lines.new.replica c.args.counts.now c.take_lines.new.counts c.args.feed.now c.take_lines.new.feed c.take_lines.new.line.items
          (held c.args.writer.now) (held c.take_lines.new.writer) (g.R.Source.remaining c.args.source.now) c.in-Err.refusal c.in-Err.ensures.takes;
      notes = either_writer Bool (Option End) (g.R.Source.failed c.args.source.now) (g.W.Sink.failed c.args.writer.now) (g.W.Sink.failed c.args.writer.now) (g.W.Sink.failed c.take_lines.new.writer) c.in-Err.refusal refl c.in-Err.ensures.notes;
    }
