use Rattle.std.proofs.Common.{[], Ok, Err, refl, sym, ◌∙◌}
use Rattle.rep_follow.specs.Taking.{taken_by}
use Rattle.rep_follow.proofs.Committing.{goes_both}
use Rattle.rep_follow.proofs.Beginning.{block_goes}
use Rattle.rep_follow.proofs.Rooms.{makes_room, needs_none}
use Rattle.rep_follow.proofs.Stops.{delivery_why, block_why}
use Rattle.rep_streams.proofs.Noted.{noted_ok}
use Rattle.rep_follow.proofs.Noting.{noted_own}
use Rattle.rep_follow.proofs.taking.take.Goals as goal

pub returns-then-not-is_backlogged-clause-goes : goal.returns-then-not-is_backlogged-clause-goes
returns-then-not-is_backlogged-clause-goes g c = c.deliver_counted.ensures.goes (g.W.Sink.contents c.args.writer.now)

pub returns-then-not-is_backlogged-clause-takes : goal.returns-then-not-is_backlogged-clause-takes
returns-then-not-is_backlogged-clause-takes g c = record {
  mid = c.args.replica.now;
  between = c.args.counts.now;
  made = Ok tt;
  room = needs_none g.D.Disk c.args.replica.now c.args.counts.now (g.W.Sink.contents c.args.writer.now) (sym c.is_backlogged.ensures ∙ c.if-not-is_backlogged.true);
  delivers = c.deliver_counted.ensures.delivers;
}

pub returns-then-not-is_backlogged-clause-refused : goal.returns-then-not-is_backlogged-clause-refused
returns-then-not-is_backlogged-clause-refused g c = delivery_why g.D.Disk c.deliver_counted.new.replica c.args.seqno c.args.item.now c.deliver_counted.result c.deliver_counted.ensures.refused

pub returns-in-Ok : goal.returns-in-Ok
returns-in-Ok g c =
    let held = g.W.Sink.contents in
    record {
      goes = goes_both g.D.Disk c.args.replica.now c.commit_and_begin.new.replica c.deliver_counted-in-Ok.new.replica [] (taken_by c.args.item.now c.deliver_counted-in-Ok.result) [] [] c.args.counts.now c.commit_and_begin.new.counts c.deliver_counted-in-Ok.new.counts
          (held c.args.writer.now) (held c.commit_and_begin.new.writer) (held c.commit_and_begin.new.writer) tt c.deliver_counted-in-Ok.result
          (block_goes g.D.Disk c.args.replica.now c.commit_and_begin.new.replica c.args.counts.now c.commit_and_begin.new.counts (held c.args.writer.now) (held c.commit_and_begin.new.writer) (Ok c.in-Ok.field-0) c.in-Ok.ensures.tells)
          (c.deliver_counted-in-Ok.ensures.goes (held c.commit_and_begin.new.writer));
      takes = record {
        mid = c.commit_and_begin.new.replica;
        between = c.commit_and_begin.new.counts;
        made = Ok c.in-Ok.field-0;
        room = makes_room g.D.Disk c.args.replica.now (c.commit_and_begin.new.replica) c.args.counts.now c.commit_and_begin.new.counts (held c.args.writer.now) (held c.commit_and_begin.new.writer) (Ok c.in-Ok.field-0) (sym c.is_backlogged.ensures ∙ c.if-not-is_backlogged.false) c.in-Ok.ensures.tells;
        delivers = c.deliver_counted-in-Ok.ensures.delivers;
      };
      notes = noted_own (g.W.Sink.failed c.args.writer.now) (g.W.Sink.failed c.commit_and_begin.new.writer) c.deliver_counted-in-Ok.result (noted_ok _ _ _ c.in-Ok.ensures.notes) c.deliver_counted-in-Ok.ensures.own;
      refused = delivery_why g.D.Disk c.deliver_counted-in-Ok.new.replica c.args.seqno c.args.item.now c.deliver_counted-in-Ok.result c.deliver_counted-in-Ok.ensures.refused;
    }

pub returns-in-Err : goal.returns-in-Err
returns-in-Err g c =
    record {
      goes = block_goes g.D.Disk c.args.replica.now c.commit_and_begin.new.replica c.args.counts.now c.commit_and_begin.new.counts (g.W.Sink.contents c.args.writer.now) (g.W.Sink.contents c.commit_and_begin.new.writer) (Err c.in-Err.refusal) c.in-Err.ensures.tells;
      takes = record {
        mid = c.commit_and_begin.new.replica;
        between = c.commit_and_begin.new.counts;
        made = Err c.in-Err.refusal;
        room = makes_room g.D.Disk c.args.replica.now (c.commit_and_begin.new.replica) c.args.counts.now c.commit_and_begin.new.counts (g.W.Sink.contents c.args.writer.now) (g.W.Sink.contents c.commit_and_begin.new.writer) (Err c.in-Err.refusal) (sym c.is_backlogged.ensures ∙ c.if-not-is_backlogged.false) c.in-Err.ensures.tells;
        delivers = (refl, refl);
      };
      notes = c.in-Err.ensures.notes;
      refused = block_why g.D.Disk c.commit_and_begin.new.replica c.args.seqno c.args.item.now c.in-Err.refusal c.in-Err.ensures.refused;
    }
