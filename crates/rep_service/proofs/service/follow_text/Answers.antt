use Rattle.std.proofs.Common.{◌∙◌, Ok, Err, refl}
use Rattle.rep_types.specs.declared.refusal.Refusal.TheVariants.{Exhausted}
use Rattle.rep_lines.specs.Feeds.{ahead}
use Rattle.rep_follow.proofs.Noting.{source_kept, writer_kept}
use Rattle.rep_service.proofs.Following.{lines_none, lines_both, lines_as}
use Rattle.rep_service.proofs.service.follow_text.Goals as goal

pub loop-init : goal.loop-init
loop-init g c = record { lives = lines_none g.D.Disk c.parts_are_joined.ensures c.args.next.now c.args.replica.now (ahead c.args.input.now.feed (g.R.Source.remaining c.args.source.now)) _; source = refl; writer = refl }

pub returns-in-Ok-false-clause-lives : goal.returns-in-Ok-false-clause-lives
returns-in-Ok-false-clause-lives g c = lines_both g.D.Disk c.parts_are_joined.ensures _ _ _ _ _ _ _ _ _ _ _ _ (Ok tt) c.loop.invariant.lives c.in-Ok-false.ensures.lives

pub returns-in-Err-clause-lives : goal.returns-in-Err-clause-lives
returns-in-Err-clause-lives g c = lines_both g.D.Disk c.parts_are_joined.ensures _ _ _ _ _ _ _ _ _ _ _ _ (Err c.in-Err.refusal) c.loop.invariant.lives c.in-Err.ensures.lives

pub loop-preserved : goal.loop-preserved
loop-preserved g c = record {
  lives = lines_both g.D.Disk c.parts_are_joined.ensures _ _ _ _ _ _ _ _ _ _ _ _ (Ok tt) c.loop.invariant.lives c.in-Ok-true.ensures.lives;
  source = source_kept (g.R.Source.failed c.loop.source) (g.R.Source.failed c.follow_lines.new.source) (g.W.Sink.failed c.loop.writer) (g.W.Sink.failed c.follow_lines.new.writer) c.in-Ok-true.field-0 c.in-Ok-true.ensures.notes ∙ c.loop.invariant.source;
  writer = writer_kept (g.R.Source.failed c.loop.source) (g.R.Source.failed c.follow_lines.new.source) (g.W.Sink.failed c.loop.writer) (g.W.Sink.failed c.follow_lines.new.writer) c.in-Ok-true.field-0 c.in-Ok-true.ensures.notes ∙ c.loop.invariant.writer;
}

pub returns-clause-lives : goal.returns-clause-lives
returns-clause-lives g c = lines_as g.D.Disk c.parts_are_joined.ensures _ _ _ _ _ _ _ _ (Err Exhausted) (λ is. cc) c.loop.invariant.lives
