use Rattle.std.proofs.Common.{◌+◌, ◌∙◌, Ok, Err, refl, arith}
use Rattle.rep_lines.specs.Feeds.{ahead}
use Rattle.rep_streams.proofs.Noted.{noted_ok}
use Rattle.rep_follow.proofs.Noting.{source_kept, writer_kept}
use Rattle.rep_service.proofs.Saying.{own_ok, own_by, own_fault}
use Rattle.rep_service.proofs.Reaching.{passes_item, passes_end}
use Rattle.rep_service.proofs.Records.{old_none, old_more, old_end}
use Rattle.rep_service.specs.Saying.{Old}
use Rattle.rep_service.proofs.Passed.{writes_old, passes_none, passes_both, passes_reached, passes_ended, passes_not}
use Rattle.rep_service.proofs.past.pass_old.Goals as goal

pub old-init : goal.old-init
old-init g c =
    let text = ahead c.args.input.now.feed (g.R.Source.remaining c.args.source.now) in
    record {
      passes = old_none c.base-base.result c.args.position.now text;
      lives = passes_none g.D.Disk c.base-base.result (λ j. ⊥) c.parts_are_joined.ensures c.args.position.now c.args.replica.now text (g.W.Sink.contents c.args.writer.now) (Ok tt) own_ok;
      within = λ within. within;
      told = c.requires.told;
      source = refl;
      writer = refl;
    }

pub returns-in-Ok-None-clause-passes : goal.returns-in-Ok-None-clause-passes
returns-in-Ok-None-clause-passes g c =
    let rest = g.R.Source.remaining in
    let reached = rw c.in-Ok-None.field-0-is at c.in-Ok-None.ensures.reaches in
    let ended = old_end c.base-base.result c.args.position.now (ahead c.args.input.now.feed (rest c.args.source.now)) _ _ c.old.position c.old.invariant.passes (passes_end g.D.Disk c.old.position c.old.replica c.next_item.new.replica _ _ _ _ _ _ reached) in
    rw c.base-base.ensures at ended

pub old-preserved : goal.old-preserved
old-preserved g c =
    let rest = g.R.Source.remaining in
    let reached = rw c.in-Ok-Some.field-0-is at c.in-Ok-Some.ensures.reaches in
    let writes = writes_old (c.old.position + 1) _ _ (Ok tt) c.in_default.ensures.ok c.in_default.ensures.cut c.in_default.ensures.refused in
    record {
      passes = old_more c.base-base.result c.args.position.now (ahead c.args.input.now.feed (rest c.args.source.now)) _ _ c.in-Ok-Some.field-0-0 c.old.position (c.old.position + 1) c.old.invariant.passes
          (passes_item g.D.Disk c.old.position c.old.replica c.next_item.new.replica _ _ _ _ _ _ c.in-Ok-Some.field-0-0 (c.old.position + 1) reached refl);
      lives = passes_both g.D.Disk c.base-base.result (λ j. ⊥) c.parts_are_joined.ensures c.args.position.now c.old.position (c.old.position + 1) c.args.replica.now c.old.replica c.next_item.new.replica _ _ _ _ _ _ (Ok tt) c.old.invariant.lives
          (passes_reached g.D.Disk c.base-base.result (λ j. ⊥) c.parts_are_joined.ensures c.old.position _ _ c.old.replica c.next_item.new.replica _ _ _ _ _ c.in-Ok-Some.field-0-0 (Old (c.old.position + 1)) (c.old.position + 1) (Ok tt) reached refl refl refl refl (omega (arith, c.old-test.true)) writes (λ n L more holds of. tt) own_ok refl);
      within = λ within. omega (arith, c.old-test.true, c.base-base.ensures, c.requires.based);
      told = c.in-Ok-Some.ensures.ahead;
      source = source_kept (g.R.Source.failed c.old.source) (g.R.Source.failed c.next_item.new.source) (g.W.Sink.failed c.old.writer) (g.W.Sink.failed c.next_item.new.writer) c.in-Ok-Some.field-0 c.in-Ok-Some.ensures.notes ∙ c.old.invariant.source;
      writer = noted_ok _ _ _ c.in_default.ensures.notes ∙ writer_kept (g.R.Source.failed c.old.source) (g.R.Source.failed c.next_item.new.source) (g.W.Sink.failed c.old.writer) (g.W.Sink.failed c.next_item.new.writer) c.in-Ok-Some.field-0 c.in-Ok-Some.ensures.notes ∙ c.old.invariant.writer;
    }

pub returns-in-Ok-None-clause-lives : goal.returns-in-Ok-None-clause-lives
returns-in-Ok-None-clause-lives g c =
    let reached = rw c.in-Ok-None.field-0-is at c.in-Ok-None.ensures.reaches in
    let lives = passes_both g.D.Disk c.base-base.result (λ j. ⊥) c.parts_are_joined.ensures c.args.position.now c.old.position c.old.position c.args.replica.now c.old.replica c.next_item.new.replica _ _ _ _ _ _ (Ok tt) c.old.invariant.lives
    (passes_ended g.D.Disk c.base-base.result (λ j. ⊥) c.old.position _ _ c.old.replica c.next_item.new.replica _ _ _ _ reached) in
    rw c.base-base.ensures at lives

pub returns-in-Err-clause-lives : goal.returns-in-Err-clause-lives
returns-in-Err-clause-lives g c =
    let lives = passes_both g.D.Disk c.base-base.result (λ j. ⊥) c.parts_are_joined.ensures c.args.position.now c.old.position c.old.position c.args.replica.now c.old.replica c.next_item.new.replica _ _ _ _ _ _ (Err c.in-Err.refusal) c.old.invariant.lives
    (passes_not g.D.Disk c.base-base.result (λ j. ⊥) c.old.position c.old.replica c.next_item.new.replica _ _ c.old.position _ _ c.in-Err.refusal c.in-Err.ensures.reaches) in
    rw c.base-base.ensures at lives

pub returns-in-Err-write_old-clause-lives : goal.returns-in-Err-write_old-clause-lives
returns-in-Err-write_old-clause-lives g c =
    let reached = rw c.in-Ok-Some.field-0-is at c.in-Ok-Some.ensures.reaches in
    let writes = writes_old (c.old.position + 1) _ _ (Err c.in-Err-write_old.refusal) c.in-Err-write_old.ensures.ok c.in-Err-write_old.ensures.cut c.in-Err-write_old.ensures.refused in
    let lives = passes_both g.D.Disk c.base-base.result (λ j. ⊥) c.parts_are_joined.ensures c.args.position.now c.old.position c.old.position c.args.replica.now c.old.replica c.next_item.new.replica _ _ _ _ _ _ (Err c.in-Err-write_old.refusal) c.old.invariant.lives
    (passes_reached g.D.Disk c.base-base.result (λ j. ⊥) c.parts_are_joined.ensures c.old.position _ _ c.old.replica c.next_item.new.replica _ _ _ _ _ c.in-Ok-Some.field-0-0 (Old (c.old.position + 1)) c.old.position (Err c.in-Err-write_old.refusal) reached refl refl refl refl (omega (arith, c.old-test.true)) writes (λ n L more holds of. tt) (own_by c.in-Err-write_old.refusal (own_fault c.in-Err-write_old.refusal c.in-Err-write_old.ensures.refused)) tt) in
    rw c.base-base.ensures at lives

pub returns-clause-lives : goal.returns-clause-lives
returns-clause-lives g c = rw c.base-base.ensures at c.old.invariant.lives
