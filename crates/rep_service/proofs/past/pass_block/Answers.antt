use Rattle.std.proofs.Common.{◌∙◌, [], Ok, Err, ap, subst, refl, arith}
use Rattle.std.specs.Prelude.{Contains}
use Rattle.std.proofs.lemmas.Bool.{le-ltb}
use Rattle.rep_lines.specs.Feeds.{ahead}
use Rattle.rep_follow.proofs.Noting.{source_kept, writer_kept}
use Rattle.rep_service.proofs.Saying.{own_ok}
use Rattle.rep_service.proofs.Records.{RecordsSo, records_none, records_skip, records_more, records_end}
use Rattle.rep_service.proofs.Passed.{passes_none, split_more, passes_more, durable_kept}
use Rattle.rep_service.proofs.past.pass_block.Goals as goal

pub records-preserved-in-Ok-true : goal.records-preserved-in-Ok-true
records-preserved-in-Ok-true g c =
    let rest = g.R.Source.remaining in
    let text = ahead c.args.input.now.feed (rest c.args.source.now) in
    let mid = ahead c.records.input.feed (rest c.records.source) in
    let behind = ahead c.pass_record.new.input.feed (rest c.pass_record.new.source) in
    let so = subst (λ left. RecordsSo c.args.block.records left c.args.position.now text mid c.records.position) (ap (λ b. b.records) c.in-Some.ensures) c.records.invariant.passes in
    let passed = c.in-Ok-true.ensures.passes c.in-Ok-true.field-0-test in
    record {
      passes = records_more c.args.block.records c.in-Some.judged c.next_record.new.self.records c.args.position.now text mid c.records.position so behind c.pass_record.new.position c.if-judged-position.true passed.0 passed.1;
      split = split_more c.records.invariant.split (ap (λ b. b.records) c.in-Some.ensures);
      lives = passes_more g.D.Disk c.parts_are_joined.ensures c.args.block.records c.records.invariant.split (ap (λ b. b.records) c.in-Some.ensures) c.args.position.now c.records.position c.pass_record.new.position c.args.replica.now c.records.replica c.pass_record.new.replica _ _ _ _ _ _ (Ok tt) c.records.invariant.lives c.in-Ok-true.ensures.lives;
      within = λ within. (let kept = durable_kept g.D.Disk c.args.replica.now c.records.replica c.records.invariant.lives.said _ _ c.records.invariant.lives.still c.records.invariant.lives.lives in let risen = c.in-Ok-true.ensures.within (omega (arith, kept, c.records.invariant.within within)) in omega (arith, kept, risen));
      told = c.in-Ok-true.ensures.ahead;
      source = source_kept (g.R.Source.failed c.records.source) (g.R.Source.failed c.pass_record.new.source) (g.W.Sink.failed c.records.writer) (g.W.Sink.failed c.pass_record.new.writer) c.in-Ok-true.field-0 c.in-Ok-true.ensures.notes ∙ c.records.invariant.source;
      writer = writer_kept (g.R.Source.failed c.records.source) (g.R.Source.failed c.pass_record.new.source) (g.W.Sink.failed c.records.writer) (g.W.Sink.failed c.pass_record.new.writer) c.in-Ok-true.field-0 c.in-Ok-true.ensures.notes ∙ c.records.invariant.writer;
    }

pub records-preserved : goal.records-preserved
records-preserved g c =
    let rest = g.R.Source.remaining in
    let text = ahead c.args.input.now.feed (rest c.args.source.now) in
    let mid = ahead c.records.input.feed (rest c.records.source) in
    let so = subst (λ left. RecordsSo c.args.block.records left c.args.position.now text mid c.records.position) (ap (λ b. b.records) c.in-Some.ensures) c.records.invariant.passes in
    record {
      passes = records_skip c.args.block.records c.in-Some.judged c.next_record.new.self.records c.args.position.now text mid c.records.position so (le-ltb c.records.position c.in-Some.judged.seqno c.if-judged-position.false);
      split = split_more c.records.invariant.split (ap (λ b. b.records) c.in-Some.ensures);
      lives = c.records.invariant.lives;
      within = c.records.invariant.within;
      told = c.records.invariant.told;
      source = c.records.invariant.source;
      writer = c.records.invariant.writer;
    }

pub returns-in-Ok-false-clause-passes : goal.returns-in-Ok-false-clause-passes
returns-in-Ok-false-clause-passes g c =
    let rest = g.R.Source.remaining in
    let text = ahead c.args.input.now.feed (rest c.args.source.now) in
    let mid = ahead c.records.input.feed (rest c.records.source) in
    let behind = ahead c.pass_record.new.input.feed (rest c.pass_record.new.source) in
    let so = subst (λ left. RecordsSo c.args.block.records left c.args.position.now text mid c.records.position) (ap (λ b. b.records) c.in-Some.ensures) c.records.invariant.passes in
    let ended = c.in-Ok-false.ensures.ended c.in-Ok-false.field-0-test in
    records_end c.args.block.records c.in-Some.judged c.next_record.new.self.records c.args.position.now text mid c.records.position so behind c.pass_record.new.position c.if-judged-position.true ended.0

pub returns-in-Ok-false-clause-lives : goal.returns-in-Ok-false-clause-lives
returns-in-Ok-false-clause-lives g c = passes_more g.D.Disk c.parts_are_joined.ensures c.args.block.records c.records.invariant.split (ap (λ b. b.records) c.in-Some.ensures) c.args.position.now c.records.position c.pass_record.new.position c.args.replica.now c.records.replica c.pass_record.new.replica _ _ _ _ _ _ (Ok tt) c.records.invariant.lives c.in-Ok-false.ensures.lives

pub returns-in-Err-clause-lives : goal.returns-in-Err-clause-lives
returns-in-Err-clause-lives g c = passes_more g.D.Disk c.parts_are_joined.ensures c.args.block.records c.records.invariant.split (ap (λ b. b.records) c.in-Some.ensures) c.args.position.now c.records.position c.pass_record.new.position c.args.replica.now c.records.replica c.pass_record.new.replica _ _ _ _ _ _ (Err c.in-Err.refusal) c.records.invariant.lives c.in-Err.ensures.lives

pub returns-in-Ok-false-clause-within : goal.returns-in-Ok-false-clause-within
returns-in-Ok-false-clause-within g c = λ within. (let kept = durable_kept g.D.Disk c.args.replica.now c.records.replica c.records.invariant.lives.said _ _ c.records.invariant.lives.still c.records.invariant.lives.lives in let risen = c.in-Ok-false.ensures.within (omega (arith, kept, c.records.invariant.within within)) in omega (arith, kept, risen))

pub records-init : goal.records-init
records-init g c =
    let text = ahead c.args.input.now.feed (g.R.Source.remaining c.args.source.now) in
    record { passes = records_none c.args.block.records c.args.position.now text; split = ([], refl); lives = passes_none g.D.Disk 0 (Contains c.args.block.records) c.parts_are_joined.ensures c.args.position.now c.args.replica.now text _ (Ok tt) own_ok; within = λ within. within; told = c.requires; source = refl; writer = refl }
