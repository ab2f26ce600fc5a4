use Rattle.std.proofs.Common.{◌∙◌, Ok, Err, refl, arith}
use Rattle.rep_types.specs.declared.refusal.Refusal.TheVariants.{Corrupt, Exhausted}
use Rattle.rep_types.specs.declared.refusal.Part.TheVariants.{Log}
use Rattle.rep_lines.specs.Feeds.{ahead}
use Rattle.rep_follow.proofs.Noting.{source_kept, writer_kept}
use Rattle.rep_service.specs.Living.{IsOfLog}
use Rattle.rep_service.proofs.Saying.{own_ok, own_by}
use Rattle.rep_service.proofs.Own.{own_asked}
use Rattle.rep_service.proofs.Passed.{durable_kept, passes_as, passes_none, passes_both, passes_asked, passes_weaker, of_log}
use Rattle.rep_service.proofs.past.pass_blocks.Goals as goal

pub loop-index-init : goal.loop-index-init
loop-index-init g c = record {
  lives = passes_none g.D.Disk 0 (IsOfLog g.D.Disk c.args.replica.now) c.parts_are_joined.ensures c.args.position.now c.args.replica.now (ahead c.args.input.now.feed (g.R.Source.remaining c.args.source.now)) _ (Ok tt) own_ok;
  within = λ within. within;
  ahead = c.requires;
  source = refl;
  writer = refl;
}

pub returns-in-Ok-None-clause-lives : goal.returns-in-Ok-None-clause-lives
returns-in-Ok-None-clause-lives g c = passes_asked g.D.Disk 0 (IsOfLog g.D.Disk c.args.replica.now) c.parts_are_joined.ensures c.going_is_joined.ensures c.args.position.now c.args.replica.now c.loop-index.replica c.tail_block.new.self _ _ c.loop-index.position _ _ (Err (Corrupt Log)) (λ is. cc) c.loop-index.invariant.lives c.tail_block.ensures.asked

pub returns-in-Err-clause-lives : goal.returns-in-Err-clause-lives
returns-in-Err-clause-lives g c = passes_asked g.D.Disk 0 (IsOfLog g.D.Disk c.args.replica.now) c.parts_are_joined.ensures c.going_is_joined.ensures c.args.position.now c.args.replica.now c.loop-index.replica c.tail_block.new.self _ _ c.loop-index.position _ _ (Err c.in-Err.refusal) (own_by c.in-Err.refusal (own_asked g.D.Disk _ _ c.loop-index.replica c.tail_block.new.self c.in-Err.refusal (rw c.in-Err.is at c.tail_block.ensures.asks))) c.loop-index.invariant.lives c.tail_block.ensures.asked

pub returns-in-Ok-false-clause-lives : goal.returns-in-Ok-false-clause-lives
returns-in-Ok-false-clause-lives g c =
    let of = of_log g.D.Disk c.args.replica.now c.loop-index.replica c.loop-index.invariant.lives.said _ _ c.loop-index.invariant.lives.still c.loop-index.invariant.lives.lives c.loop-index.index (λ n holds. rw c.in-Ok-Some.field-0-is at (c.in-Ok-Some.ensures.block n holds)) in
    let asked = passes_asked g.D.Disk 0 (IsOfLog g.D.Disk c.args.replica.now) c.parts_are_joined.ensures c.going_is_joined.ensures c.args.position.now c.args.replica.now c.loop-index.replica c.tail_block.new.self _ _ c.loop-index.position _ _ (Ok tt) own_ok c.loop-index.invariant.lives c.tail_block.ensures.asked in
    passes_both g.D.Disk 0 (IsOfLog g.D.Disk c.args.replica.now) c.parts_are_joined.ensures c.args.position.now c.loop-index.position c.pass_block.new.position c.args.replica.now c.tail_block.new.self c.pass_block.new.replica _ _ _ _ _ _ (Ok tt) asked (passes_weaker g.D.Disk 0 0 _ (IsOfLog g.D.Disk c.args.replica.now) (omega arith) of c.loop-index.position c.tail_block.new.self c.pass_block.new.replica _ _ c.pass_block.new.position _ _ (Ok tt) c.in-Ok-false.ensures.lives)

pub returns-in-Err-pass_block-clause-lives : goal.returns-in-Err-pass_block-clause-lives
returns-in-Err-pass_block-clause-lives g c =
    let of = of_log g.D.Disk c.args.replica.now c.loop-index.replica c.loop-index.invariant.lives.said _ _ c.loop-index.invariant.lives.still c.loop-index.invariant.lives.lives c.loop-index.index (λ n holds. rw c.in-Ok-Some.field-0-is at (c.in-Ok-Some.ensures.block n holds)) in
    let asked = passes_asked g.D.Disk 0 (IsOfLog g.D.Disk c.args.replica.now) c.parts_are_joined.ensures c.going_is_joined.ensures c.args.position.now c.args.replica.now c.loop-index.replica c.tail_block.new.self _ _ c.loop-index.position _ _ (Ok tt) own_ok c.loop-index.invariant.lives c.tail_block.ensures.asked in
    passes_both g.D.Disk 0 (IsOfLog g.D.Disk c.args.replica.now) c.parts_are_joined.ensures c.args.position.now c.loop-index.position c.pass_block.new.position c.args.replica.now c.tail_block.new.self c.pass_block.new.replica _ _ _ _ _ _ (Err c.in-Err-pass_block.refusal) asked (passes_weaker g.D.Disk 0 0 _ (IsOfLog g.D.Disk c.args.replica.now) (omega arith) of c.loop-index.position c.tail_block.new.self c.pass_block.new.replica _ _ c.pass_block.new.position _ _ (Err c.in-Err-pass_block.refusal) c.in-Err-pass_block.ensures.lives)

pub loop-index-preserved : goal.loop-index-preserved
loop-index-preserved g c =
    let of = of_log g.D.Disk c.args.replica.now c.loop-index.replica c.loop-index.invariant.lives.said _ _ c.loop-index.invariant.lives.still c.loop-index.invariant.lives.lives c.loop-index.index (λ n holds. rw c.in-Ok-Some.field-0-is at (c.in-Ok-Some.ensures.block n holds)) in
    let asked = passes_asked g.D.Disk 0 (IsOfLog g.D.Disk c.args.replica.now) c.parts_are_joined.ensures c.going_is_joined.ensures c.args.position.now c.args.replica.now c.loop-index.replica c.tail_block.new.self _ _ c.loop-index.position _ _ (Ok tt) own_ok c.loop-index.invariant.lives c.tail_block.ensures.asked in
    let kept = durable_kept g.D.Disk c.args.replica.now c.tail_block.new.self asked.said _ _ asked.still asked.lives in
    record {
      lives = passes_both g.D.Disk 0 (IsOfLog g.D.Disk c.args.replica.now) c.parts_are_joined.ensures c.args.position.now c.loop-index.position c.pass_block.new.position c.args.replica.now c.tail_block.new.self c.pass_block.new.replica _ _ _ _ _ _ (Ok tt) asked (passes_weaker g.D.Disk 0 0 _ (IsOfLog g.D.Disk c.args.replica.now) (omega arith) of c.loop-index.position c.tail_block.new.self c.pass_block.new.replica _ _ c.pass_block.new.position _ _ (Ok tt) c.in-Ok-true.ensures.lives);
      within = λ within. (let risen = c.in-Ok-true.ensures.within (omega (arith, kept, c.loop-index.invariant.within within)) in omega (arith, kept, risen));
      ahead = c.in-Ok-true.ensures.ahead;
      source = source_kept (g.R.Source.failed c.loop-index.source) (g.R.Source.failed c.pass_block.new.source) (g.W.Sink.failed c.loop-index.writer) (g.W.Sink.failed c.pass_block.new.writer) c.in-Ok-true.field-0 c.in-Ok-true.ensures.notes ∙ c.loop-index.invariant.source;
      writer = writer_kept (g.R.Source.failed c.loop-index.source) (g.R.Source.failed c.pass_block.new.source) (g.W.Sink.failed c.loop-index.writer) (g.W.Sink.failed c.pass_block.new.writer) c.in-Ok-true.field-0 c.in-Ok-true.ensures.notes ∙ c.loop-index.invariant.writer;
    }

pub returns-clause-lives : goal.returns-clause-lives
returns-clause-lives g c = passes_as g.D.Disk 0 (IsOfLog g.D.Disk c.args.replica.now) c.args.position.now c.args.replica.now c.loop-index.replica _ _ c.loop-index.position _ _ (Err Exhausted) (λ is. cc) c.loop-index.invariant.lives
