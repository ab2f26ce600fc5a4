use Rattle.std.proofs.Common.{◌≡◌, ◌+◌, ◌∷◌, [], Ok, Err, subst, refl, arith}
use Rattle.rep_lines.specs.Feeds.{ahead}
use Rattle.rep_types.specs.declared.refusal.Refusal.TheVariants.{Corrupt}
use Rattle.rep_types.specs.declared.refusal.Part.TheVariants.{Log}
use Rattle.rep_service.specs.Passing.{Passes}
use Rattle.rep_service.proofs.Reaching.{passes_item}
use Rattle.rep_service.proofs.Saying.{own_ok}
use Rattle.rep_service.proofs.Passed.{passes_none, passes_record, passes_record_not, passes_ended, passes_not}
use Rattle.rep_service.proofs.past.pass_record.Goals as goal

pub returns-clause-passes : goal.returns-clause-passes
returns-clause-passes g c = λ done.
    let rest = g.R.Source.remaining in
    let text = ahead c.args.input.now.feed (rest c.args.source.now) in
    let behind = ahead c.next_item.new.input.feed (rest c.next_item.new.source) in
    let reached = rw c.in-Ok-Some.field-0-is at c.in-Ok-Some.ensures.reaches in (
      subst (λ i. Passes c.args.position.now text behind (i ∷ []) (c.args.position.now + 1)) c.in_default.ensures.only
          (passes_item g.D.Disk c.args.position.now c.args.replica.now c.next_item.new.replica _ _ _ _ _ _ c.in-Ok-Some.item (c.args.position.now + 1) reached refl),
      omega (arith, c.if-found-seqno.false),
    )

pub returns-in-Err-clause-lives : goal.returns-in-Err-clause-lives
returns-in-Err-clause-lives g c = passes_not g.D.Disk 0 (λ j. j ≡ c.args.judged.now) c.args.position.now c.args.replica.now c.next_item.new.replica _ _ c.args.position.now _ _ c.in-Err.refusal c.in-Err.ensures.reaches

pub returns-in-Ok-None-clause-lives : goal.returns-in-Ok-None-clause-lives
returns-in-Ok-None-clause-lives g c =
    let reached = rw c.in-Ok-None.field-0-is at c.in-Ok-None.ensures.reaches in
    passes_ended g.D.Disk 0 (λ j. j ≡ c.args.judged.now) c.args.position.now _ _ c.args.replica.now c.next_item.new.replica _ _ _ _ reached

pub returns-in-Err-answer_durable-clause-lives : goal.returns-in-Err-answer_durable-clause-lives
returns-in-Err-answer_durable-clause-lives g c =
    let reached = rw c.in-Ok-Some.field-0-is at c.in-Ok-Some.ensures.reaches in
    passes_record_not g.D.Disk c.parts_are_joined.ensures c.args.position.now _ _ c.args.replica.now c.next_item.new.replica _ _ _ _ _ c.args.judged.now c.in-Ok-Some.item c.args.position.now c.in-Err-answer_durable.refusal reached (omega (arith, c.if-found-seqno.false)) c.in-Err-answer_durable.ensures.either

pub returns-clause-lives : goal.returns-clause-lives
returns-clause-lives g c =
    let reached = rw c.in-Ok-Some.field-0-is at c.in-Ok-Some.ensures.reaches in
    passes_record g.D.Disk c.parts_are_joined.ensures c.args.position.now _ _ c.args.replica.now c.next_item.new.replica _ _ _ _ _ c.args.judged.now c.in-Ok-Some.item (c.args.position.now + 1) (Ok tt) reached (omega (arith, c.if-found-seqno.false)) c.in_default.ensures.only (c.in_default.ensures.same c.in_default.ensures.only) own_ok refl

pub returns-then-found-seqno-clause-lives : goal.returns-then-found-seqno-clause-lives
returns-then-found-seqno-clause-lives g c = passes_none g.D.Disk 0 (λ j. j ≡ c.args.judged.now) c.parts_are_joined.ensures c.args.position.now c.args.replica.now (ahead c.args.input.now.feed (g.R.Source.remaining c.args.source.now)) _ (Err (Corrupt Log)) (λ is. cc)
