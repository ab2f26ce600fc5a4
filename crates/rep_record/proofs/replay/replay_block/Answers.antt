use Rattle.std.proofs.Common.{List, Result, IfErr, refl, sym, subst, arith, inl, inr}
use Rattle.std.proofs.lemmas.Result.{err_from_is_err_and}
use Rattle.rep_types.specs.declared.judged.Judged.{Judged}
use Rattle.rep_types.specs.declared.refusal.Refusal.{Refusal}
use Rattle.rep_record.specs.Blocks.{IsNextBlock, RefusesRecords}
use Rattle.rep_record.specs.Replaying.{Rejected}
use Rattle.rep_record.proofs.Replaying.{none_replayed, one_replayed, no_block, stops_there, ends_there, is_next_block}
use Rattle.rep_record.proofs.replay.replay_block.Goals as goal

pub returns-in_default-clause-refused : goal.returns-in_default-clause-refused
returns-in_default-clause-refused g c = inr (refl, λ records is. absurd (no_block c.args.bytes.now c.args.cell c.args.seqno records is (c.in_default.ensures.none refl)))

pub loop-init : goal.loop-init
loop-init g c = record {
  body = c.in-Some.rest.now;
  has = c.in-Some.ensures.some;
  at = none_replayed g.S.Replays c.args.to.now c.args.seqno c.in-Some.rest.now;
  next_is = omega arith;
}

pub loop-preserved : goal.loop-preserved
loop-preserved g c =
    let inv = c.loop.invariant in
    let one = c.in_ok-rest.ensures.replayed in
    record {
      body = inv.body;
      has = inv.has;
      at = one_replayed g.S.Replays c.args.to.now c.loop.to c.replay_record.new.to c.args.seqno c.loop.next c.loop.counter inv.body c.loop.rest.now c.in_ok-rest.rest.now one.0 inv.at inv.next_is one.1 one.2;
      next_is = omega (arith, inv.next_is);
    }

pub returns-in_err-rest-clause-refused : goal.returns-in_err-rest-clause-refused
returns-in_err-rest-clause-refused g c =
    let inv = c.loop.invariant in
    let P : Refusal → Type 0 = RefusesRecords ((records : List Judged) → IsNextBlock c.args.cell c.args.seqno c.args.bytes.now records → Rejected g.S.Replays c.args.to.now records) in
    let refuses : P c.in_err-rest.field-0.0 = elim c.in_err-rest.ensures.refused [
      | inl memory ↦ inl memory
      | inr why ↦ inr (
        why.0,
        stops_there g.S.Replays c.args.to.now c.loop.to c.args.bytes.now inv.body c.loop.rest.now c.args.cell c.args.seqno c.in-Some.count c.loop.counter inv.has inv.at
            c.spellings_are_told.ensures c.spellings_are_told-2.ensures (omega (arith, c.loop-test.true)) c.loop.next inv.next_is why.1,
      )
    ] in
    let err = err_from_is_err_and c.from_residual.result c.from_residual.ensures.1 in
    subst (λ (r : Result _ Refusal). IfErr r P) (sym err.1) (subst P (sym err.2) refuses)

pub returns-then-not-are_blank-clause-refused : goal.returns-then-not-are_blank-clause-refused
returns-then-not-are_blank-clause-refused g c =
    let inv = c.loop.invariant in
    inr (
      refl,
      λ records is. absurd (ends_there g.S.Replays c.args.to.now c.loop.to c.args.bytes.now inv.body c.loop.rest.now c.args.cell c.args.seqno c.in-Some.count c.loop.counter inv.has inv.at
          c.spellings_are_told.ensures c.runs_are_told.ensures (omega (arith, c.loop-test.false, c.loop.auto.counter-end)) (λ blank. cc) records is),
    )

pub returns-clause-replayed : goal.returns-clause-replayed
returns-clause-replayed g c =
    let inv = c.loop.invariant in (
      inv.at.before,
      is_next_block g.S.Replays c.args.to.now c.loop.to c.args.bytes.now inv.body c.loop.rest.now c.args.cell c.args.seqno c.in-Some.count c.loop.counter inv.has inv.at
          (omega (arith, c.loop-test.false)) (cc),
      omega (arith, inv.at.size, c.loop-test.false),
      inv.at.replayed,
    )
