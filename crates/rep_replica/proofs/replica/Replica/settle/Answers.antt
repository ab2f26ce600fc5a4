use Rattle.std.proofs.Common.{Result, subst, rules}
use Rattle.rep_types.specs.declared.refusal.Refusal.{Refusal}
use Rattle.rep_replica.specs.Settling.{Works}
use Rattle.rep_replica.proofs.Settling.{works_then, ok_of, ok_on}
use Rattle.rep_replica.proofs.replica.Replica.settle.Goals as goal

pub loop-self-init : goal.loop-self-init
loop-self-init g c =
    let ok = ok_of c.finish_checkpoint-ended.result c.if-is_err.ensures.value in
    record {
      works = subst (λ (r : Result (Unit {0}) Refusal). Works g.D.Disk c.args.self.now c.finish_checkpoint-ended.new.self r) ok c.finish_checkpoint-ended.ensures.works;
      running = ok_on c.finish_checkpoint-ended.result c.finish_checkpoint-ended.ensures.running ok;
      off = ok_on c.finish_checkpoint-ended.result c.finish_checkpoint-ended.ensures.off ok;
    }

pub loop-self-preserved : goal.loop-self-preserved
loop-self-preserved g c =
    let ok = ok_of c.log_on-ended.result c.if-is_err-2.ensures.value in
    record {
      works =
          subst (λ (r : Result (Unit {0}) Refusal). Works g.D.Disk c.args.self.now c.log_on-ended.new.self r) ok
          (works_then g.D.Disk c.runs_are_joined.ensures c.args.self.now c.loop-self.self c.log_on-ended.new.self c.log_on-ended.result c.loop-self.invariant.works
          c.log_on-ended.ensures.works);
      running = ok_on c.log_on-ended.result c.log_on-ended.ensures.running ok;
      off = ok_on c.log_on-ended.result c.log_on-ended.ensures.off ok;
    }

-- where a step of the log ended it
pub returns-then-is_err-2-clause-works : goal.returns-then-is_err-2-clause-works
returns-then-is_err-2-clause-works g c = λ runs.
    works_then g.D.Disk c.runs_are_joined.ensures c.args.self.now c.loop-self.self c.log_on-ended.new.self c.log_on-ended.result c.loop-self.invariant.works
    c.log_on-ended.ensures.works

pub returns-clause-quiet : goal.returns-clause-quiet
returns-clause-quiet g c = search rules
