use Rattle.std.proofs.Common.{sym, subst}
use Rattle.rep_checkpoint.specs.declared.checkpoint.Checkpoint.TheInside.{Inside}
use Rattle.rep_checkpoint.specs.Standing.{IsNext, IsGoing, IsCheckpoint}
use Rattle.rep_checkpoint.proofs.Flushing.{next_without}
use Rattle.rep_checkpoint.proofs.checkpoint.Checkpoint.flushed.Goals as goal
use Rattle.rep_checkpoint.proofs.checkpoint.Checkpoint.flushed.Goals.{in-Toward, in_default}

pub invariant_of-self : goal.invariant_of-self
invariant_of-self c = elim c.match-self.branch [
  | in-Toward w ↦ subst (λ (v : Inside). IsCheckpoint (record { base = v.base; stage = v.stage })) (sym w.self-inside-is) (record {
    is_super = c.self.invariant.is_super;
    going = subst (IsNext c.self.inside.base) (sym w.flushed.ensures) (next_without c.self.inside.base c.args.page w.in-Toward.next (subst (IsGoing c.self.inside.base) w.in-Toward.is c.self.invariant.going));
  })
  | in_default w ↦ subst (λ (v : Inside). IsCheckpoint (record { base = v.base; stage = v.stage })) (sym w.self-inside-is) c.self.invariant
]
