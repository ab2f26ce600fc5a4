use Rattle.std.proofs.Common.{◌≡◌, sym, ◌∙◌, rules}
use Rattle.rep_steps.specs.Standings.{Off}
use Rattle.rep_replica.specs.Replicas.{facts_of}
use Rattle.rep_replica.proofs.Committing.{ok_at}
use Rattle.rep_replica.proofs.Turning.{freed_ended, freed_then}
use Rattle.rep_replica.proofs.replica.Replica.commit_block.Goals as goal

pub returns-in-Ok-clause-commits : goal.returns-in-Ok-clause-commits
returns-in-Ok-clause-commits g c = λ runs some.
    freed_then g.D.Disk c.runs_are_joined.ensures c.args.pages c.args.self.now c.free_cell.new.self c.write_block-in-Ok.new.self c.write_block-in-Ok.result
    (sym c.is_full.ensures.full ∙ c.if-not-is_full.false) c.in-Ok.ensures.frees c.write_block-in-Ok.ensures.commits
    (ok_at ((facts_of g.D.Disk c.write_block-in-Ok.new.self).stage ≡ Off) c.write_block-in-Ok.result (c.write_block-in-Ok.ensures.off c.in-Ok.ensures.frees.room.1))

pub returns-in-Err-clause-commits : goal.returns-in-Err-clause-commits
returns-in-Err-clause-commits g c = λ runs some.
    freed_ended g.D.Disk c.runs_are_joined.ensures c.args.pages c.args.self.now c.free_cell.new.self c.in-Err.refusal (sym c.is_full.ensures.full ∙ c.if-not-is_full.false) c.in-Err.ensures.frees

pub returns-then-has_none-clause-commits : goal.returns-then-has_none-clause-commits
returns-then-has_none-clause-commits g c = search rules
