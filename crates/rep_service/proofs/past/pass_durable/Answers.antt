use Rattle.std.proofs.Common.{Ok, Err, arith}
use Rattle.rep_service.specs.Commanding.{done_of}
use Rattle.rep_service.specs.Living.{IsOfLog}
use Rattle.rep_service.proofs.Passed.{passes_both, passes_weaker, passes_old_of, of_log_before}
use Rattle.rep_service.proofs.past.pass_durable.Goals as goal

pub returns-in-Ok-false-clause-lives : goal.returns-in-Ok-false-clause-lives
returns-in-Ok-false-clause-lives g c = passes_old_of g.D.Disk _ (IsOfLog g.D.Disk c.args.replica.now) c.args.position.now c.args.replica.now c.pass_old.new.replica _ _ c.pass_old.new.position _ _ (Ok tt) c.in-Ok-false.ensures.lives

pub returns-in-Err-clause-lives : goal.returns-in-Err-clause-lives
returns-in-Err-clause-lives g c = passes_old_of g.D.Disk _ (IsOfLog g.D.Disk c.args.replica.now) c.args.position.now c.args.replica.now c.pass_old.new.replica _ _ c.pass_old.new.position _ _ (Err c.in-Err.refusal) c.in-Err.ensures.lives

pub returns-clause-lives : goal.returns-clause-lives
returns-clause-lives g c =
    let base = c.args.replica.now.engine.checkpoint.base.position in
    let old = c.in-Ok-true.ensures.lives in
    passes_both g.D.Disk base (IsOfLog g.D.Disk c.args.replica.now) c.parts_are_joined.ensures c.args.position.now c.pass_old.new.position c.pass_blocks.new.position c.args.replica.now c.pass_old.new.replica c.pass_blocks.new.replica _ _ _ _ _ _ (done_of c.pass_blocks.result)
    (passes_old_of g.D.Disk base (IsOfLog g.D.Disk c.args.replica.now) c.args.position.now c.args.replica.now c.pass_old.new.replica _ _ c.pass_old.new.position _ _ (Ok tt) old)
    (passes_weaker g.D.Disk 0 base (IsOfLog g.D.Disk c.pass_old.new.replica) (IsOfLog g.D.Disk c.args.replica.now) (omega arith) (of_log_before g.D.Disk c.parts_are_joined.ensures c.args.replica.now c.pass_old.new.replica old.said _ _ old.still old.lives)
    c.pass_old.new.position c.pass_old.new.replica c.pass_blocks.new.replica _ _ c.pass_blocks.new.position _ _ (done_of c.pass_blocks.result) c.pass_blocks.ensures.lives)
