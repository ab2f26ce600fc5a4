use Rattle.std.proofs.Common.{◌∙◌, sym}
use Rattle.rep_follow.proofs.Beginning.{begins_not, begins_check}
use Rattle.rep_follow.proofs.blocks.begin_if_due.Goals as goal

pub returns-then-not-is_checkpoint_due : goal.returns-then-not-is_checkpoint_due
returns-then-not-is_checkpoint_due g c = begins_not g.D.Disk c.args.replica.now (sym c.is_checkpoint_due.ensures ∙ c.if-not-is_checkpoint_due.true)

pub returns : goal.returns
returns g c =
    begins_check g.D.Disk c.runs_are_joined.ensures c.args.replica.now c.step.new.self c.step.result c.step.ensures.step (sym c.is_checkpoint_due.ensures ∙ c.if-not-is_checkpoint_due.false) c.outcome.result c.outcome.ensures
