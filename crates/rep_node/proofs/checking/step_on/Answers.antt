use Rattle.std.proofs.Common.{◌≡◌, None, rules, subst}
use Rattle.std.specs.Prelude.{◌≢◌}
use Rattle.rep_checkpoint.specs.Standing.{due_in}
use Rattle.rep_checkpoint.specs.declared.stage.Step.{Step}
use Rattle.rep_checkpoint.specs.declared.stage.Step.TheVariants.{Begin}
use Rattle.rep_node.specs.Checking.{said_of}
use Rattle.rep_node.proofs.Checks.{says_none}
use Rattle.rep_node.proofs.Keeps.{told_ok}
use Rattle.rep_node.proofs.checking.step_on.Goals as goal

pub returns-in-Ok-clause-works : goal.returns-in-Ok-clause-works
returns-in-Ok-clause-works g c = λ s items w. told_ok _ c.take_on-desk.result.1 c.in-Ok.field-0 c.in-Ok.is (c.take_on-desk.ensures.works s items w)

pub returns-in-Ok-clause-says : goal.returns-in-Ok-clause-says
returns-in-Ok-clause-says g c =
    let step : c.checkpoint_step.result ≡ due_in c.args.desk.engine.checkpoint.stage = search rules in
    let other : c.checkpoint_step.result ≢ Begin = search rules in
    subst (λ (s : Step). None ≡ said_of s c.take_on-desk.result.0) step (says_none c.checkpoint_step.result c.take_on-desk.result.0 other)
