use Rattle.std.proofs.Common.{◌∙◌}
use Rattle.run_trials.proofs.beside.side_by_side.SideBySide.resize.Goals as goal

pub invariant_of-self-2 : goal.invariant_of-self-2
invariant_of-self-2 c = record { made = (c.in_ok-admitted.ensures.admitted 0 0).made ∙ c.args.self.now.made }
