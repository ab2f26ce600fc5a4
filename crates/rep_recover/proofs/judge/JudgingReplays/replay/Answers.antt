use Rattle.std.proofs.Common.{rules}
use Rattle.rep_recover.proofs.judge.JudgingReplays.replay.Goals as goal

pub returns-else-is_commit-clause-taken : goal.returns-else-is_commit-clause-taken
returns-else-is_commit-clause-taken c = record {
  next = search rules;
  admitted = c.in-Ok.ensures.admitted;
  noted = search rules;
  windows = λ start windows. c.certifiers_hold_windows.ensures.admits c.args.self.now.certifier.current c.admit_item.new.self.current c.args.judged.now.item start c.limits.ensures windows c.in-Ok.ensures.admitted;
}

pub returns-in_ok-add-clause-taken : goal.returns-in_ok-add-clause-taken
returns-in_ok-add-clause-taken c = record {
  next = search rules;
  admitted = c.in-Ok.ensures.admitted;
  noted = search rules;
  windows = λ start windows. c.certifiers_hold_windows.ensures.admits c.args.self.now.certifier.current c.admit_item.new.self.current c.args.judged.now.item start c.limits.ensures windows c.in-Ok.ensures.admitted;
}
