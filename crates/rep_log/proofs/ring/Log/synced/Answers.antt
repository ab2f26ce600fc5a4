use Rattle.std.proofs.Common.{rules, sym, subst}
use Rattle.rep_log.specs.Moves.{SyncsLog}
use Rattle.rep_log.proofs.Synced.{log_synced}
use Rattle.rep_log.proofs.ring.Log.synced.Goals as goal

pub returns-in-Resting-clause-log : goal.returns-in-Resting-clause-log
returns-in-Resting-clause-log c = subst (SyncsLog c.args.self.now) (sym (search rules)) (log_synced c.args.self.now)

pub returns-in-Closing-clause-log : goal.returns-in-Closing-clause-log
returns-in-Closing-clause-log c = subst (SyncsLog c.args.self.now) (sym (search rules)) (log_synced c.args.self.now)

pub returns-in-Filling-clause-log : goal.returns-in-Filling-clause-log
returns-in-Filling-clause-log c = subst (SyncsLog c.args.self.now) (sym (search rules)) (log_synced c.args.self.now)

pub returns-in-Opening-clause-log : goal.returns-in-Opening-clause-log
returns-in-Opening-clause-log c = subst (SyncsLog c.args.self.now) (sym (search rules)) (log_synced c.args.self.now)
