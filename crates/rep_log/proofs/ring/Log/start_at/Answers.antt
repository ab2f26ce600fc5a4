use Rattle.std.proofs.Common.{rules, sym, subst}
use Rattle.rep_log.specs.Moves.{StartsLater}
use Rattle.rep_log.proofs.Synced.{log_started}
use Rattle.rep_log.proofs.ring.Log.start_at.Goals as goal

pub returns-clause-log : goal.returns-clause-log
returns-clause-log c = subst (StartsLater c.args.self.now) (sym (search rules)) (log_started c.args.self.now c.args.start)
