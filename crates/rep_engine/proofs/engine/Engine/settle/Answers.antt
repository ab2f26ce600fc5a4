use Rattle.std.proofs.Common.{subst, rules}
use Rattle.rep_engine.specs.Engines.{Engine}
use Rattle.rep_log.specs.Moves.{SyncsLog}
use Rattle.rep_engine.proofs.engine.Engine.settle.Goals as goal

pub returns-then-synced-eq0-clause-log : goal.returns-then-synced-eq0-clause-log
returns-then-synced-eq0-clause-log g c = subst (λ (e : Engine g.row.D.Denot). SyncsLog e.log c.synced.new.self) c.self.view_is c.synced.ensures.log

pub returns-clause-log : goal.returns-clause-log
returns-clause-log g c = subst (λ (e : Engine g.row.D.Denot). SyncsLog e.log c.synced.new.self) c.self.view_is c.synced.ensures.log

pub invariant_of-self-2 : goal.invariant_of-self-2
invariant_of-self-2 g c = search rules
