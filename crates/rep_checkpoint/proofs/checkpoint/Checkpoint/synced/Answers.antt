use Rattle.std.proofs.Common.{ap, sym, subst, ◌∙◌}
use Rattle.rep_checkpoint.specs.Standing.{Standing}
use Rattle.rep_checkpoint.specs.Calls.{SyncsTo}
use Rattle.rep_checkpoint.proofs.Synced.{syncs_to, same_cluster}
use Rattle.rep_checkpoint.proofs.checkpoint.Checkpoint.synced.Goals as goal

pub returns-clause-uuid : goal.returns-clause-uuid
returns-clause-uuid c = ap (λ (v : Standing). v.base.uuid) c.settle.ensures.after ∙ (same_cluster c.args.self.now.base c.args.self.now.stage c.settle.ensures.checkpoint).0

pub returns-clause-params : goal.returns-clause-params
returns-clause-params c = ap (λ (v : Standing). v.base.params) c.settle.ensures.after ∙ (same_cluster c.args.self.now.base c.args.self.now.stage c.settle.ensures.checkpoint).1

pub returns-clause-states : goal.returns-clause-states
returns-clause-states c = subst (SyncsTo c.args.self.now) (sym c.settle.ensures.after) (syncs_to c.turns_are_taken.ensures c.args.self.now)
