use Rattle.std.proofs.Common.{rules}
use Rattle.rep_pool.proofs.Each.{promoted_holds}
use Rattle.rep_pool.proofs.pool.Pool.row_of.Goals as goal

pub invariant_of-self : goal.invariant_of-self
invariant_of-self c = promoted_holds c.args.place.page c.self.inside.pages c.promote.new.self c.promote.ensures.entries c.self.invariant

pub returns-clause-found : goal.returns-clause-found
returns-clause-found c = search rules
