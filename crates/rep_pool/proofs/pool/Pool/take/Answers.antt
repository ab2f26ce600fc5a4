use Rattle.std.proofs.Common.{subst}
use Rattle.rep_pool.specs.Pools.{AreNumbered}
use Rattle.rep_pool.proofs.Each.{removed_holds}
use Rattle.rep_pool.proofs.pool.Pool.take.Goals as goal

pub invariant_of-self : goal.invariant_of-self
invariant_of-self c = removed_holds c.args.number c.self.inside.pages c.pop.new.self c.pop.ensures.entries c.self.invariant

pub invariant_of-self-2 : goal.invariant_of-self-2
invariant_of-self-2 c = removed_holds c.args.number c.self.inside.pages c.pop.new.self c.pop.ensures.entries c.self.invariant

pub invariant_of-self-then-eq : goal.invariant_of-self-then-eq
invariant_of-self-then-eq c = removed_holds c.args.number c.self.inside.pages c.pop.new.self c.pop.ensures.entries c.self.invariant

pub returns-in_err-kept-clause-numbered : goal.returns-in_err-kept-clause-numbered
returns-in_err-kept-clause-numbered c = subst AreNumbered c.self.view_is c.self.invariant.1

pub returns-clause-numbered : goal.returns-clause-numbered
returns-clause-numbered c = subst AreNumbered c.self.view_is c.self.invariant.1

pub returns-then-eq-clause-numbered : goal.returns-then-eq-clause-numbered
returns-then-eq-clause-numbered c = subst AreNumbered c.self.view_is c.self.invariant.1
