use Rattle.std.proofs.Common.{◌∙◌, ap, subst, sym}
use Rattle.rep_layout.specs.declared.place.Place.TheVariants.{Page}
use Rattle.rep_pool.specs.Pools.{found, IsFree}
use Rattle.rep_pool.proofs.Each.{not_found_then, free_then}
use Rattle.rep_pool.proofs.pool.Pool.wrote.Goals as goal

pub returns-clause-gone : goal.returns-clause-gone
returns-clause-gone c = λ slot. ap (found c.args.number slot) c.take.ensures.without ∙ not_found_then c.args.number slot c.args.self.now c.take.ensures.once

pub returns-clause-free : goal.returns-clause-free
returns-clause-free c = λ slot. subst (IsFree (Page c.args.number slot)) (sym c.take.ensures.without) (free_then c.args.number slot c.args.self.now c.take.ensures.once)
