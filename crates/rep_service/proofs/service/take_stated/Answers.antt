use Rattle.std.proofs.Common.{[], ◌∷◌, Ok, Err}
use Rattle.rep_types.specs.declared.refusal.Refusal.TheVariants.{Exhausted}
use Rattle.rep_service.proofs.Saying.{own_by}
use Rattle.rep_service.proofs.Own.{own_taken}
use Rattle.rep_service.proofs.Lives.{lives_none, lives_goes}
use Rattle.rep_service.proofs.service.take_stated.Goals as goal

pub returns-in_default-clause-lives : goal.returns-in_default-clause-lives
returns-in_default-clause-lives g c = ([], lives_none g.D.Disk c.parts_are_joined.ensures c.args.replica.now _ (Err Exhausted))

pub returns-in-Err-clause-lives : goal.returns-in-Err-clause-lives
returns-in-Err-clause-lives g c = (c.in-Err.ensures.goes.receipts, lives_goes g.D.Disk c.parts_are_joined.ensures c.args.replica.now c.take.new.replica [] _ _ _ _ (Err c.in-Err.refusal) c.in-Err.ensures.goes)

pub returns-clause-lives : goal.returns-clause-lives
returns-clause-lives g c = (c.in_default-take.ensures.goes.receipts, lives_goes g.D.Disk c.parts_are_joined.ensures c.args.replica.now c.take.new.replica (c.args.item ∷ []) _ _ _ _ (Ok tt) c.in_default-take.ensures.goes)

pub returns-in-Err-clause-own : goal.returns-in-Err-clause-own
returns-in-Err-clause-own g c = own_by c.in-Err.refusal (own_taken g.D.Disk c.take.new.replica _ _ c.in-Err.refusal c.in-Err.ensures.refused)
