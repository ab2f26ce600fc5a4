use Rattle.std.proofs.Common.{◌≡◌, true, false, [], Ok, Err, sym, ap, ◌∙◌}
use Rattle.rep_types.specs.declared.refusal.Refusal.TheVariants.{WrongCluster}
use Rattle.rep_service.specs.Serving.{is_of_line}
use Rattle.rep_service.specs.Saying.{receipts_said}
use Rattle.rep_service.proofs.Saying.{own_by}
use Rattle.rep_service.proofs.Own.{own_told}
use Rattle.rep_service.proofs.Lives.{lives_goes, lives_as}
use Rattle.rep_service.proofs.service.end_behind.Goals as goal

pub returns-in-Ok-clause-lives : goal.returns-in-Ok-clause-lives
returns-in-Ok-clause-lives g c = λ of. (c.in-Ok.ensures.tells.goes.receipts, lives_as g.D.Disk c.args.replica.now c.commit.new.replica [] (receipts_said c.in-Ok.ensures.tells.goes.receipts) _ _ (Err c.args.refusal) (lives_goes g.D.Disk c.parts_are_joined.ensures c.args.replica.now c.commit.new.replica [] _ _ _ _ (Ok tt) c.in-Ok.ensures.tells.goes))

pub returns-in-Err-clause-lives : goal.returns-in-Err-clause-lives
returns-in-Err-clause-lives g c = λ of. (c.in-Err.ensures.tells.goes.receipts, lives_goes g.D.Disk c.parts_are_joined.ensures c.args.replica.now c.commit.new.replica [] _ _ _ _ (Err c.in-Err.refusal) c.in-Err.ensures.tells.goes)

pub returns-in-Err-clause-own : goal.returns-in-Err-clause-own
returns-in-Err-clause-own g c = λ of. own_by c.in-Err.refusal (own_told g.D.Disk c.commit.new.replica c.in-Err.refusal c.in-Err.ensures.refused)

pub returns-in-Ok-clause-own : goal.returns-in-Ok-clause-own
returns-in-Ok-clause-own g c = λ of is. (let same = ap is_of_line (let e : c.args.refusal ≡ WrongCluster = cc in e) in absurd (let never : true ≡ false = sym of ∙ same in cc))
