use Rattle.rep_types.specs.Order.{verdict}
use Rattle.rep_types.proofs.VerdictsByPairs.{AreVerdicts-verdict, only_verdicts}
use Rattle.rep_types.proofs.laws.verdicts_are_determined.Goals as goal

pub returns : goal.returns
returns c = record {
  right = AreVerdicts-verdict;
  only = λ p L v of_v. only_verdicts p L v (verdict p L) of_v (AreVerdicts-verdict p L);
}
