use Rattle.std.proofs.Common.{rules, [], refl, inr}
use Rattle.rep_log.proofs.scan.Scan.visit.Goals as goal

pub take-requires : goal.take-requires
take-requires g c = search rules

pub returns-then-number-self-clause-refused : goal.returns-then-number-self-clause-refused
returns-then-number-self-clause-refused g c = search rules

pub returns-clause-visited : goal.returns-clause-visited
returns-clause-visited g c = ([], inr (search rules), refl)
