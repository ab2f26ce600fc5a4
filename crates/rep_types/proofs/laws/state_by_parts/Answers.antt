use Rattle.std.proofs.Common.{refl}
use Rattle.rep_types.proofs.laws.state_by_parts.Goals as goal

pub returns : goal.returns
returns c = record { position = λ p L. refl; content = λ p L key. refl; kept = λ p L. refl }
