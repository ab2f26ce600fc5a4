use Rattle.rep_transfer.proofs.TellingApart.{parts_told}
use Rattle.rep_transfer.proofs.laws.parts_are_told.Goals as goal

pub returns : goal.returns
returns c = parts_told
