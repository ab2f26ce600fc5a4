use Rattle.rep_transfer.proofs.TellingApart.{transfers_told}
use Rattle.rep_transfer.proofs.laws.transfers_are_told.Goals as goal

pub returns : goal.returns
returns c = transfers_told
