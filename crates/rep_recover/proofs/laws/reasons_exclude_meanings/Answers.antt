use Rattle.rep_recover.proofs.Excluding.{exclude}
use Rattle.rep_recover.proofs.laws.reasons_exclude_meanings.Goals as goal

pub returns : goal.returns
returns c = exclude c.superblocks_are_told.ensures c.windows_are_told.ensures
