use Rattle.rep_layout.proofs.Windows.{told_by}
use Rattle.rep_layout.proofs.window_reader.windows_are_told.Goals as goal

pub returns : goal.returns
returns c = told_by c.spellings_are_told.ensures c.runs_are_told.ensures
