use Rattle.rep_engine.proofs.Windows.{hold_windows}
use Rattle.rep_engine.proofs.laws.certifiers_hold_windows.Goals as goal

pub returns : goal.returns
returns c = hold_windows c.windows_go_on.ensures c.gives_its_window.ensures
