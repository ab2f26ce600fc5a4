use Rattle.rep_cert.proofs.Making.{window_of_made, made_whole}
use Rattle.rep_cert.proofs.laws.gives_its_window.Goals as goal

pub returns : goal.returns
returns c = record { made = window_of_made; whole = made_whole }
