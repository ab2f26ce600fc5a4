use Rattle.rep_cells.proofs.Kept.{known_shows}
use Rattle.rep_cells.proofs.Fitting.{gate_fits}
use Rattle.rep_cells.proofs.laws.places_read_as_shown.Goals as goal

pub returns : goal.returns
returns c = λ l h s place is there. known_shows l h place (s place) (gate_fits l h s place is there) (is.places place there)
