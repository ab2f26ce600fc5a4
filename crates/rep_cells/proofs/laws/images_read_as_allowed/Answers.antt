use Rattle.rep_cells.proofs.Kept.{known_kept, kept_allows}
use Rattle.rep_cells.proofs.Fitting.{gate_fits}
use Rattle.rep_cells.proofs.laws.images_read_as_allowed.Goals as goal

pub returns : goal.returns
returns c = λ l h s image is of place there. kept_allows l h place (s place) image (gate_fits l h s place is there) (known_kept l h place (s place) (is.places place there)) of
