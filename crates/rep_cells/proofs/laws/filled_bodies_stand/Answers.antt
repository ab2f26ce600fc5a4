use Rattle.std.proofs.Common.{subst}
use Rattle.rep_cells.specs.Known.{Known}
use Rattle.rep_cells.proofs.Ranges.{body_image}
use Rattle.rep_cells.proofs.Fitting.{gate_fits}
use Rattle.rep_cells.proofs.laws.filled_bodies_stand.Goals as goal

pub returns : goal.returns
returns c = λ l h s place body image is there filled of.
    body_image l h place body image (gate_fits l h s place is there) (subst (λ state. Known l h place state) filled (is.places place there)).1 of
