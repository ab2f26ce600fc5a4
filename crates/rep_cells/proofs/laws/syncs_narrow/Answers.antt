use Rattle.rep_cells.proofs.Kept.{synced_narrows, synced_again, synced_closes}
use Rattle.rep_cells.proofs.laws.syncs_narrow.Goals as goal

pub returns : goal.returns
returns c = record { narrows = synced_narrows; again = synced_again; closes = synced_closes }
