use Rattle.rep_checkpoint.proofs.Reading.{stable_read}
use Rattle.rep_checkpoint.proofs.laws.stable_bases_are_read.Goals as goal

pub returns : goal.returns
returns c = stable_read c.places_read_as_shown.ensures c.pages_are_places.ensures c.pages_are_told.ensures
