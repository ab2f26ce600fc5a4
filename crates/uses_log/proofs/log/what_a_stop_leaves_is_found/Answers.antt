use Rattle.uses_log.proofs.Appending.{stops_are_found}
use Rattle.uses_log.proofs.log.what_a_stop_leaves_is_found.Goals as goal

pub returns : goal.returns
returns c = stops_are_found c.images_read_as_allowed.ensures c.the_log_in_every_image.ensures c.the_log_is_told.ensures
