use Rattle.rep_image.proofs.Telling.{mean_one}
use Rattle.rep_image.proofs.laws.images_mean_one_thing.Goals as goal

pub returns : goal.returns
returns c = mean_one c.superblocks_are_told.ensures c.windows_are_told.ensures c.pages_are_told.ensures c.the_log_is_told.ensures
