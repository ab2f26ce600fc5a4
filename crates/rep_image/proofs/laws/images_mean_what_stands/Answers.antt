use Rattle.rep_image.proofs.WhatStands.{stand}
use Rattle.rep_image.proofs.laws.images_mean_what_stands.Goals as goal

pub returns : goal.returns
returns c = stand c.the_log_in_every_image.ensures
