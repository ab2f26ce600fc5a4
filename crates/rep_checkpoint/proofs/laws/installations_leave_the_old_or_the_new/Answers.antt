use Rattle.rep_checkpoint.proofs.ArrivingImages.{leave_the_old_or_the_new}
use Rattle.rep_checkpoint.proofs.laws.installations_leave_the_old_or_the_new.Goals as goal

pub returns : goal.returns
returns c = leave_the_old_or_the_new c.judging_goes_on.ensures c.logs_end_in_their_node.ensures c.the_old_base_or_the_snapshot.ensures c.the_log_in_every_image.ensures
