use Rattle.rep_steps.proofs.Following.{comes, follows}
use Rattle.rep_steps.proofs.laws.steps_follow_the_order.Goals as goal

pub returns : goal.returns
returns c = λ L n m e a h o s. follows (record { enough = c.state_is_enough.ensures; items = c.history_by_items.ensures }) c.fronts_are_determined.ensures L n m e a h o (comes n m e a s)
