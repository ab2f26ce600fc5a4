use Rattle.std.proofs.Common.{refl}
use Rattle.rep_types.proofs.Reaches.{floor_take, reach_push}
use Rattle.rep_types.proofs.laws.reach_by_items.Goals as goal

pub returns : goal.returns
returns c = record { has_size = λ p L. refl; has_floor = λ p L. refl; front = floor_take; first = λ p. refl; one_more = reach_push }
