use Rattle.rep_types.proofs.Reaches.{floor_rises, floor_first, floor_spans, floor_least, floor-write_sets}
use Rattle.rep_types.proofs.laws.floor_by_items.Goals as goal

pub returns : goal.returns
returns c = record { rises = floor_rises; first = floor_first; spans = floor_spans; least = floor_least; fixed = floor-write_sets }
