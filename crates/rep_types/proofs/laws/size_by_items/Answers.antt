use Rattle.rep_types.proofs.Reaches.{size-write_sets, size-last}
use Rattle.rep_types.proofs.laws.size_by_items.Goals as goal

pub returns : goal.returns
returns c = record { first = size-write_sets; last = size-last }
