use Rattle.std.proofs.Common.{◌≡◌, ◌≤◌, ◌+◌, ◌++◌, length, take, drop}
use Rattle.rep_types.specs.declared.limits.TheConstants.{MAX_AHEAD}
use Rattle.rep_record.specs.Blocks.{filled_by}
use Rattle.rep_record.specs.Fronts.{fitting}
use Rattle.rep_backlog.proofs.backlog.Backlog.fitting.Given as goal

-- The room is that of the block with a front of the items, and the block takes as many more of the rest as it takes behind that front.
abbrev pub invariant-loop-judged : goal.invariant-loop-judged
invariant-loop-judged l = record {
  within : l.count ≤ length l.self-inside.items.items;
  few : length l.self-inside.items.items ≤ MAX_AHEAD;
  filled : l.room ≡ filled_by (l.builder ++ take l.count l.self-inside.items.items);
  counted : fitting l.builder l.self-inside.items.items ≡ fitting (l.builder ++ take l.count l.self-inside.items.items) (drop l.count l.self-inside.items.items) + l.count;
}

abbrev pub decreases-loop-judged : goal.decreases-loop-judged
decreases-loop-judged l = length (drop l.count l.self-inside.items.items)
