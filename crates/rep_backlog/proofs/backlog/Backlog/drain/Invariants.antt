use Rattle.std.proofs.Common.{◌≡◌, ◌≤◌, ◌+◌, ◌++◌, length, take, drop}
use Rattle.rep_types.specs.declared.limits.TheConstants.{MAX_AHEAD}
use Rattle.rep_record.specs.Fronts.{fitting}
use Rattle.rep_backlog.proofs.backlog.Backlog.drain.Given as goal

-- What has been moved is a front of the items, and the block has room for as many more as there were at the start.
abbrev pub invariant-loop-first : goal.invariant-loop-first
invariant-loop-first l = record {
  within : l.moved ≤ length l.initial.self-inside.items.items;
  few : length l.initial.self-inside.items.items ≤ MAX_AHEAD;
  room : l.self-inside.items.capacity ≡ MAX_AHEAD;
  rest : l.self-inside.items.items ≡ drop l.moved l.initial.self-inside.items.items;
  gathered : l.builder ≡ l.initial.builder ++ take l.moved l.initial.self-inside.items.items;
  counted : fitting l.initial.builder l.initial.self-inside.items.items ≡ fitting l.builder l.self-inside.items.items + l.moved;
}

abbrev pub decreases-loop-first : goal.decreases-loop-first
decreases-loop-first l = length l.self-inside.items.items
