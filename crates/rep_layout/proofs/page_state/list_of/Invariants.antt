use Rattle.std.proofs.Common.{◌≡◌, ◌*◌, length, take}
use Rattle.std.specs.List.{flat_map}
use Rattle.rep_layout.specs.PageStates.{list_of}
use Rattle.rep_layout.proofs.page_state.list_of.Given as goal

-- the fours so far
abbrev pub invariant-loop-four : goal.invariant-loop-four
invariant-loop-four l = record {
  pages : l.states.items ≡ flat_map list_of (take l.four-index l.fours);
  size : length l.states.items ≡ 4 * l.four-index;
}
