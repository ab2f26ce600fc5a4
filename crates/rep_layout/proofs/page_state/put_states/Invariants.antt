use Rattle.std.proofs.Common.{◌≡◌, ◌+◌, ◌++◌, length}
use Rattle.std.specs.List.{flat_map}
use Rattle.rep_layout.specs.PageStates.{four_form, fours}
use Rattle.rep_layout.proofs.page_state.put_states.Given as goal

-- the fours so far are put
abbrev pub invariant-loop-i : goal.invariant-loop-i
invariant-loop-i g l = record {
  bytes : l.out.items ≡ l.initial.out.items ++ flat_map four_form.spell (fours l.i l.states);
  size : length l.out.items ≡ length l.initial.out.items + l.i;
}
