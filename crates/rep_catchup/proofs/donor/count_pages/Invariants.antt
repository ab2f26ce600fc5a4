use Rattle.std.proofs.Common.{◌≡◌, ◌≤◌, length}
use Rattle.rep_catchup.specs.Donating.{held_below}
use Rattle.rep_catchup.proofs.donor.count_pages.Given as goal

-- those that were counted
abbrev pub invariant-loop-page : goal.invariant-loop-page
invariant-loop-page g l = record { counted : l.count ≡ length (held_below l.replica.engine.checkpoint.base l.page); few : l.count ≤ l.page }
