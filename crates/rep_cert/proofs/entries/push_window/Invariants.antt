use Rattle.std.proofs.Common.{◌≡◌, ◌++◌, take}
use Rattle.rep_types.specs.Order.{recent}
use Rattle.rep_cert.specs.Holdings.{upto}
use Rattle.rep_cert.proofs.entries.push_window.Given as goal

-- what was there, and the entries so far that are of the window
abbrev pub invariant-loop-entry : goal.invariant-loop-entry
invariant-loop-entry l = l.kept.items ≡ l.initial.kept.items ++ recent l.floor (upto l.position (take l.entry-index l.entries))
