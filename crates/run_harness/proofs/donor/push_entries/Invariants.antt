use Rattle.std.proofs.Common.{◌≡◌, ◌++◌, length}
use Rattle.run_harness.proofs.donor.push_entries.Given as goal

-- what was added and what is still handed out are all of them
abbrev pub invariant-loop-entry : goal.invariant-loop-entry
invariant-loop-entry l = l.entries.items ++ l.reader.kept.entries ≡ l.initial.entries.items ++ l.initial.reader.kept.entries

abbrev pub decreases-loop-entry : goal.decreases-loop-entry
decreases-loop-entry l = length l.reader.kept.entries
