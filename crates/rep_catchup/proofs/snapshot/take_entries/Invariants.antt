use Rattle.std.proofs.Common.{◌≡◌}
use Rattle.rep_catchup.specs.Snapshots.{TakesEntries}
use Rattle.rep_catchup.proofs.snapshot.take_entries.Given as goal

-- the entries so far were taken
abbrev pub invariant-loop-index : goal.invariant-loop-index
invariant-loop-index g l = TakesEntries l._index l.entries.items l.initial.transfer l.transfer (g.R.Source.remaining l.initial.reader) (g.R.Source.remaining l.reader) × (g.R.Source.failed l.reader ≡ g.R.Source.failed l.initial.reader)
