use Rattle.std.proofs.Common.{◌≡◌}
use Rattle.rep_catchup.proofs.JoinBringing.{Came}
use Rattle.rep_catchup.proofs.snapshot.take_pages.Given as goal

-- the pages so far were taken, all of them below the least that may come
abbrev pub invariant-loop-index : goal.invariant-loop-index
invariant-loop-index g l = record {
  came : Came g.D.Disk l.initial.installation l.installation l._index l.least l.initial.transfer l.transfer (g.R.Source.remaining l.initial.reader) (g.R.Source.remaining l.reader);
  noted : g.R.Source.failed l.reader ≡ g.R.Source.failed l.initial.reader;
  same : g.D.Disk.failures l.installation.engine.disk ≡ g.D.Disk.failures l.initial.installation.engine.disk;
}
