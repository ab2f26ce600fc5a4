use Rattle.std.proofs.Common.{Ok}
use Rattle.rep_catchup.specs.Donating.{Leaves}
use Rattle.rep_catchup.proofs.DonatePages.{WrotePages}
use Rattle.rep_catchup.proofs.donor.write_pages.Given as goal

-- the pages below this one were written
abbrev pub invariant-loop-number : goal.invariant-loop-number
invariant-loop-number g l = record {
  leaves : Leaves {T = Unit {0}} g.D.Disk l.initial.replica l.replica (g.W.Sink.failed l.initial.writer) (g.W.Sink.failed l.writer) (Ok tt);
  written : WrotePages g.D.Disk l.initial.replica l.number (g.W.Sink.contents l.initial.writer) (g.W.Sink.contents l.writer);
}
