use Rattle.std.proofs.Common.{Ok, ◌-◌}
use Rattle.rep_catchup.specs.Donating.{Leaves}
use Rattle.rep_catchup.proofs.DonateTail.{WroteBlocks}
use Rattle.rep_catchup.proofs.donor.write_tail.Given as goal

-- so many of the blocks were written
abbrev pub invariant-loop-block : goal.invariant-loop-block
invariant-loop-block g l = record {
  leaves : Leaves {T = Unit {0}} g.D.Disk l.initial.replica l.replica (g.W.Sink.failed l.initial.writer) (g.W.Sink.failed l.writer) (Ok tt);
  written : WroteBlocks g.D.Disk l.initial.replica l.position l.index (g.W.Sink.contents l.initial.writer) (g.W.Sink.contents l.writer);
}

abbrev pub decreases-loop-block : goal.decreases-loop-block
decreases-loop-block g l = l.replica.engine.log.next - l.replica.engine.log.start - l.index
