use Rattle.std.proofs.Common.{◌≡◌, length}
use Rattle.rep_record.specs.Records.{IsRecord}
use Rattle.rep_catchup.proofs.DonateWrites.{Writing}
use Rattle.rep_catchup.proofs.DonateTail.{bytes_above}
use Rattle.rep_catchup.proofs.donor.write_block.Given as goal

-- those that were gone through, and those that are left
abbrev pub invariant-loop-judged : goal.invariant-loop-judged
invariant-loop-judged g l = record {
  writing : Writing IsRecord (bytes_above l.position) l.initial.block.records l.block.records (g.W.Sink.contents l.initial.writer) (g.W.Sink.contents l.writer);
  noted : g.W.Sink.failed l.writer ≡ g.W.Sink.failed l.initial.writer;
}

abbrev pub decreases-loop-judged : goal.decreases-loop-judged
decreases-loop-judged g l = length l.block.records
