use Rattle.std.proofs.Common.{◌≡◌, ◌≤◌, List, [], ◌++◌, Ok, length}
use Rattle.std.specs.Prelude.{Contains}
use Rattle.rep_types.specs.declared.judged.Judged.{Judged}
use Rattle.rep_replica.specs.Replicas.{facts_of}
use Rattle.rep_lines.specs.Feeds.{ahead}
use Rattle.rep_service.specs.Living.{PassesLines}
use Rattle.rep_service.proofs.Records.{RecordsSo}
use Rattle.rep_service.proofs.past.pass_block.Given as goal

-- all that was delivered is durable, and no stream has failed
abbrev pub invariant-records : goal.invariant-records
invariant-records g l = record {
  passes : RecordsSo l.fn.block.records l.block.records l.fn.position (ahead l.fn.input.feed (g.R.Source.remaining l.fn.source)) (ahead l.input.feed (g.R.Source.remaining l.source)) l.position;
  split : (front : List Judged) × (l.fn.block.records ≡ front ++ l.block.records);
  lives : PassesLines g.D.Disk 0 (Contains l.fn.block.records) l.fn.position l.fn.replica l.replica (ahead l.fn.input.feed (g.R.Source.remaining l.fn.source)) (ahead l.input.feed (g.R.Source.remaining l.source)) l.position (g.W.Sink.contents l.fn.writer) (g.W.Sink.contents l.writer) (Ok tt);
  within : l.fn.position ≤ (facts_of g.D.Disk l.fn.replica).durable → l.position ≤ (facts_of g.D.Disk l.fn.replica).durable;
  told : (facts_of g.D.Disk l.replica).ahead ≡ [];
  source : g.R.Source.failed l.source ≡ g.R.Source.failed l.fn.source;
  writer : g.W.Sink.failed l.writer ≡ g.W.Sink.failed l.fn.writer;
}

abbrev pub decreases-records : goal.decreases-records
decreases-records g l = length l.block.records
