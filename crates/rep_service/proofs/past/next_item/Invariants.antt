use Rattle.std.proofs.Common.{◌≡◌, ◌+◌, []}
use Rattle.rep_replica.specs.Replicas.{facts_of}
use Rattle.rep_lines.specs.Feeds.{ahead}
use Rattle.rep_service.proofs.Reaching.{Reaching}
use Rattle.rep_service.proofs.past.next_item.Given as goal

-- the lines so far were answered, nothing was delivered, all that was delivered is durable, and no stream has failed
abbrev pub invariant-loop : goal.invariant-loop
invariant-loop g l = record {
  so : Reaching g.D.Disk (l.fn.position + 1) l.fn.replica l.replica (ahead l.fn.input.feed (g.R.Source.remaining l.fn.source)) (ahead l.input.feed (g.R.Source.remaining l.source)) (g.W.Sink.contents l.fn.writer) (g.W.Sink.contents l.writer);
  told : (facts_of g.D.Disk l.replica).ahead ≡ [];
  source : g.R.Source.failed l.source ≡ g.R.Source.failed l.fn.source;
  writer : g.W.Sink.failed l.writer ≡ g.W.Sink.failed l.fn.writer;
}
