use Rattle.std.proofs.Common.{◌≡◌, Ok}
use Rattle.rep_lines.specs.Feeds.{ahead}
use Rattle.rep_service.specs.Living.{FollowsLines}
use Rattle.rep_service.proofs.service.follow_text.Given as goal

-- what was delivered are the items of the lines so far, and no stream has failed
abbrev pub invariant-loop : goal.invariant-loop
invariant-loop g l = record {
  lives : FollowsLines g.D.Disk l.fn.next l.fn.replica l.replica (ahead l.fn.input.feed (g.R.Source.remaining l.fn.source)) (ahead l.input.feed (g.R.Source.remaining l.source)) l.next (g.W.Sink.contents l.fn.writer) (g.W.Sink.contents l.writer) (Ok tt);
  source : g.R.Source.failed l.source ≡ g.R.Source.failed l.fn.source;
  writer : g.W.Sink.failed l.writer ≡ g.W.Sink.failed l.fn.writer;
}
