use Rattle.std.proofs.Common.{◌≡◌}
use Rattle.rep_lines.specs.Feeds.{ahead}
use Rattle.rep_follow.proofs.Groups.{Took}
use Rattle.rep_follow.proofs.following.follow_items.Given as goal

-- the items of the groups so far were taken and told
abbrev pub invariant-loop : goal.invariant-loop
invariant-loop g l = record {
  took : Took g.D.Disk l.fn.next l.fn.replica l.replica l.fn.counts l.counts l.counter (g.R.Source.remaining l.fn.source) (g.R.Source.remaining l.source) (ahead l.fn.feed (g.R.Source.remaining l.fn.source)) (ahead l.feed (g.R.Source.remaining l.source)) (g.W.Sink.contents l.fn.writer) (g.W.Sink.contents l.writer) l.next;
  source : g.R.Source.failed l.source ≡ g.R.Source.failed l.fn.source;
  writer : g.W.Sink.failed l.writer ≡ g.W.Sink.failed l.fn.writer;
}
