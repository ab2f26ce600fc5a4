use Rattle.std.proofs.Common.{◌≡◌, length}
use Rattle.rep_follow.proofs.Feeds.{Taken}
use Rattle.rep_follow.proofs.feeding.take_lines.Given as goal

-- the items of the lines so far were taken
abbrev pub invariant-whole : goal.invariant-whole
invariant-whole g l = record {
  taken : Taken g.D.Disk l.fn.next l.fn.replica l.replica l.fn.counts l.counts l.fn.feed l.feed (g.W.Sink.contents l.fn.writer) (g.W.Sink.contents l.writer) l.next;
  failed : g.W.Sink.failed l.writer ≡ g.W.Sink.failed l.fn.writer;
}

abbrev pub decreases-whole : goal.decreases-whole
decreases-whole g l = length l.feed
