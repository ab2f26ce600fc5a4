use Rattle.std.proofs.Common.{◌≡◌}
use Rattle.rep_lines.specs.Feeds.{ahead}
use Rattle.rep_service.proofs.Blanks.{Blank}
use Rattle.rep_service.proofs.first.read_first.Given as goal

-- the lines so far have no words
abbrev pub invariant-loop : goal.invariant-loop
invariant-loop g l = record {
  blank : Blank l.fn.input.number (ahead l.fn.input.feed (g.R.Source.remaining l.fn.source)) (ahead l.input.feed (g.R.Source.remaining l.source)) l.input.number;
  failed : g.R.Source.failed l.source ≡ g.R.Source.failed l.fn.source;
}
