use Rattle.std.proofs.Common.{◌≡◌}
use Rattle.std.specs.Io.KnownBytes.{Keeps}
use Rattle.rep_lines.specs.Feeds.{ahead}
use Rattle.rep_service.proofs.input.Input.next_line.Given as goal

-- the text is as it was, and no line was handed out
abbrev pub invariant-loop : goal.invariant-loop
invariant-loop g l = record {
  kept : Keeps (ahead l.fn.self.feed (g.R.Source.remaining l.fn.source)) (ahead l.self.feed (g.R.Source.remaining l.source));
  number : l.self.number ≡ l.fn.self.number;
  failed : g.R.Source.failed l.source ≡ g.R.Source.failed l.fn.source;
}
