use Rattle.std.proofs.Common.{◌≡◌, ◌-◌, ◌≤◌, length}
use Rattle.std.specs.Io.KnownBytes.{Consumes}
use Rattle.rep_record.specs.Lines.{ahead}
use Rattle.rep_record.proofs.TextLines.{HasNoFeed}
use Rattle.rep_record.proofs.text_reader.TextReader.next_line.Given as goal

-- the line so far is the front of the text, and holds no line feed
abbrev pub invariant-loop-byte : goal.invariant-loop-byte
invariant-loop-byte g l = record {
  front : Consumes (ahead l.initial.self (g.R.Source.remaining l.initial.reader)) (ahead l.self (g.R.Source.remaining l.reader)) l.line.items;
  no_feed : HasNoFeed l.line.items;
  short : length l.line.items ≤ 4096;
  taken : l.self.taken ≡ l.initial.self.taken;
  number : l.self.number ≡ l.initial.self.number;
  failed : g.R.Source.failed l.reader ≡ g.R.Source.failed l.initial.reader;
}

abbrev pub decreases-loop-byte : goal.decreases-loop-byte
decreases-loop-byte g l = 4096 - length l.line.items
