use Rattle.std.proofs.Common.{◌≡◌, ◌-◌, ◌≤◌, length}
use Rattle.std.specs.Io.KnownBytes.{Consumes}
use Rattle.rep_script.proofs.saved_file.read_front.Given as goal

-- the bytes so far are the front of the text
abbrev pub invariant-loop-room : goal.invariant-loop-room
invariant-loop-room g l = record {
  front : Consumes (g.R.Source.remaining l.initial.source) (g.R.Source.remaining l.source) l.front.items;
  few : length l.front.items ≤ l.most;
  failed : g.R.Source.failed l.source ≡ g.R.Source.failed l.initial.source;
}

abbrev pub decreases-loop-room : goal.decreases-loop-room
decreases-loop-room g l = l.most - length l.front.items
