use Rattle.std.proofs.Common.{◌≡◌, length}
use Rattle.std.specs.List.{flat_map}
use Rattle.rep_forms.specs.Entries.{EntryFits, entry_bytes}
use Rattle.rep_catchup.proofs.DonateWrites.{Writing}
use Rattle.rep_catchup.proofs.donor.write_entries.Given as goal

-- those that were written, and those that are left
abbrev pub invariant-loop-entry : goal.invariant-loop-entry
invariant-loop-entry g l = record {
  writing : Writing EntryFits (flat_map entry_bytes) l.initial.window.kept.entries l.window.kept.entries (g.W.Sink.contents l.initial.writer) (g.W.Sink.contents l.writer);
  noted : g.W.Sink.failed l.writer ≡ g.W.Sink.failed l.initial.writer;
}

abbrev pub decreases-loop-entry : goal.decreases-loop-entry
decreases-loop-entry g l = length l.window.kept.entries
