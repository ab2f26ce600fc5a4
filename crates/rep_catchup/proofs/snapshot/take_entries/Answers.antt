use Rattle.std.proofs.Common.{◌≡◌, None, refl, inr, rules}
use Rattle.rep_forms.specs.Entries.{EntryFits, entry_bytes}
use Rattle.rep_catchup.proofs.JoinTaking.{none_found}
use Rattle.rep_catchup.proofs.JoinWindow.{entries_cut}
use Rattle.rep_catchup.proofs.snapshot.take_entries.Goals as goal

pub returns-in_default-clause-refused : goal.returns-in_default-clause-refused
returns-in_default-clause-refused g c =
    let before = g.R.Source.remaining c.loop-index.reader in
    let none : c.in_ok-entry.field-0 ≡ None = search rules in
    inr (inr (
      refl,
      entries_cut c.loop-index._index c.args.count c.loop-index.entries.items c.args.transfer.now c.loop-index.transfer (g.R.Source.remaining c.args.reader.now) before c.loop-index-test.true c.loop-index.invariant.0
          (none_found EntryFits entry_bytes before (g.R.Source.remaining c.next.new.reader) c.in_ok-entry.field-0 c.next.result c.in_ok-entry.was none c.next.ensures.known),
    ))
