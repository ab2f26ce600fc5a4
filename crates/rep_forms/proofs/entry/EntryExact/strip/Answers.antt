use Rattle.std.proofs.Common.{rules}
use Rattle.rep_forms.proofs.entry.EntryExact.strip.Goals as goal

pub returns : goal.returns
returns c = search rules
