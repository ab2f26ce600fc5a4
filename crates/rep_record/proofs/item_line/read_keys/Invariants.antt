use Rattle.std.proofs.Common.{◌≡◌, length}
use Rattle.std.specs.Option.{option_map}
use Rattle.rep_record.specs.Reading.{keys_in}
use Rattle.rep_record.specs.Drafts.{drafted_reads}
use Rattle.rep_record.proofs.Kept.{keys_from}
use Rattle.rep_record.proofs.item_line.read_keys.Given as goal

abbrev pub invariant-loop-words : goal.invariant-loop-words
invariant-loop-words l = keys_from l.keys.items l.words ≡ option_map drafted_reads (keys_in l.initial.words)

abbrev pub decreases-loop-words : goal.decreases-loop-words
decreases-loop-words l = length l.words
