use Rattle.std.proofs.Common.{◌≡◌, length}
use Rattle.std.specs.Option.{option_map}
use Rattle.rep_record.specs.Reading.{write_in, each}
use Rattle.rep_record.specs.Drafts.{drafted_writes}
use Rattle.rep_record.proofs.Kept.{each_from, keep_write}
use Rattle.rep_record.proofs.item_line.read_writes.Given as goal

abbrev pub invariant-loop-word : goal.invariant-loop-word
invariant-loop-word l = each_from keep_write write_in (l.writes.items, l.has_long) l.words ≡ option_map drafted_writes (each write_in l.initial.words)

abbrev pub decreases-loop-word : goal.decreases-loop-word
decreases-loop-word l = length l.words
