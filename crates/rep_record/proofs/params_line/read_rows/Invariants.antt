use Rattle.std.proofs.Common.{◌≡◌, ◌^◌, length, take}
use Rattle.std.specs.Option.{option_map}
use Rattle.rep_record.specs.Reading.{number_in, each}
use Rattle.rep_record.proofs.Kept.{keep, each_from}
use Rattle.rep_record.proofs.params_line.read_rows.Given as goal

abbrev pub invariant-loop-word : goal.invariant-loop-word
invariant-loop-word l = each_from (keep 9) (number_in (2 ^ 32)) l.rows.items l.words ≡ option_map (take 9) (each (number_in (2 ^ 32)) l.initial.words)

abbrev pub decreases-loop-word : goal.decreases-loop-word
decreases-loop-word l = length l.words
