use Rattle.std.proofs.Common.{◌≡◌, ◌≤◌, ◌-◌, length, take}
use Rattle.std.specs.Io.KnownBytes.{Consumes}
use Rattle.rep_transfer.proofs.reader.read_into.Given as goal

abbrev pub decreases-loop-count : goal.decreases-loop-count
decreases-loop-count g l = length l.room - l.count

-- what was read so far stands at the front of the room
abbrev pub invariant-loop-count : goal.invariant-loop-count
invariant-loop-count g l = (l.count ≤ length l.room) × (g.R.Source.failed l.reader ≡ g.R.Source.failed l.initial.reader) × Consumes (g.R.Source.remaining l.initial.reader) (g.R.Source.remaining l.reader) (take l.count l.room)
