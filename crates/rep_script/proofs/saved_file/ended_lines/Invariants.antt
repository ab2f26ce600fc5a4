use Rattle.std.proofs.Common.{◌≡◌, length}
use Rattle.rep_script.specs.SavedTexts.{ended_lines}
use Rattle.rep_script.proofs.saved_file.ended_lines.Given as goal

abbrev pub invariant-loop-lines : goal.invariant-loop-lines
invariant-loop-lines l = ended_lines l.bytes ≡ ended_lines l.lines

abbrev pub decreases-loop-lines : goal.decreases-loop-lines
decreases-loop-lines l = length l.lines
