use Rattle.std.proofs.Common.{◌-◌, IfSome}
use Rattle.rep_record.specs.Lines.{ahead, IsTooLong}
use Rattle.rep_script.specs.Scripts.{disk_line, Does}
use Rattle.rep_script.proofs.Noting.{GoesOn}
use Rattle.rep_script.proofs.Scripting.{HasRun}
use Rattle.rep_script.proofs.script.run_lines.Given as goal

-- the commands of the lines so far were done
abbrev pub invariant-lines : goal.invariant-lines
invariant-lines g l = record {
  done : IfSome (ahead l.initial.text (g.R.Source.remaining l.initial.reader)) (λ known.
      HasRun (Does g.D.Disk) disk_line known l.initial.text l.initial.replica l.text
      (ahead l.text (g.R.Source.remaining l.reader)) l.replica);
  noted : GoesOn (IsTooLong l.initial.text (g.R.Source.remaining l.initial.reader)) (IsTooLong l.text (g.R.Source.remaining l.reader))
      (g.R.Source.failed l.initial.reader) (g.R.Source.failed l.reader) (g.W.Sink.failed l.initial.writer) (g.W.Sink.failed l.writer);
}

-- what is left of the limit of a text
abbrev pub decreases-lines : goal.decreases-lines
decreases-lines g l = 67108864 - l.text.taken
