use Rattle.std.proofs.Common.{◌-◌, IfSome}
use Rattle.rep_record.specs.Lines.{ahead, IsTooLong}
use Rattle.rep_script.proofs.Noting.{ReadsOn}
use Rattle.rep_serve.proofs.Reading.{HasRead}
use Rattle.rep_serve.proofs.serve.read_into.Given as goal

-- the items of the lines so far were read
abbrev pub invariant-lines : goal.invariant-lines
invariant-lines g l = record {
  read : IfSome (ahead l.initial.text (g.R.Source.remaining l.initial.reader)) (λ known. HasRead known l.initial.text l.items.items l.text (ahead l.text (g.R.Source.remaining l.reader)));
  noted : ReadsOn (IsTooLong l.initial.text (g.R.Source.remaining l.initial.reader)) (IsTooLong l.text (g.R.Source.remaining l.reader)) (g.R.Source.failed l.initial.reader) (g.R.Source.failed l.reader);
}

-- what is left of the limit of a text
abbrev pub decreases-lines : goal.decreases-lines
decreases-lines g l = 67108864 - l.text.taken
