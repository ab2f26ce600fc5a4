use Rattle.std.proofs.Common.{◌-◌}
use Rattle.rep_record.specs.Lines.{ahead, IsTooLong}
use Rattle.rep_script.proofs.Noting.{ReadsOn}
use Rattle.rep_script.proofs.Stepping.{NeitherSaid}
use Rattle.rep_script.proofs.judge.read_params.Given as goal

-- the lines so far said nothing
abbrev pub invariant-lines : goal.invariant-lines
invariant-lines g l = record {
  said : NeitherSaid (ahead l.initial.text (g.R.Source.remaining l.initial.reader)) l.initial.text l.text (ahead l.text (g.R.Source.remaining l.reader));
  noted : ReadsOn (IsTooLong l.initial.text (g.R.Source.remaining l.initial.reader)) (IsTooLong l.text (g.R.Source.remaining l.reader)) (g.R.Source.failed l.initial.reader) (g.R.Source.failed l.reader);
}

-- what is left of the limit of a text
abbrev pub decreases-lines : goal.decreases-lines
decreases-lines g l = 67108864 - l.text.taken
