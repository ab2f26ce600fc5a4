use Rattle.std.proofs.Common.{◌≡◌, ◌≤◌, ◌-◌, [], IfSome}
use Rattle.rep_record.specs.Lines.{ahead, IsTooLong}
use Rattle.rep_script.proofs.Noting.{GoesOn}
use Rattle.rep_script.proofs.Progress.{HasCertified}
use Rattle.rep_script.proofs.judge.judge_lines.Given as goal

-- each item had a line, and the items of the lines so far were judged
abbrev pub invariant-lines : goal.invariant-lines
invariant-lines g l = record {
  left : l.certifier.current.delivered ≤ l.text.number;
  judged : l.initial.waiting.bytes ≡ [] → IfSome (ahead l.initial.text (g.R.Source.remaining l.initial.reader)) (λ known.
      HasCertified known l.initial.text l.initial.certifier.current.setting l.certifier.current l.text (ahead l.text (g.R.Source.remaining l.reader))
      (g.W.Sink.contents l.initial.writer) (g.W.Sink.contents l.writer) l.waiting.bytes);
  noted : GoesOn (IsTooLong l.initial.text (g.R.Source.remaining l.initial.reader)) (IsTooLong l.text (g.R.Source.remaining l.reader))
      (g.R.Source.failed l.initial.reader) (g.R.Source.failed l.reader) (g.W.Sink.failed l.initial.writer) (g.W.Sink.failed l.writer);
}

-- what is left of the limit of a text
abbrev pub decreases-lines : goal.decreases-lines
decreases-lines g l = 67108864 - l.text.taken
