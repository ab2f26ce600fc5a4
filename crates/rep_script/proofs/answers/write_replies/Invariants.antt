use Rattle.std.proofs.Common.{◌≡◌}
use Rattle.rep_script.proofs.answers.write_replies.Given as goal

-- the writer has not failed meanwhile
abbrev pub invariant-loop-reply : goal.invariant-loop-reply
invariant-loop-reply g l = g.W.Sink.failed l.writer ≡ g.W.Sink.failed l.initial.writer
