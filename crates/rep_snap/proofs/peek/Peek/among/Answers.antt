use Rattle.std.proofs.Common.{rules}
use Rattle.rep_snap.proofs.peek.Peek.among.Goals as goal

pub returns-in-Below : goal.returns-in-Below
returns-in-Below c = search rules
