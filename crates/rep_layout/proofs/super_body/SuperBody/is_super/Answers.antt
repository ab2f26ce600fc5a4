use Rattle.std.proofs.Common.{rules}
use Rattle.rep_layout.proofs.super_body.SuperBody.is_super.Goals as goal

pub returns-then-self-eq0-2 : goal.returns-then-self-eq0-2
returns-then-self-eq0-2 c = search rules
