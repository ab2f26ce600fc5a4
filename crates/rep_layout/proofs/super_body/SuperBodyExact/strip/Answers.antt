use Rattle.std.proofs.Common.{rules}
use Rattle.rep_layout.proofs.super_body.SuperBodyExact.strip.Goals as goal

pub returns : goal.returns
returns c = search rules
