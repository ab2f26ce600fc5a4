use Rattle.std.proofs.Common.{refl, Ok, Err}
use Rattle.rep_follow.proofs.Beginning.{begun_why, begun_runs}
use Rattle.rep_follow.proofs.blocks.commit_and_begin.Goals as goal

pub returns-in-Ok-clause-tells : goal.returns-in-Ok-clause-tells
returns-in-Ok-clause-tells g c = record { mid = c.commit_next.new.replica; told = Ok c.in-Ok.field-0; tells = c.in-Ok.ensures.tells; begins = c.begin_if_due.ensures }

pub returns-in-Ok-clause-running : goal.returns-in-Ok-clause-running
returns-in-Ok-clause-running g c = begun_runs g.D.Disk c.commit_next.new.replica c.begin_if_due.new.replica c.begin_if_due.result c.begin_if_due.ensures c.in-Ok.ensures.running

pub returns-in-Ok-clause-refused : goal.returns-in-Ok-clause-refused
returns-in-Ok-clause-refused g c = begun_why g.D.Disk c.commit_next.new.replica c.begin_if_due.new.replica c.begin_if_due.result c.begin_if_due.ensures

pub returns-in-Err-clause-tells : goal.returns-in-Err-clause-tells
returns-in-Err-clause-tells g c = record { mid = c.commit_next.new.replica; told = Err c.in-Err.refusal; tells = c.in-Err.ensures.tells; begins = (refl, refl) }
