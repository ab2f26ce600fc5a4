use Rattle.std.proofs.Common.{Err, ap}
use Rattle.rep_types.specs.declared.refusal.Refusal.TheVariants.{DiskFault}
use Rattle.rep_types.specs.declared.refusal.Refusal.{Refusal}
use Rattle.rep_transfer.specs.Transfers.{transfer_bytes}
use Rattle.uses_catchup.proofs.CatchingUp.{written_is, refused_for, fault_told, err_is, ok_other}
use Rattle.uses_catchup.proofs.give.Goals as goal

pub returns-in-Ok-clause-given : goal.returns-in-Ok-clause-given
returns-in-Ok-clause-given g c = λ n holds.
    let given = c.in-Ok.ensures.donated n holds in
    (given.0, given.1, written_is c.args.room.now c.donate.new.writer (transfer_bytes given.0) c.requires given.3)

pub returns-in-Ok-clause-donor : goal.returns-in-Ok-clause-donor
returns-in-Ok-clause-donor g c = λ n holds other. c.donate.ensures.holds n holds (ok_other c.in-Ok.field-0 DiskFault c.donate.result c.in-Ok.is)

pub returns-in-Err-clause-refused : goal.returns-in-Err-clause-refused
returns-in-Err-clause-refused g c = λ n holds first.
    refused_for c.in-Err.refusal c.in_memory.result c.in_memory.ensures (c.in-Err.ensures.early first) (λ part is. c.in-Err.ensures.whole n holds part (ap (λ (e : Refusal). Err e) is))

pub returns-in-Err-clause-donor : goal.returns-in-Err-clause-donor
returns-in-Err-clause-donor g c = λ n holds other.
    c.donate.ensures.holds n holds (λ fault. other (ap (λ (e : Refusal). Err e) (fault_told c.in-Err.refusal c.in_memory.result c.in_memory.ensures (err_is c.in-Err.refusal DiskFault c.donate.result c.in-Err.is fault))))
