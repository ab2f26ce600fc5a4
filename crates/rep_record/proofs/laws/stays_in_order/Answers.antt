use Rattle.rep_record.proofs.Gathering.{SeqnosFrom_push, SeqnosFrom-drop, SeqnosFrom-take}
use Rattle.rep_record.proofs.laws.stays_in_order.Goals as goal

pub returns : goal.returns
returns c = record { pushed = SeqnosFrom_push; drained = SeqnosFrom-drop; front = SeqnosFrom-take }
