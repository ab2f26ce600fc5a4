use Rattle.std.proofs.Common.{◌≡◌, true, false, ap, sym, ◌∙◌}
use Rattle.rep_steps.specs.Standings.{Standing}
use Rattle.uses_catchup.proofs.CatchingUp.{caught, refused, fault_rises}
use Rattle.uses_catchup.proofs.take.Goals as goal

pub returns-clause-caught : goal.returns-clause-caught
returns-clause-caught g c = λ O n k have t given are holds.
    caught g.D.Disk O n k have t given c.args.joiner c.join-joined.result.0 holds c.transfers_are_told.ensures c.joiners_hold_the_order.ensures c.new-transfer.result.bytes.now _ c.join-joined.result.1
    (c.new-transfer.ensures ∙ are) (c.join-joined.ensures.joined k holds)

pub returns-clause-refused : goal.returns-clause-refused
returns-clause-refused g c = λ O n k have t given are holds.
    refused g.D.Disk O n k have t given c.args.joiner c.join-joined.result.0 holds c.parts_are_told.ensures c.donated_parts_come_next.ensures c.certifiers_judge_as_nodes.ensures c.new-transfer.result.bytes.now c.join-joined.result.1
    (c.new-transfer.ensures ∙ are) (λ stream. let never : false ≡ true = c.join-joined.ensures.notes.fault stream in cc) c.join-joined.ensures.tells
    (c.join-joined.ensures.ended (ap (λ (s : Standing). s.stopped) (sym holds.facts) ∙ given.may.joiner_runs))

pub returns-clause-fault : goal.returns-clause-fault
returns-clause-fault g c = fault_rises g.D.Disk c.args.joiner c.join-joined.result.0 c.join-joined.result.1 c.join-joined.ensures.tells
