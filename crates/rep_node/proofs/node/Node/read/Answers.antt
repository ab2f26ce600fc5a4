use Rattle.std.proofs.Common.{◌≡◌, Result, Some, None, Ok, refl, ap, ◌∙◌, subst, IfErr}
use Rattle.rep_types.specs.declared.judged.Judged.{Judged}
use Rattle.rep_types.specs.declared.refusal.Refusal.{Refusal}
use Rattle.rep_snap.specs.declared.peek.Peek.{Peek}
use Rattle.rep_snap.specs.declared.peek.Peek.TheVariants.{Value, Absent, Cold}
use Rattle.rep_snap.specs.Doors.{FoundShut}
use Rattle.rep_ordered.specs.Seats.{Place}
use Rattle.rep_node.specs.declared.home.Home.{Home}
use Rattle.rep_node.specs.Reading.{AsksEngine, RefusesAsked}
use Rattle.rep_node.proofs.Keeps.{invariant_idle}
use Rattle.rep_node.proofs.Peeks.{Peeked, reads_so, refuses_as_asked, row_shown, sees_more}
use Rattle.rep_node.proofs.node.Node.read.Goals as goal

pub invariant_of-seat : goal.invariant_of-seat
invariant_of-seat g c = invariant_idle g.D.Disk c.seat.inside.seat.view c.ask-row.new.seat.view c.seat.inside.allowance c.seat.invariant c.ask-row.ensures.idle

pub returns-in-Ok-Cold-clause-reads : goal.returns-in-Ok-Cold-clause-reads
returns-in-Ok-Cold-clause-reads g c =
    let shut = FoundShut g.W.Door.knows g.W.Door.shut in
    let cold : c.peek-reader.result.1 ≡ Ok Cold = c.in-Ok-Cold.is ∙ ap (λ (p : Peek). Ok p) c.in-Ok-Cold.field-0-is in
    reads_so g.D.Disk c.args.seat.now.view c.ask-row.new.seat.view shut c.args.reader c.peek-reader.result.0 c.args.key c.args.at (Ok Cold) c.ask-row.result
    (subst (λ (z : Result Peek Refusal). Peeked shut c.args.reader c.args.key c.args.at c.peek-reader.result.0 z) cold c.peek-reader.ensures.answer)
    (subst (λ (z : Place (Home g.row.D.Denot) Judged). AsksEngine g.D.Disk z.view c.ask-row.new.seat.view c.args.key c.args.at c.ask-row.result) c.seat.view_is c.ask-row.ensures.asked)

pub returns-in-Ok-Cold-clause-refused : goal.returns-in-Ok-Cold-clause-refused
returns-in-Ok-Cold-clause-refused g c =
    refuses_as_asked g.D.Disk c.args.seat.now.view c.ask-row.new.seat.view (FoundShut g.W.Door.knows g.W.Door.shut) c.args.reader c.peek-reader.result.0 c.args.key c.args.at c.ask-row.result
    (subst (λ (z : Place (Home g.row.D.Denot) Judged). IfErr c.ask-row.result (RefusesAsked g.D.Disk z.view c.ask-row.new.seat.view c.args.key c.args.at)) c.seat.view_is c.ask-row.ensures.refused)

pub returns-in-Ok-Value-clause-row : goal.returns-in-Ok-Value-clause-row
returns-in-Ok-Value-clause-row g c =
    let shut = FoundShut g.W.Door.knows g.W.Door.shut in
    let said : c.peek-reader.result.1 ≡ Ok (Value c.in-Ok-Value.value) = c.in-Ok-Value.is ∙ ap (λ (p : Peek). Ok p) c.in-Ok-Value.field-0-is in
    row_shown g.D.Disk c.args.seat.now.view c.is_one.ensures.seat c.args.reader c.requires.own c.peeks_follow_the_fold.ensures c.versions_follow_the_items.ensures c.history_by_items.ensures c.histories_extend_the_order.ensures c.args.seat.now.view shut c.peek-reader.result.0 c.args.key c.args.at (Value c.in-Ok-Value.value)
    (subst (λ (z : Result Peek Refusal). Peeked shut c.args.reader c.args.key c.args.at c.peek-reader.result.0 z) said c.peek-reader.ensures.answer) (Some c.in-Ok-Value.value) (λ below. refl)

pub returns-in-Ok-Absent-clause-row : goal.returns-in-Ok-Absent-clause-row
returns-in-Ok-Absent-clause-row g c =
    let shut = FoundShut g.W.Door.knows g.W.Door.shut in
    let said : c.peek-reader.result.1 ≡ Ok Absent = c.in-Ok-Absent.is ∙ ap (λ (p : Peek). Ok p) c.in-Ok-Absent.field-0-is in
    row_shown g.D.Disk c.args.seat.now.view c.is_one.ensures.seat c.args.reader c.requires.own c.peeks_follow_the_fold.ensures c.versions_follow_the_items.ensures c.history_by_items.ensures c.histories_extend_the_order.ensures c.args.seat.now.view shut c.peek-reader.result.0 c.args.key c.args.at Absent
    (subst (λ (z : Result Peek Refusal). Peeked shut c.args.reader c.args.key c.args.at c.peek-reader.result.0 z) said c.peek-reader.ensures.answer) None (λ below. refl)

pub returns-in-Err-clause-seen : goal.returns-in-Err-clause-seen
returns-in-Err-clause-seen g c = sees_more (FoundShut g.W.Door.knows g.W.Door.shut) c.args.reader c.peek-reader.result.0 c.args.key c.args.at c.peek-reader.result.1 c.peek-reader.ensures.answer
