use Rattle.std.proofs.Common.{◌∙◌, None, Some, Ok, Err, ap}
use Rattle.rep_requests.specs.Requests.{requested, said_of}
use Rattle.rep_service.proofs.Reaching.{is_item, is_answered}
use Rattle.rep_service.proofs.Saying.{own_by}
use Rattle.rep_service.proofs.Own.{own_answer}
use Rattle.rep_service.proofs.Lives.{did}
use Rattle.rep_service.proofs.Items.{line_item}
use Rattle.rep_service.proofs.Following.{line_none, line_not, line_taken}
use Rattle.rep_service.proofs.service.follow_line.Goals as goal

pub returns-in-Ok-None-clause-takes : goal.returns-in-Ok-None-clause-takes
returns-in-Ok-None-clause-takes g c =
    let next = c.args.next.now in
    let line = c.args.input.now.line.items in
    let number = c.args.input.now.number in
    let request = said_of c.read_request-request.result in
    let done = did g.D.Disk c.parts_are_joined.ensures c.going_is_joined.ensures request c.args.replica.now c.answer.new.replica _ _ _ _ (Ok tt) c.in-Ok-None.ensures.does in
    let is = is_answered next number line c.as_slice.result.now request c.answer.result c.as_slice.ensures.value c.read_request-request.ensures c.answer.ensures.comes (c.in-Ok-None.is ∙ ap Ok c.in-Ok-None.field-0-is) in
    line_none g.D.Disk c.parts_are_joined.ensures next number line request (c.read_request-request.ensures ∙ ap (requested number) c.as_slice.ensures.value) c.args.replica.now c.answer.new.replica _ _ done (line_item next is.0 line None is.1)

pub returns-in-Ok-Some-clause-takes : goal.returns-in-Ok-Some-clause-takes
returns-in-Ok-Some-clause-takes g c =
    let next = c.args.next.now in
    let line = c.args.input.now.line.items in
    let number = c.args.input.now.number in
    let request = said_of c.read_request-request.result in
    let done = did g.D.Disk c.parts_are_joined.ensures c.going_is_joined.ensures request c.args.replica.now c.answer.new.replica _ _ _ _ (Ok tt) c.in-Ok-Some.ensures.does in
    let is = is_item next number line c.as_slice.result.now request c.answer.result c.as_slice.ensures.value c.read_request-request.ensures c.answer.ensures.comes c.in-Ok-Some.item (c.in-Ok-Some.is ∙ ap Ok c.in-Ok-Some.field-0-is) in
    line_taken g.D.Disk c.parts_are_joined.ensures next number line request (c.read_request-request.ensures ∙ ap (requested number) c.as_slice.ensures.value) c.args.replica.now c.answer.new.replica _ _ c.take_stated.new.replica _ c.take_stated.ensures.lives.0 c.in-Ok-Some.item c.take_stated.new.next c.take_stated.result c.take_stated.ensures.own
    done (line_item next is.0 line (Some c.in-Ok-Some.item) is.1) c.take_stated.ensures.lives.1 c.take_stated.ensures.next

pub returns-in-Err-clause-takes : goal.returns-in-Err-clause-takes
returns-in-Err-clause-takes g c =
    let line = c.args.input.now.line.items in
    let number = c.args.input.now.number in
    let request = said_of c.read_request-request.result in
    let done = did g.D.Disk c.parts_are_joined.ensures c.going_is_joined.ensures request c.args.replica.now c.answer.new.replica _ _ _ _ (Err c.in-Err.refusal) c.in-Err.ensures.does in
    line_not g.D.Disk c.parts_are_joined.ensures c.args.next.now number line request (c.read_request-request.ensures ∙ ap (requested number) c.as_slice.ensures.value) c.args.replica.now c.answer.new.replica _ _ c.in-Err.refusal c.args.next.now (own_by c.in-Err.refusal (own_answer c.args.next.now number request c.answer.result c.in-Err.refusal c.answer.ensures.comes c.in-Err.is)) done
