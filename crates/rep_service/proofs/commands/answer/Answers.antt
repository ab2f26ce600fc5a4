use Rattle.std.proofs.Common.{sym, ap, subst}
use Rattle.rep_requests.specs.Requests.{said_of}
use Rattle.rep_service.specs.Commanding.{DoesAt, TellsDonation, done_of}
use Rattle.rep_service.proofs.Telling.{done_is}
use Rattle.rep_service.proofs.commands.answer.Goals as goal

pub returns-in-Donate-clause-does : goal.returns-in-Donate-clause-does
returns-in-Donate-clause-does g c =
    let held = g.W.Sink.contents in
    let done = done_is c.answer_donate.result c.no_item-in-Donate.result c.no_item-in-Donate.ensures in
    let tells = subst (TellsDonation g.D.Disk c.args.replica.now c.answer_donate.new.replica c.args.counts.now c.answer_donate.new.counts (held c.args.writer.now) (held c.answer_donate.new.writer)) (sym done) c.answer_donate.ensures.tells in
    subst (λ said. DoesAt g.D.Disk said c.args.replica.now c.answer_donate.new.replica c.args.counts.now c.answer_donate.new.counts (held c.args.writer.now) (held c.answer_donate.new.writer) (done_of c.no_item-in-Donate.result)) (sym (ap said_of c.in-Donate.is)) tells
