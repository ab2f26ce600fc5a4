use Rattle.std.proofs.Common.{Ok, Err}
use Rattle.rep_service.proofs.commands.answer_donate.Goals as goal

pub returns-in-Ok-clause-tells : goal.returns-in-Ok-clause-tells
returns-in-Ok-clause-tells g c = record {
  mid = c.commit.new.replica;
  between = g.W.Sink.contents c.commit.new.writer;
  committed = Ok c.in_default.field-0;
  tells = c.in_default.ensures.tells;
  transfer = (c.in-Ok.ensures.asked, (Ok c.in-Ok.last, c.donated_text.ensures.written));
}

pub returns-in-Err-donate_between-clause-tells : goal.returns-in-Err-donate_between-clause-tells
returns-in-Err-donate_between-clause-tells g c = record {
  mid = c.commit.new.replica;
  between = g.W.Sink.contents c.commit.new.writer;
  committed = Ok c.in_default.field-0;
  tells = c.in_default.ensures.tells;
  transfer = (c.in-Err-donate_between.ensures.asked, (Err c.in-Err-donate_between.refusal, c.refuse.ensures.refuses));
}
