use Rattle.rep_service.proofs.Telling.{own_refused}
use Rattle.rep_service.proofs.commands.answer_wrong.Goals as goal

pub returns-clause-tells : goal.returns-clause-tells
returns-clause-tells g c = own_refused (λ said. ⊥) c.args.refusal _ _ c.write_refused.result c.write_refused.ensures.told c.write_refused.ensures.refused
