use Rattle.rep_record.proofs.Publishing.{its_text}
use Rattle.rep_record.proofs.published.no_effect.Goals as goal

pub returns-clause-text : goal.returns-clause-text
returns-clause-text c = its_text
