use Rattle.std.proofs.Common.{rules}
use Rattle.rep_record.proofs.text_reader.TextReader.fill.Goals as goal

pub returns-clause-end : goal.returns-clause-end
returns-clause-end g c = search rules
