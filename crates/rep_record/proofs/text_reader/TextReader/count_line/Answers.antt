use Rattle.std.proofs.Common.{rules}
use Rattle.rep_record.proofs.text_reader.TextReader.count_line.Goals as goal

pub returns-then-length-eq0 : goal.returns-then-length-eq0
returns-then-length-eq0 c = search rules
