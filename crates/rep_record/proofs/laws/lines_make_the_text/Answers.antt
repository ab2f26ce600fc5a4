use Rattle.rep_record.proofs.TextLines.{are_lines}
use Rattle.rep_record.proofs.laws.lines_make_the_text.Goals as goal

pub returns : goal.returns
returns c = are_lines c.args.text.now
