use Rattle.rep_lines.proofs.Clipping.{are_within, clipped_first, clipped_line, lines_clipped, unended_clipped}
use Rattle.rep_lines.proofs.laws.long_lines_are_clipped.Goals as goal

pub returns : goal.returns
returns c = record {
  first = λ line rest none. clipped_first line rest (are_within line none);
  last = λ line none. clipped_line 0 line (are_within line none);
  lines = lines_clipped;
  rest = unended_clipped;
}
