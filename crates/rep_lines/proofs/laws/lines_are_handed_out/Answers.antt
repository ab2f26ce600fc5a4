use Rattle.rep_lines.proofs.Clipping.{are_within, first_line, no_line, unended_behind, unended_all}
use Rattle.rep_lines.proofs.laws.lines_are_handed_out.Goals as goal

pub returns : goal.returns
returns c = record {
  first = λ line rest none. first_line line rest (are_within line none);
  behind = λ line rest none. unended_behind line rest (are_within line none);
  none = λ text none. no_line text (are_within text none);
  all = unended_all;
}
