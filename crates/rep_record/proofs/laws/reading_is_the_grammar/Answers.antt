use Rattle.std.proofs.Common.{sym, ◌∙◌}
use Rattle.std.proofs.lemmas.Option.{same_Some}
use Rattle.rep_record.proofs.Parts.{item_means, change_means, order_means, params_mean}
use Rattle.rep_record.proofs.laws.reading_is_the_grammar.Goals as goal

pub returns : goal.returns
returns c = record {
  items = λ line w. ((item_means.found line).of w, item_means.again line w);
  one_item = λ line v w h k. same_Some v w (sym (item_means.again line v h) ∙ item_means.again line w k);
  changes = λ line c. ((change_means.found line).of c, change_means.again line c);
  one_change = λ line c d h k. same_Some c d (sym (change_means.again line c h) ∙ change_means.again line d k);
  order = λ line i. ((order_means.found line).of i, order_means.again line i);
  one_of_order = λ line i j h k. same_Some i j (sym (order_means.again line i h) ∙ order_means.again line j k);
  params = λ line p. ((params_mean.found line).of p, params_mean.again line p);
  one_setting = λ line p q h k. same_Some p q (sym (params_mean.again line p h) ∙ params_mean.again line q k);
}
