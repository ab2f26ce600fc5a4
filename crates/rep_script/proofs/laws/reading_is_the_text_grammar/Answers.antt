use Rattle.rep_script.proofs.OrderTexts.{order_text_found, order_text_again, order_text_one}
use Rattle.rep_script.proofs.laws.reading_is_the_text_grammar.Goals as goal

pub returns : goal.returns
returns c = record {
  reads = λ text p L. (order_text_found text p L, order_text_again text p L);
  one = order_text_one;
}
