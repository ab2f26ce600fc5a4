use Rattle.rep_requests.proofs.Numbered.{item_or_broken, no_item, written_again, front_says_all}
use Rattle.rep_requests.proofs.laws.numbers_are_items.Goals as goal

pub returns : goal.returns
returns c = record {
  digit = item_or_broken;
  other = no_item;
  written = written_again;
  clipped = front_says_all;
}
