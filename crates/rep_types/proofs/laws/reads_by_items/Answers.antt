use Rattle.std.proofs.Common.{refl, ap}
use Rattle.std.proofs.lemmas.List.{take-append-le}
use Rattle.rep_types.specs.Order.{Order, rows}
use Rattle.rep_types.proofs.laws.reads_by_items.Goals as goal

pub returns : goal.returns
returns c = record {
  rows = λ p L key s. refl;
  stays = λ p L M key s inside. ap (λ (K : Order). rows p K key) (take-append-le s L M inside);
}
