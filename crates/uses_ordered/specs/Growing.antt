-- What passed a station stays so as the history grows.
use Rattle.std.specs.Prelude.{ℕ, List, ◌++◌}
use Rattle.std.proofs.Common.{ap, ◌∙◌, append_assoc}
use Rattle.uses_ordered.specs.Passing.{HavePassed}

pub passed_grows : (start number : ℕ) (history more tickets : List ℕ) → HavePassed start number history tickets → HavePassed start number (history ++ more) tickets
passed_grows start number history more tickets h = record {
  count = h.count;
  all = h.all;
  front = (h.front.0 ++ more, ap (λ l. l ++ more) h.front.1 ∙ append_assoc tickets h.front.0 more);
}
