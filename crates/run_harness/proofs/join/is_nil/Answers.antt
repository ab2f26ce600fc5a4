use Rattle.std.proofs.Common.{sym, ◌∙◌}
use Rattle.std.proofs.lemmas.Slice.Eq.{bytes_eq-Decides}
use Rattle.uuid.specs.Parts.{zero_bytes}
use Rattle.run_harness.proofs.join.is_nil.Goals as goal

pub returns : goal.returns
returns c =
    let decides = bytes_eq-Decides c.args.uuid.now zero_bytes in
    (λ e. decides.0 (sym c.is_nil.ensures.value ∙ e), λ nil. c.is_nil.ensures.value ∙ decides.1 nil)
