use Rattle.std.proofs.Common.{List, take, ap, ◌∙◌, arith}
use Rattle.std.proofs.lemmas.List.{take-replicate}
use Rattle.rep_layout.specs.declared.page_state.PageState.{PageState}
use Rattle.rep_layout.specs.declared.page_state.PageState.TheVariants.{Nowhere}
use Rattle.rep_checkpoint.proofs.install.no_pages.Goals as goal

pub returns : goal.returns
returns c =
    let items = c.truncate.ensures.items ∙ ap (λ (xs : List PageState). take c.args.count xs) c.from-pages.ensures.0 ∙ take-replicate c.args.count 4096 Nowhere (omega (arith, c.requires)) in
    λ i. record { items = items i }
