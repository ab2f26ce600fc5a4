use Rattle.std.proofs.Common.{◌+◌, [], ◌∷◌, ◌++◌, length, sym, ap, ◌∙◌}
use Rattle.rep_types.specs.declared.item.Item.{Item}
use Rattle.rep_types.specs.declared.item.Item.TheVariants.{WriteSet, SetWindow}
use Rattle.rep_types.specs.Order.{verdict}
use Rattle.rep_types.proofs.Histories.{verdict_push}
use Rattle.rep_plain.proofs.node.PlainNode.judge.Goals as goal

pub returns-in-WriteSet : goal.returns-in-WriteSet
returns-in-WriteSet c =
    let node = c.args.self.now in
    c.judge_write_set.ensures
    ∙ (sym (verdict_push node.setting node.order (WriteSet c.in-WriteSet.write_set))
    ∙ ap (λ (i : Item). verdict node.setting (node.order ++ i ∷ []) (length node.order + 1)) (sym c.in-WriteSet.is))

pub returns-in-SetWindow : goal.returns-in-SetWindow
returns-in-SetWindow c =
    let node = c.args.self.now in
    sym (verdict_push node.setting node.order (SetWindow c.in-SetWindow.field-0))
    ∙ ap (λ (i : Item). verdict node.setting (node.order ++ i ∷ []) (length node.order + 1)) (sym c.in-SetWindow.is)
