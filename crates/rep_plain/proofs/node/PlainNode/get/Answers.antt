use Rattle.std.proofs.Common.{◌≡◌, ◌∙◌, ap, take}
use Rattle.rep_types.specs.Order.{history, effects, row_in}
use Rattle.rep_types.proofs.Histories.{take_history}
use Rattle.rep_plain.proofs.node.PlainNode.get.Goals as goal

pub returns : goal.returns
returns c =
    let node = c.args.self.now in
    let whole : c.deref.result.now ≡ history node.setting node.order = rw (← c.self.view_is) (c.deref.ensures.value ∙ c.self.invariant.0) in
    c.row_of.ensures ∙ ap (λ h. row_in (effects h) c.args.key) (ap (take c.args.s) whole ∙ take_history node.setting node.order c.args.s)
