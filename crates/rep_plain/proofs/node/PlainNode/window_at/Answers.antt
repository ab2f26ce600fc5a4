use Rattle.std.proofs.Common.{◌≡◌, ap, ◌∙◌, take, List}
use Rattle.rep_types.specs.Entries.{Entry}
use Rattle.rep_types.specs.Windows.{Window}
use Rattle.rep_types.specs.Reaches.{reach}
use Rattle.rep_types.specs.Order.{Order, items_of, history}
use Rattle.rep_types.proofs.Histories.{take_history, items_history}
use Rattle.rep_plain.proofs.Scans.{window_from}
use Rattle.rep_plain.proofs.node.PlainNode.window_at.Goals as goal

pub returns-clause-window : goal.returns-clause-window
returns-clause-window c =
    let node = c.args.self.now in
    let front : Order = take c.args.s node.order in
    let whole : c.deref.result.now ≡ history node.setting node.order = rw (← c.self.view_is) (c.deref.ensures.value ∙ c.self.invariant.0) in
    let first : take c.args.s c.deref.result.now ≡ history node.setting front = ap (take c.args.s) whole ∙ take_history node.setting node.order c.args.s in
    let far : c.reach_of-reach.result ≡ reach node.setting front =
    rw (← c.self.view_is) c.reach_of-reach.ensures ∙ ap (reach node.setting) (ap items_of first ∙ items_history node.setting front) in
    let made : List Entry → Window = λ es. record { size = c.reach_of-reach.result.size; floor = c.reach_of-reach.result.floor; entries = es } in
    c.new.ensures ∙ (ap made c.in_ok-entries.ensures.recent ∙ window_from node.setting front (take c.args.s c.deref.result.now) c.reach_of-reach.result first far)
