use Rattle.std.proofs.Common.{◌≡◌, ℕ, ◌-◌, List, length, ◌∙◌, ap, drop, arith}
use Rattle.std.proofs.lemmas.List.{length-drop, take_all}
use Rattle.rep_types.specs.declared.judged.Judged.{Judged}
use Rattle.rep_types.specs.Order.{history, entries, greatest, seqnos_against}
use Rattle.rep_plain.proofs.Scans.{greatest_unseen}
use Rattle.rep_plain.proofs.node.PlainNode.greatest_conflict.Goals as goal

pub returns : goal.returns
returns c =
    let node = c.args.self.now in
    let w = c.args.item.now in
    let items : List Judged = c.deref.result.now in
    let seen : ℕ = c.last_seen.result in
    let whole : items ≡ history node.setting node.order = rw (← c.self.view_is) (c.deref.ensures.value ∙ c.self.invariant.0) in
    c.greatest_conflict.ensures
    ∙ (ap (λ (h : List Judged). greatest (seqnos_against w (entries h)))
    (take_all (length items - seen) (drop seen items) (omega (arith, length-drop seen items)) ∙ (ap (λ (n : ℕ). drop n items) c.last_seen.ensures ∙ ap (drop w.last_seen) whole))
    ∙ greatest_unseen node.setting node.order w)
