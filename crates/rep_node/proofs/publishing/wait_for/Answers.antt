use Rattle.std.proofs.Common.{ap, ◌∙◌, ◌++◌, ◌∷◌, []}
use Rattle.rep_node.proofs.Publishes.{shown_more}
use Rattle.rep_node.proofs.publishing.wait_for.Goals as goal

pub loop-i-preserved : goal.loop-i-preserved
loop-i-preserved c = c.push.ensures ∙ ap (λ p. c.loop-i.waiting ++ p ∷ []) c.shown_of.ensures ∙ shown_more c.loop-i.waiting c.args.waiting.now c.args.backlog.now c.loop-i.i c.in-Some.judged.now c.loop-i.invariant c.in-Some.ensures
