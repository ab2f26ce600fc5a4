use Rattle.std.proofs.Common.{◌∙◌, ◌++◌, sym, ap, subst, append_assoc, arith, List}
use Rattle.rep_snap.specs.declared.change.Pair.{Pair}
use Rattle.rep_snap.specs.Lists.{published}
use Rattle.rep_cert.specs.Holdings.{Holdings}
use Rattle.rep_node.specs.Publishing.{AreShown}
use Rattle.rep_node.proofs.Publishes.{due_above, due_shown, due_reaches, one_certifier, after_publish}
use Rattle.rep_node.proofs.publishing.publish_upto.Goals as goal

pub publish_all-publisher-requires-clause-above : goal.publish_all-publisher-requires-clause-above
publish_all-publisher-requires-clause-above g c = let a = c.requires.allowed in due_above a.0.current c.args.publisher.start a.2 _ c.upto-due.result.now _ c.args.waiting.now a.3 c.upto-due.ensures.first

pub publish_all-publisher-requires-clause-allowed : goal.publish_all-publisher-requires-clause-allowed
publish_all-publisher-requires-clause-allowed g c d also =
    let a = c.requires.allowed in
    subst (λ (h : Holdings). AreShown h.current (published c.args.publisher.list ++ c.upto-due.result.now)) (sym (one_certifier c.args.publisher.basis.certifier.log a.0 d a.1 also))
    (due_shown a.0.current c.args.publisher.start a.2 _ c.upto-due.result.now _ c.args.waiting.now a.3 c.upto-due.ensures.first)

pub returns-in-Ok-clause-whole : goal.returns-in-Ok-clause-whole
returns-in-Ok-clause-whole g c =
    let before = published c.args.publisher.list in
    let due = c.upto-due.result.now in
    let after = after_publish c.histories_grow.ensures c.args.publisher c.publish_all-publisher.result.0 c.publish_all-publisher.result.1 c.in-Ok.field-0 due c.in-Ok.is c.publish_all-publisher.ensures.change in
    ap (λ (pairs : List Pair). pairs ++ c.drop_front.new.self) after ∙ append_assoc before due c.drop_front.new.self ∙ ap (λ (left : List Pair). before ++ (due ++ left)) c.drop_front.ensures ∙ ap (λ (pairs : List Pair). before ++ pairs) c.upto-due.ensures.first

pub returns-in-Ok-clause-shown : goal.returns-in-Ok-clause-shown
returns-in-Ok-clause-shown g c =
    let a = c.requires.allowed in
    due_reaches a.0.current c.args.publisher.start a.2 (published c.args.publisher.list) c.upto-due.result.now _ c.args.waiting.now a.3 c.upto-due.ensures.first c.args.upto (published c.publish_all-publisher.result.0.list)
    (after_publish c.histories_grow.ensures c.args.publisher c.publish_all-publisher.result.0 c.publish_all-publisher.result.1 c.in-Ok.field-0 c.upto-due.result.now c.in-Ok.is c.publish_all-publisher.ensures.change)
    c.requires.behind c.requires.within c.upto-due.ensures.upto

pub returns-in-Ok-clause-behind : goal.returns-in-Ok-clause-behind
returns-in-Ok-clause-behind g c = let reached = returns-in-Ok-clause-shown g c in omega (arith, reached)
