use Rattle.std.proofs.Common.{◌+◌, ◌≤◌, ◌∙◌, ◌++◌, length, sym, subst}
use Rattle.std.proofs.lemmas.Result.{on_ok_weaker}
use Rattle.rep_snap.specs.Lists.{published}
use Rattle.rep_node.proofs.Advancing.{are_allowed, is_behind, is_within, given_up, works_on}
use Rattle.rep_node.proofs.keeping.publish_durable.Goals as goal

pub publish_upto-publisher-requires-clause-allowed : goal.publish_upto-publisher-requires-clause-allowed
publish_upto-publisher-requires-clause-allowed g c = let h = c.requires.stepped in are_allowed g.D.Disk h.0 h.1 c.args.desk h.2

pub publish_upto-publisher-requires-clause-behind : goal.publish_upto-publisher-requires-clause-behind
publish_upto-publisher-requires-clause-behind g c = let h = c.requires.stepped in
    subst (λ n. c.args.desk.publisher.start + length (published c.args.desk.publisher.list) ≤ n) (sym (rw c.get.ensures at c.durable-durable.ensures.durable)) (is_behind g.D.Disk h.0 h.1 c.args.desk h.2)

pub publish_upto-publisher-requires-clause-within : goal.publish_upto-publisher-requires-clause-within
publish_upto-publisher-requires-clause-within g c = let h = c.requires.stepped in
    subst (λ n. n ≤ c.args.desk.publisher.start + length (published c.args.desk.publisher.list ++ c.args.desk.waiting)) (sym (rw c.get.ensures at c.durable-durable.ensures.durable)) (is_within g.D.Disk h.0 h.1 c.args.desk h.2)

pub returns-clause-works : goal.returns-clause-works
returns-clause-works g c = λ s items h.
    let p = c.publish_upto-publisher in
    on_ok_weaker p.result.1 (λ shown. works_on g.D.Disk s items c.args.desk h p.result.0 p.new.waiting p.ensures.same p.ensures.whole p.ensures.oldest (shown ∙ (rw c.get.ensures at c.durable-durable.ensures.durable))) p.ensures.shown

pub returns-clause-given : goal.returns-clause-given
returns-clause-given g c = λ s items h. given_up g.D.Disk s items c.args.desk h c.publish_upto-publisher.result.0 c.publish_upto-publisher.new.waiting c.publish_upto-publisher.ensures.same c.publish_upto-publisher.ensures.whole
    (subst (λ n. c.args.desk.publisher.start + length (published c.publish_upto-publisher.result.0.list) ≤ n) (rw c.get.ensures at c.durable-durable.ensures.durable) c.publish_upto-publisher.ensures.behind)
