use Rattle.std.proofs.Common.{rules, ◌∙◌, ap}
use Rattle.rep_engine.specs.Engines.{Engine}
use Rattle.rep_node.proofs.Advancing.{pruned_oldest, pruned_works}
use Rattle.rep_node.proofs.Keeps.{told_ok}
use Rattle.rep_node.proofs.Publishes.{prune_leaves}
use Rattle.rep_node.proofs.checking.prune.Goals as goal

pub returns-in-Ok-clause-works : goal.returns-in-Ok-clause-works
returns-in-Ok-clause-works g c = λ s items w.
    let p = c.prune-publisher in
    let left = told_ok _ p.result.1 c.in-Ok.field-0 c.in-Ok.is (prune_leaves c.histories_grow.ensures c.args.desk.publisher.start c.base.result c.args.desk.publisher p.result.0 p.result.1 p.ensures.change) in
    pruned_works g.D.Disk s items c.args.desk w p.result.0 p.ensures.same c.base.result (c.base.ensures ∙ ap (λ (e : Engine g.row.D.Denot). e.checkpoint.base.position) c.get.ensures) left.0 left.1

pub returns-in-Ok-clause-pruned : goal.returns-in-Ok-clause-pruned
returns-in-Ok-clause-pruned g c = λ s items w.
    let p = c.prune-publisher in
    let left = told_ok _ p.result.1 c.in-Ok.field-0 c.in-Ok.is (prune_leaves c.histories_grow.ensures c.args.desk.publisher.start c.base.result c.args.desk.publisher p.result.0 p.result.1 p.ensures.change) in
    pruned_oldest g.D.Disk s items c.args.desk w p.result.0 p.ensures.same c.base.result (c.base.ensures ∙ ap (λ (e : Engine g.row.D.Denot). e.checkpoint.base.position) c.get.ensures) left.1

pub returns-in-Ok-clause-given : goal.returns-in-Ok-clause-given
returns-in-Ok-clause-given g c = search rules
