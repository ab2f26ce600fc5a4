use Rattle.std.proofs.Common.{rules, ◌+◌, ◌∙◌, List, length, refl, ap}
use Rattle.rep_types.specs.declared.judged.Judged.{Judged}
use Rattle.rep_engine.specs.Engines.{Engine, durable_of}
use Rattle.rep_node.specs.Homes.{Start}
use Rattle.rep_node.specs.Keeping.{AtWork, HasStepped}
use Rattle.rep_node.proofs.Advancing.{same_common, step_failed, step_done}
use Rattle.rep_node.proofs.keeping.advance.Goals as goal
use Rattle.rep_node.proofs.keeping.advance.Goals.{After-publish_durable}

pub returns-in-Err-clause-given : goal.returns-in-Err-clause-given
returns-in-Err-clause-given g c = λ s items w. step_failed g.D.Disk s items c.args.desk w c.write_or_sync.new.engine (rw c.get_mut.ensures.value at c.in-Err.ensures.taken) (rw c.get_mut.ensures.value at c.in-Err.ensures.rises)

pub returns-in-Err-clause-common : goal.returns-in-Err-clause-common
returns-in-Err-clause-common g c = let w = c.requires.work in same_common g.D.Disk w.0 w.1 c.args.desk w.2 c.write_or_sync.new.engine (rw c.get_mut.ensures.value at c.in-Err.ensures.taken)

pub publish_durable-requires : goal.publish_durable-requires
publish_durable-requires g c = let w = c.requires.work in let e = c.in_default.ensures in record {
  stepped = (w.0, w.1, step_done g.D.Disk w.0 w.1 c.args.desk w.2 c.write_or_sync.new.engine (rw c.get_mut.ensures.value at e.taken) ((rw c.get_mut.ensures.value at e.works) (w.2.desk.works refl)) (rw c.get_mut.ensures.value at e.rises) (rw c.get_mut.ensures.value at e.base));
}

-- what lay at the desk once the step was done
stepped : (g : _) (c : After-publish_durable g) (s : Start g.row.D.Denot) (items : List Judged) → AtWork g.D.Disk s items c.args.desk → HasStepped g.D.Disk s items (record (c.args.desk) { engine = c.write_or_sync.new.engine })
stepped g c s items w = let e = c.in_default.ensures in step_done g.D.Disk s items c.args.desk w c.write_or_sync.new.engine (rw c.get_mut.ensures.value at e.taken) ((rw c.get_mut.ensures.value at e.works) (w.desk.works refl)) (rw c.get_mut.ensures.value at e.rises) (rw c.get_mut.ensures.value at e.base)

pub returns-clause-works : goal.returns-clause-works
returns-clause-works g c = λ s items w. c.publish_durable.ensures.works s items (stepped g c s items w)

pub returns-clause-given : goal.returns-clause-given
returns-clause-given g c = λ s items w. c.publish_durable.ensures.given s items (stepped g c s items w)

pub returns-clause-common : goal.returns-clause-common
returns-clause-common g c = let w = c.requires.work in
    ap (λ (e : Engine g.row.D.Denot). durable_of e.log + length e.block) c.publish_durable.ensures.engine ∙ same_common g.D.Disk w.0 w.1 c.args.desk w.2 c.write_or_sync.new.engine (rw c.get_mut.ensures.value at c.in_default.ensures.taken)

pub returns-in-Err-clause-works : goal.returns-in-Err-clause-works
returns-in-Err-clause-works g c = search rules
