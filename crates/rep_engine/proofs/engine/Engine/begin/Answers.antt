use Rattle.std.proofs.Common.{refl, ap, subst}
use Rattle.rep_layout.specs.declared.super_body.SuperBody.{SuperBody}
use Rattle.rep_cells.specs.Device.{disk_of, layout_of}
use Rattle.rep_engine.specs.Engines.{Engine}
use Rattle.rep_engine.specs.Checking.{Begins}
use Rattle.rep_engine.proofs.Pools.{pooled_as}
use Rattle.rep_engine.proofs.Checking.{engine_tried, base_tried}
use Rattle.rep_engine.proofs.engine.Engine.begin.Goals as goal

pub invariant_of-self : goal.invariant_of-self
invariant_of-self g c =
    let came = c.begin_at_durable-outcome.ensures in (
      engine_tried c.args.certifier.now.current (layout_of c.self.inside.cells) c.self.inside.checkpoint c.begin_at_durable-outcome.new.checkpoint c.self.inside.log c.self.inside.versions c.self.inside.block c.begin_at_durable-outcome.result c.self.invariant.0 c.base.ensures.checkpoint came,
      c.self.invariant.1,
      λ on. pooled_as g.D.Disk (layout_of c.self.inside.cells) (layout_of c.self.inside.cells) c.self.inside.checkpoint.base c.begin_at_durable-outcome.new.checkpoint.base (disk_of c.self.inside.cells) c.self.inside.pool refl
          (ap (λ (b : SuperBody). b.params) (base_tried c.args.certifier.now.current c.self.inside.checkpoint c.begin_at_durable-outcome.new.checkpoint c.self.inside.log c.self.inside.versions c.begin_at_durable-outcome.result came)) (c.self.invariant.2 on),
    )

pub returns-clause-rest : goal.returns-clause-rest
returns-clause-rest g c = ap (λ (e : Engine g.row.D.Denot). record e { checkpoint = c.begin_at_durable-outcome.new.checkpoint }) c.self.view_is

pub returns-clause-begins : goal.returns-clause-begins
returns-clause-begins g c =
    subst (λ (e : Engine g.row.D.Denot). Begins c.args.certifier.now.current e.log e.kept e.checkpoint c.begin_at_durable-outcome.new.checkpoint c.begin_at_durable-outcome.result) c.self.view_is c.begin_at_durable-outcome.ensures
