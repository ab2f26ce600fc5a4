use Rattle.std.proofs.Common.{refl, ap, subst, ◌∙◌}
use Rattle.rep_log.specs.Moves.{started, StartsLater}
use Rattle.rep_layout.specs.declared.super_body.SuperBody.{SuperBody}
use Rattle.rep_cells.specs.Device.{disk_of, layout_of}
use Rattle.rep_checkpoint.specs.Calls.{SyncsTo}
use Rattle.rep_engine.specs.Engines.{Engine}
use Rattle.rep_engine.specs.Writing.{PrunesIf}
use Rattle.rep_engine.proofs.Pools.{pooled_as}
use Rattle.rep_engine.proofs.Syncing.{engine_raised}
use Rattle.rep_engine.proofs.engine.Engine.raise.Goals as goal

pub invariant_of-self : goal.invariant_of-self
invariant_of-self g c = (
  engine_raised (layout_of c.self.inside.cells) c.self.inside.checkpoint c.synced-rose.new.self c.self.inside.log c.start_at.new.self c.self.inside.versions c.prune_if.new.versions c.self.inside.block c.synced-rose.result c.self.invariant.0 c.synced-rose.ensures.after
      c.base-base.ensures.checkpoint c.synced-rose.ensures.rose
      (subst (λ (b : SuperBody). PrunesIf c.synced-rose.result b.position c.self.inside.versions c.prune_if.new.versions) c.base-base.ensures.base c.prune_if.ensures)
      (c.start_at.ensures.after ∙ ap (λ (b : SuperBody). started b.start c.self.inside.log) c.base-base.ensures.base),
  c.self.invariant.1,
  λ runs. pooled_as g.D.Disk (layout_of c.self.inside.cells) (layout_of c.self.inside.cells) c.self.inside.checkpoint.base c.synced-rose.new.self.base (disk_of c.self.inside.cells) c.self.inside.pool refl c.synced-rose.ensures.params (c.self.invariant.2 runs),
)

pub returns-clause-states : goal.returns-clause-states
returns-clause-states g c = subst (λ (e : Engine g.row.D.Denot). SyncsTo e.checkpoint c.synced-rose.new.self) c.self.view_is c.synced-rose.ensures.states

pub returns-clause-later : goal.returns-clause-later
returns-clause-later g c = subst (λ (e : Engine g.row.D.Denot). StartsLater e.log c.start_at.new.self) c.self.view_is c.start_at.ensures.log
