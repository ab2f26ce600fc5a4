use Rattle.std.proofs.Common.{refl, sym, subst, ◌∙◌}
use Rattle.rep_layout.specs.declared.place.Layout.{Layout}
use Rattle.rep_layout.specs.declared.super_body.SuperBody.{SuperBody}
use Rattle.rep_cells.specs.Device.{disk_of, layout_of}
use Rattle.rep_pool.specs.BasePages.{IsPooled}
use Rattle.rep_engine.specs.Engines.{IsEngine}
use Rattle.rep_engine.proofs.Answering.{runs_within}
use Rattle.rep_engine.proofs.Refusing.{not_failed}
use Rattle.rep_engine.proofs.Pools.{pooled_as}
use Rattle.rep_engine.proofs.engine.Engine.install_page.Goals as goal

pub invariant_of-self : goal.invariant_of-self
invariant_of-self g c =
    let old = c.self.inside.checkpoint.base in (
      subst (λ (l : Layout). IsEngine l c.self.inside.checkpoint c.self.inside.log c.self.inside.versions c.self.inside.block) (sym c.put_page-outcome.ensures.layout) c.self.invariant.0,
      c.self.invariant.1,
      λ on. pooled_as g.D.Disk (layout_of c.self.inside.cells) (layout_of c.put_page-outcome.new.cells) old old (disk_of c.put_page-outcome.new.cells) c.put_page-outcome.new.pool c.put_page-outcome.ensures.layout refl
          (subst (λ (b : SuperBody). IsPooled g.D.Disk b.params.rows (layout_of c.self.inside.cells) (disk_of c.put_page-outcome.new.cells) c.put_page-outcome.new.pool) c.base.ensures.base
          (c.put_page-outcome.ensures.agrees (not_failed c.phase.result c.put_page-outcome.result (sym c.halted_by-self-inside.ensures ∙ on)) (subst (λ (b : SuperBody). IsPooled g.D.Disk b.params.rows (layout_of c.self.inside.cells) (disk_of c.self.inside.cells) c.self.inside.pool) (sym c.base.ensures.base) (c.self.invariant.2 (runs_within c.self.view_is c.requires.runs))))),
    )
