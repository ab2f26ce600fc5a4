use Rattle.std.proofs.Common.{refl, sym, subst, ◌∙◌}
use Rattle.rep_layout.specs.declared.place.Layout.{Layout}
use Rattle.rep_cells.specs.Device.{disk_of, layout_of}
use Rattle.rep_checkpoint.specs.declared.stage.Stage.TheVariants.{Toward}
use Rattle.rep_checkpoint.specs.Calls.{next_place}
use Rattle.rep_engine.specs.Engines.{IsEngine}
use Rattle.rep_engine.proofs.Answering.{runs_within}
use Rattle.rep_engine.proofs.Refusing.{not_failed, done_or_failed}
use Rattle.rep_engine.proofs.Pools.{pooled_as, pooled_beside, not_next}
use Rattle.rep_engine.proofs.engine.Engine.install_next.Goals as goal

pub invariant_of-self : goal.invariant_of-self
invariant_of-self g c =
    let old = c.self.inside.checkpoint.base in (
      subst (λ (l : Layout). IsEngine l c.self.inside.checkpoint c.self.inside.log c.self.inside.versions c.self.inside.block) (sym c.next-outcome.ensures.layout) c.self.invariant.0,
      c.self.invariant.1,
      λ on. pooled_as g.D.Disk (layout_of c.self.inside.cells) (layout_of c.next-outcome.new.cells) old old (disk_of c.next-outcome.new.cells) c.self.inside.pool c.next-outcome.ensures.layout refl
          (pooled_beside c.pools_go_on.ensures g.D.Disk old.params.rows (layout_of c.self.inside.cells) (next_place c.base.result.now (Toward c.args.coming.now.next c.args.coming.now.part)) (disk_of c.self.inside.cells) (disk_of c.next-outcome.new.cells) c.self.inside.pool c.next-outcome.result (not_next c.base.result.now (Toward c.args.coming.now.next c.args.coming.now.part))
          c.next-outcome.ensures.call.was_honest c.next-outcome.ensures.goes.inside (done_or_failed c.next-outcome.result c.next-outcome.ensures.refused (not_failed c.phase.result c.next-outcome.result (sym c.halted_by-self-inside.ensures ∙ on))) (c.self.invariant.2 (runs_within c.self.view_is c.requires.runs))),
    )
