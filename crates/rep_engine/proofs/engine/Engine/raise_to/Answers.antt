use Rattle.std.proofs.Common.{◌+◌, refl, sym, ap, subst, ◌∙◌}
use Rattle.rep_cells.specs.Device.{disk_of, layout_of}
use Rattle.rep_versions.specs.Versions.{IsPruned}
use Rattle.rep_log.specs.Moves.{restarted, Restarts}
use Rattle.rep_checkpoint.specs.Standing.{Standing as Checkpoint}
use Rattle.rep_engine.specs.Engines.{Engine, IsEngine}
use Rattle.rep_engine.specs.Installing.{IsBeside}
use Rattle.rep_engine.proofs.Installing.{engine_taken}
use Rattle.rep_engine.proofs.Pools.{pooled_as}
use Rattle.rep_engine.proofs.engine.Engine.raise_to.Goals as goal

pub invariant_of-self : goal.invariant_of-self
invariant_of-self g c =
    let s = c.self.inside in
    let beside : IsBeside s.checkpoint s.log s.block c.args.coming = subst (λ (e : Engine g.row.D.Denot). IsBeside e.checkpoint e.log e.block c.args.coming) (sym c.self.view_is) c.requires.beside in (
      subst (λ (k : Checkpoint). IsEngine (layout_of s.cells) k c.restart.new.self c.prune.new.self s.block) (sym c.into_checkpoint.ensures)
          (engine_taken (layout_of s.cells) s.checkpoint s.log c.restart.new.self s.versions c.prune.new.self s.block c.args.coming c.self.invariant.0 beside
          (subst (λ n. IsPruned n s.versions c.prune.new.self) c.position-position.ensures c.prune.ensures) (c.restart.ensures.after ∙ ap (λ n. restarted (n + 1) s.log) c.position-position.ensures)),
      c.self.invariant.1,
      λ on. pooled_as g.D.Disk (layout_of s.cells) (layout_of s.cells) s.checkpoint.base c.into_checkpoint.result.base (disk_of s.cells) s.pool refl
          (ap (λ (k : Checkpoint). k.base.params) c.into_checkpoint.ensures ∙ beside.coming.params) (c.self.invariant.2 on),
    )

pub returns-clause-restarts : goal.returns-clause-restarts
returns-clause-restarts g c =
    subst (λ (e : Engine g.row.D.Denot). Restarts (c.args.coming.next.super.position + 1) e.log c.restart.new.self) c.self.view_is
    (subst (λ n. Restarts (n + 1) c.self.inside.log c.restart.new.self) c.position-position.ensures c.restart.ensures.log)
