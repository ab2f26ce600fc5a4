use Rattle.std.proofs.Common.{◌≡◌, sym, ap, subst, ◌∙◌}
use Rattle.rep_layout.specs.declared.super_body.SuperBody.{SuperBody}
use Rattle.rep_layout.specs.declared.place.Layout.{Layout}
use Rattle.rep_log.specs.declared.phase.Phase.{Phase}
use Rattle.rep_cells.specs.Device.{disk_of, layout_of}
use Rattle.rep_engine.specs.Engines.{Engine, IsEngine}
use Rattle.rep_engine.specs.Reading.{halted_by}
use Rattle.rep_engine.specs.Checking.{WentOn}
use Rattle.rep_engine.proofs.Answering.{inside, came_out, runs_within}
use Rattle.rep_engine.proofs.Pools.{pooled_as, pooled_gone}
use Rattle.rep_engine.proofs.Refusing.{not_failed}
use Rattle.rep_engine.proofs.Checking.{engine_went}
use Rattle.rep_engine.proofs.engine.Engine.go_on.Goals as goal

halted_so : (g : _) (c : goal.After-self-1 g) → c.halted_by-self-inside.result ≡ halted_by c.self.inside.log.phase c.next-outcome.result
halted_so g c = c.halted_by-self-inside.ensures ∙ ap (λ (p : Phase). halted_by p c.next-outcome.result) c.phase.ensures

pub invariant_of-self : goal.invariant_of-self
invariant_of-self g c = (
  subst (λ (l : Layout). IsEngine l c.next-outcome.new.self c.self.inside.log c.self.inside.versions c.self.inside.block) (sym c.next-outcome.ensures.layout)
      (engine_went g.D.Disk (layout_of c.self.inside.cells) c.self.inside.checkpoint c.next-outcome.new.self c.self.inside.log c.self.inside.versions c.self.inside.block (disk_of c.self.inside.cells) (disk_of c.next-outcome.new.cells) c.next-outcome.result
      c.self.invariant.0 c.base.ensures.checkpoint c.next-outcome.ensures.refused c.next-outcome.ensures.goes),
  c.self.invariant.1,
  λ on. pooled_as g.D.Disk (layout_of c.self.inside.cells) (layout_of c.next-outcome.new.cells) c.self.inside.checkpoint.base c.next-outcome.new.self.base (disk_of c.next-outcome.new.cells) c.self.inside.pool c.next-outcome.ensures.layout (ap (λ (b : SuperBody). b.params) c.next-outcome.ensures.base)
      (pooled_gone c.pools_go_on.ensures g.D.Disk (layout_of c.self.inside.cells) c.self.inside.checkpoint c.next-outcome.new.self (disk_of c.self.inside.cells) (disk_of c.next-outcome.new.cells) c.self.inside.pool c.next-outcome.result
      c.next-outcome.ensures.refused c.next-outcome.ensures.goes c.next-outcome.ensures.call.was_honest (not_failed c.phase.result c.next-outcome.result (sym c.halted_by-self-inside.ensures ∙ on)) (c.self.invariant.2 (runs_within c.self.view_is c.requires))),
)

pub returns : goal.returns
returns g c =
    subst (λ (e : Engine g.row.D.Denot). WentOn g.D.Disk e (inside c.next-outcome.new.cells c.next-outcome.new.self c.self.inside.log c.self.inside.versions c.self.inside.block c.halted_by-self-inside.result) c.next-outcome.result) c.self.view_is
    (record {
      call = c.next-outcome.ensures.call;
      rest = came_out (inside c.self.inside.cells c.self.inside.checkpoint c.self.inside.log c.self.inside.versions c.self.inside.block c.self.inside.halted) (disk_of c.next-outcome.new.cells) (layout_of c.next-outcome.new.cells) c.next-outcome.new.self _ _ c.next-outcome.ensures.layout (halted_so g c);
      refused = c.next-outcome.ensures.refused;
      goes = c.next-outcome.ensures.goes;
      unchanged = c.next-outcome.ensures.unchanged;
    })
