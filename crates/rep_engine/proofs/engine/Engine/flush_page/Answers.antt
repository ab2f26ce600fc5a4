use Rattle.std.proofs.Common.{◌≡◌, None, IfSome, OnErr, refl, sym, ap, subst, ◌∙◌}
use Rattle.rep_disk.specs.Devices.{Calls}
use Rattle.rep_log.specs.declared.phase.Phase.{Phase}
use Rattle.rep_log.specs.Moves.{fault_of}
use Rattle.rep_layout.specs.declared.super_body.SuperBody.{SuperBody}
use Rattle.rep_layout.specs.declared.place.Layout.{Layout}
use Rattle.rep_cells.specs.Device.{disk_of, layout_of}
use Rattle.rep_pool.specs.BasePages.{IsPooled}
use Rattle.rep_checkpoint.specs.Moves.{flush_refusal}
use Rattle.rep_checkpoint.specs.Calls.{IsRefused, Flushes}
use Rattle.rep_engine.specs.Engines.{Engine, IsEngine}
use Rattle.rep_engine.specs.Reading.{halted_by}
use Rattle.rep_engine.proofs.Answering.{inside, came_out}
use Rattle.rep_engine.proofs.Refusing.{not_failed}
use Rattle.rep_engine.proofs.Pools.{pooled_as}
use Rattle.rep_engine.proofs.Flushing.{engine_went}
use Rattle.rep_engine.proofs.engine.Engine.flush_page.Goals as goal
use Rattle.rep_engine.proofs.engine.Engine.flush_page.Goals.{After-base}

runs : (g : _) (c : After-base g) → c.self.inside.halted ≡ None
runs g c = ap (λ (e : Engine g.row.D.Denot). e.halted) c.self.view_is ∙ c.requires

pooled : (g : _) (c : After-base g) → IsPooled g.D.Disk c.self.inside.checkpoint.base.params.rows (layout_of c.self.inside.cells) (disk_of c.self.inside.cells) c.self.inside.pool
pooled g c = c.self.invariant.2 (runs g c)

engine_then : (g : _) (c : After-base g) → IsEngine (layout_of c.flush-outcome.new.cells) c.flush-outcome.new.self c.self.inside.log c.self.inside.versions c.self.inside.block
engine_then g c =
    subst (λ (l : Layout). IsEngine l c.flush-outcome.new.self c.self.inside.log c.self.inside.versions c.self.inside.block) (sym c.flush-outcome.ensures.layout)
    (engine_went g.D.Disk (layout_of c.self.inside.cells) c.self.inside.checkpoint c.flush-outcome.new.self c.self.inside.log c.self.inside.versions c.self.inside.block c.args.page (disk_of c.self.inside.cells) (disk_of c.flush-outcome.new.cells) c.flush-outcome.result
    c.self.invariant.0 c.base.ensures.checkpoint c.flush-outcome.ensures.refused (λ due. c.flush-outcome.ensures.flushes due (pooled g c)))

pub invariant_of-self : goal.invariant_of-self
invariant_of-self g c =
    let at = (goal.at.invariant_of-self g c).After-base in (
      engine_then g at,
      c.self.invariant.1,
      λ on. pooled_as g.D.Disk (layout_of c.self.inside.cells) (layout_of c.flush-outcome.new.cells) c.self.inside.checkpoint.base c.flush-outcome.new.self.base (disk_of c.flush-outcome.new.cells) c.flush-outcome.new.pool c.flush-outcome.ensures.layout (ap (λ (b : SuperBody). b.params) c.flush-outcome.ensures.base)
          (c.flush-outcome.ensures.agrees (not_failed c.phase.result c.flush-outcome.result (sym c.halted_by-self-inside.ensures ∙ on)) (pooled g at)),
    )

pub returns : goal.returns
returns g c =
    let at = (goal.at.returns g c).After-base in
    let d = disk_of c.flush-outcome.new.cells in
    record {
      call = subst (λ (e : Engine g.row.D.Denot). Calls g.D.Disk e.disk d (fault_of c.flush-outcome.result)) c.self.view_is c.flush-outcome.ensures.call;
      rest = came_out (inside c.self.inside.cells c.self.inside.checkpoint c.self.inside.log c.self.inside.versions c.self.inside.block c.self.inside.halted) d (layout_of c.flush-outcome.new.cells) c.flush-outcome.new.self c.halted_by-self-inside.result c.halted_by-self-inside.result c.flush-outcome.ensures.layout refl
          ∙ ap (λ (e : Engine g.row.D.Denot). record e { disk = d; checkpoint = c.flush-outcome.new.self; halted = c.halted_by-self-inside.result }) c.self.view_is;
      halted = c.halted_by-self-inside.ensures ∙ ap (λ (p : Phase). halted_by p c.flush-outcome.result) (c.phase.ensures ∙ ap (λ (e : Engine g.row.D.Denot). e.log.phase) c.self.view_is);
      refused = subst (λ (e : Engine g.row.D.Denot). IfSome (flush_refusal e.layout e.checkpoint c.args.page) (λ r. IsRefused r e.checkpoint c.flush-outcome.new.self e.disk d c.flush-outcome.result)) c.self.view_is c.flush-outcome.ensures.refused;
      flushes = subst (λ (e : Engine g.row.D.Denot). flush_refusal e.layout e.checkpoint c.args.page ≡ None → Flushes g.D.Disk e.layout e.kept c.args.page e.checkpoint c.flush-outcome.new.self e.disk d c.flush-outcome.result) c.self.view_is
          (λ due. c.flush-outcome.ensures.flushes due (pooled g at));
      unchanged = subst (λ (e : Engine g.row.D.Denot). OnErr c.flush-outcome.result (c.flush-outcome.new.self ≡ e.checkpoint)) c.self.view_is c.flush-outcome.ensures.unchanged;
    }
