use Rattle.std.proofs.Common.{◌≡◌, ◌∙◌, sym, ap, subst}
use Rattle.rep_types.specs.declared.refusal.Refusal.TheVariants.{Stopped}
use Rattle.rep_types.specs.declared.refusal.Part.TheVariants.{Pages as in_pages}
use Rattle.rep_types.proofs.Choices.{none_not_some}
use Rattle.rep_disk.specs.History.{seen}
use Rattle.rep_layout.specs.declared.place.Layout.{Layout}
use Rattle.rep_layout.specs.declared.super_body.SuperBody.{SuperBody}
use Rattle.rep_cells.specs.Device.{disk_of, layout_of}
use Rattle.rep_cells.specs.Readings.{reading_of}
use Rattle.rep_log.specs.declared.phase.Phase.{Phase}
use Rattle.rep_pool.specs.BasePages.{IsPooled, IsPageAsSpelled}
use Rattle.rep_engine.specs.Engines.{Engine, IsEngine}
use Rattle.rep_engine.specs.Reading.{halted_by}
use Rattle.rep_engine.proofs.Refusing.{passed_on}
use Rattle.rep_engine.proofs.Answering.{inside, runs_within}
use Rattle.rep_engine.proofs.Asking.{asks_stopped}
use Rattle.rep_engine.proofs.Pools.{pooled_as}
use Rattle.rep_engine.proofs.DonorPages.{GivesPage, optional, page_comes, page_elsewise}
use Rattle.rep_engine.proofs.engine.Engine.base_page.Goals as goal
use Rattle.rep_engine.proofs.engine.Engine.base_page.Goals.{in-Ok, in-Err}

pooled : (g : _) (c : goal.Joined-outcome g) → IsPooled g.D.Disk c.base-base.result.now.params.rows (layout_of c.self.inside.cells) (disk_of c.self.inside.cells) c.self.inside.pool
pooled g c =
    subst (λ (b : SuperBody). IsPooled g.D.Disk b.params.rows (layout_of c.self.inside.cells) (disk_of c.self.inside.cells) c.self.inside.pool) (sym c.base-base.ensures.base)
    (c.self.invariant.2 (runs_within c.self.view_is c.in_ok-running.ensures.runs))

-- the pool agrees with the device: so the bytes decide what it gives
spelled : (g : _) (c : goal.Joined-outcome g) → g.D.Disk.honest c.args.self.now.disk → IsPageAsSpelled (reading_of (layout_of c.self.inside.cells) (seen (g.D.Disk.history (disk_of c.self.inside.cells)))) c.base-base.result.now c.args.page c.take_page-outcome.result
spelled g c is_honest =
    let honest = subst (λ (e : Engine g.row.D.Denot). g.D.Disk.honest e.disk) (sym c.self.view_is) is_honest in
    c.take_page-outcome.ensures.page honest (pooled g c honest)

pub invariant_of-self : goal.invariant_of-self
invariant_of-self g c = (
  subst (λ (l : Layout). IsEngine l c.self.inside.checkpoint c.self.inside.log c.self.inside.versions c.self.inside.block) (sym c.take_page-outcome.ensures.layout) c.self.invariant.0,
  c.self.invariant.1,
  λ on. pooled_as g.D.Disk (layout_of c.self.inside.cells) (layout_of c.take_page-outcome.new.cells) c.base-base.result.now c.self.inside.checkpoint.base (disk_of c.take_page-outcome.new.cells) c.take_page-outcome.new.self c.take_page-outcome.ensures.layout (ap (λ (b : SuperBody). b.params) (sym c.base-base.ensures.base))
      (c.take_page-outcome.ensures.agrees (pooled g c)),
)

given : (g : _) (c : goal.Joined-outcome g) → optional c.take_page-outcome.result ≡ c.match-outcome.result
given g c = elim c.match-outcome.branch [
  | in-Ok w ↦ ap optional w.in-Ok.is ∙ sym w.result-is
  | in-Err w ↦ ap optional w.in-Err.is ∙ sym w.result-is
]

comes : (g : _) (c : goal.Joined-outcome g) → GivesPage g.D.Disk c.args.self.now (inside c.take_page-outcome.new.cells c.self.inside.checkpoint c.self.inside.log c.self.inside.versions c.self.inside.block c.halted_by-self-inside.result) c.args.page c.match-outcome.result
comes g c =
    subst (GivesPage g.D.Disk c.args.self.now (inside c.take_page-outcome.new.cells c.self.inside.checkpoint c.self.inside.log c.self.inside.versions c.self.inside.block c.halted_by-self-inside.result) c.args.page) (given g c)
    (page_comes g.D.Disk (inside c.self.inside.cells c.self.inside.checkpoint c.self.inside.log c.self.inside.versions c.self.inside.block c.self.inside.halted) c.args.self.now c.self.view_is c.self.invariant.0
    (runs_within c.self.view_is c.in_ok-running.ensures.runs) c.stable_bases_are_read.ensures c.args.page c.base-base.result.now c.base-base.ensures.base c.in-In.field-0 c.in-In.ensures (disk_of c.take_page-outcome.new.cells) (layout_of c.take_page-outcome.new.cells) c.take_page-outcome.ensures.layout
    c.take_page-outcome.ensures.same c.halted_by-self-inside.result c.take_page-outcome.result c.take_page-outcome.ensures.call (c.halted_by-self-inside.ensures ∙ ap (λ (p : Phase). halted_by p c.take_page-outcome.result) c.phase.ensures) c.take_page-outcome.ensures.refused
    c.take_page-outcome.ensures.number (spelled g c))

pub returns : goal.returns
returns g c = let k = comes g c in record { asks = k.asks; none = k.none; holds = k.holds; page = k.page; absent = k.absent; whole = k.whole; spelled = k.spelled }

-- ---- where the device has failed before

pub returns-in_err-running : goal.returns-in_err-running
returns-in_err-running g c =
    rw (passed_on c.from_residual.result c.in_err-running.field-0.0 c.from_residual.ensures.1 c.in_err-running.ensures.stopped.0) (record {
      asks = asks_stopped g.D.Disk in_pages c.args.self.now c.in_err-running.ensures.stopped.1;
      none = tt;
      holds = λ n holds other. holds;
      page = λ n holds. tt;
      absent = λ n holds runs. absurd (none_not_some c.args.self.now.halted c.in_err-running.ensures.stopped.1 runs);
      whole = λ n holds corrupt. absurd cc;
      spelled = λ honest. page_elsewise _ c.args.self.now.checkpoint.base c.args.page Stopped (λ is. absurd cc);
    })
