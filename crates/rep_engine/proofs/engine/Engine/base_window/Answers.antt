use Rattle.std.proofs.Common.{◌≡◌, ◌∙◌, Ok, Result, IfOk, IsOk, IsErr, rules, refl, sym, ap, subst}
use Rattle.rep_types.specs.declared.refusal.Refusal.{Refusal}
use Rattle.rep_types.specs.declared.refusal.Refusal.TheVariants.{Stopped, DiskFault}
use Rattle.rep_layout.specs.declared.place.Place.TheVariants.{Window as in_window_area}
use Rattle.rep_layout.specs.declared.place.Layout.{Layout}
use Rattle.rep_layout.specs.Places.{side_of}
use Rattle.rep_layout.specs.declared.super_body.SuperBody.{SuperBody}
use Rattle.rep_layout.specs.Windows.{Window, IsWindowBody, beside}
use Rattle.rep_cells.specs.Device.{disk_of, layout_of}
use Rattle.rep_steps.specs.Nodes.{Node}
use Rattle.rep_engine.specs.Engines.{Engine, IsEngine}
use Rattle.rep_engine.specs.Holding.{Holds}
use Rattle.rep_engine.proofs.Pools.{pooled_as, pooled_read}
use Rattle.rep_engine.proofs.Refusing.{passed_on}
use Rattle.rep_engine.proofs.Answering.{inside, runs_within}
use Rattle.rep_engine.proofs.Asking.{holds_read, asks_found, asks_failed, asks_stopped}
use Rattle.rep_engine.proofs.DonorPages.{window_read, window_spelled, window_elsewise}
use Rattle.rep_types.specs.declared.refusal.Part.TheVariants.{Window as in_window}
use Rattle.rep_types.proofs.Choices.{of_answer}
use Rattle.rep_engine.proofs.engine.Engine.base_window.Goals as goal
use Rattle.rep_engine.proofs.engine.Engine.base_window.Goals.{After-read_beside}

-- what was read is the base's window
read : (g : _) (c : After-read_beside g) (n : Node) → Holds g.D.Disk n c.args.self.now → c.read_beside.result ≡ Ok (beside c.base-base.result.now n.base.kept)
read g c n holds =
    let ok : IsOk c.read_area.result = search rules in
    window_read g.D.Disk _ c.args.self.now c.self.view_is c.self.invariant.0 (runs_within c.self.view_is c.in_ok-running.ensures.runs) n holds
    c.base-base.result.now (in_window_area c.of.result) c.read_area.new.room c.read_beside.result c.base-base.ensures.base (ap in_window_area c.of.ensures)
    (λ honest s assigns sure. of_answer c.read_area.result ok (c.read_area.ensures.shown honest s assigns sure)) c.read_beside.ensures.only

pub invariant_of-self-2 : goal.invariant_of-self-2
invariant_of-self-2 g c =
    let b = c.self.inside.checkpoint.base in (
      subst (λ (l : Layout). IsEngine l c.self.inside.checkpoint c.self.inside.log c.self.inside.versions c.self.inside.block) (sym c.read_area.ensures.layout) c.self.invariant.0,
      c.self.invariant.1,
      λ on. pooled_as g.D.Disk (layout_of c.self.inside.cells) (layout_of c.read_area.new.self) b b (disk_of c.read_area.new.self) c.self.inside.pool c.read_area.ensures.layout refl
          (pooled_read g.D.Disk b.params.rows (layout_of c.self.inside.cells) (disk_of c.self.inside.cells) (disk_of c.read_area.new.self) c.self.inside.pool c.read_area.ensures.call.was_honest c.read_area.ensures.same (c.self.invariant.2 on)),
    )

pub returns : goal.returns
returns g c =
    let ok : IsOk c.read_area.result = search rules in
    let b_is : c.base-base.result.now ≡ c.args.self.now.checkpoint.base = c.base-base.ensures.base ∙ ap (λ (e : Engine g.row.D.Denot). e.checkpoint.base) c.self.view_is in
    record {
      asks = asks_found g.D.Disk in_window (inside c.self.inside.cells c.self.inside.checkpoint c.self.inside.log c.self.inside.versions c.self.inside.block c.self.inside.halted) c.args.self.now (disk_of c.read_area.new.self) (layout_of c.read_area.new.self) c.read_area.result c.self.view_is (runs_within c.self.view_is c.in_ok-running.ensures.runs) c.read_area.ensures.layout c.read_area.ensures.call c.read_area.ensures.same ok c.read_beside.result c.read_beside.ensures.refused;
      form = subst (λ (b : SuperBody). IfOk c.read_beside.result (λ w. (w ≡ beside b w.kept) × IsWindowBody b.params w)) b_is c.read_beside.ensures.form;
      holds = λ n holds other. holds_read g.D.Disk _ c.args.self.now _ _ c.read_area.result c.self.view_is (runs_within c.self.view_is c.in_ok-running.ensures.runs) c.read_area.ensures.layout c.read_area.ensures.call ok c.read_area.ensures.same n holds;
      window = λ n holds. subst (λ (r : Result Window Refusal). IfOk r (λ w. w.kept ≡ n.base.kept)) (sym (read g c n holds)) refl;
      whole = λ n holds corrupt. (let was = read g c n holds in absurd cc);
      spelled = λ is_honest. window_spelled g.D.Disk _ c.args.self.now c.self.view_is c.base-base.result.now (in_window_area c.of.result) c.read_area.new.room c.read_beside.result c.base-base.ensures.base (ap in_window_area c.of.ensures)
          (λ honest readable. of_answer c.read_area.result ok (c.read_area.ensures.read honest readable)) c.read_beside.ensures.only c.read_beside.ensures.found is_honest (c.in_ok-running.ensures.readable is_honest (in_window_area (side_of c.args.self.now.checkpoint.base.number)));
    }

-- ---- where the device fails

pub returns-then-is_err : goal.returns-then-is_err
returns-then-is_err g c =
    let err : IsErr c.read_area.result = search rules in
    record {
      asks = asks_failed g.D.Disk in_window (inside c.self.inside.cells c.self.inside.checkpoint c.self.inside.log c.self.inside.versions c.self.inside.block c.self.inside.halted) c.args.self.now (disk_of c.read_area.new.self) (layout_of c.read_area.new.self) c.read_area.result c.self.view_is (runs_within c.self.view_is c.in_ok-running.ensures.runs) c.read_area.ensures.layout c.read_area.ensures.call c.read_area.ensures.same err c.phase.result c.phase.ensures;
      form = tt;
      holds = λ n holds other. absurd (other refl);
      window = λ n holds. tt;
      whole = λ n holds corrupt. absurd cc;
      spelled = λ honest. window_elsewise _ c.args.self.now.checkpoint.base DiskFault (λ is. absurd cc);
    }

-- ---- where the device has failed before

pub returns-in_err-running : goal.returns-in_err-running
returns-in_err-running g c =
    rw (passed_on c.from_residual.result c.in_err-running.field-0.0 c.from_residual.ensures.1 c.in_err-running.ensures.stopped.0) (record {
      asks = asks_stopped g.D.Disk in_window c.args.self.now c.in_err-running.ensures.stopped.1;
      form = tt;
      holds = λ n holds other. holds;
      window = λ n holds. tt;
      whole = λ n holds corrupt. absurd cc;
      spelled = λ honest. window_elsewise _ c.args.self.now.checkpoint.base Stopped (λ is. absurd cc);
    })
