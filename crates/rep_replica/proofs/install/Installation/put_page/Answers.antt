use Rattle.std.proofs.Common.{◌≡◌, None, Err, IfErr, IfSome, OnOk, OnErr, ap, subst, ◌∙◌}
use Rattle.rep_types.specs.declared.refusal.Refusal.TheVariants.{DiskFault, Stopped}
use Rattle.rep_disk.specs.Moments.{LeavesOnly}
use Rattle.rep_disk.specs.Devices.{Calls}
use Rattle.rep_log.specs.Moves.{fault_of}
use Rattle.rep_steps.specs.Images.{IsFrontAt}
use Rattle.rep_recover.specs.Meanings.{Means}
use Rattle.rep_recover.specs.Coming.{placed, with_page}
use Rattle.rep_recover.specs.CheckpointInstalling.{WritesComing}
use Rattle.rep_recover.specs.Engines.{Engine}
use Rattle.rep_recover.specs.Reading.{halted_by}
use Rattle.rep_recover.specs.Installing.{Beside, halted_node}
use Rattle.rep_replica.specs.Installing.{Bringing, HoldsBoth}
use Rattle.rep_replica.proofs.Installing.{halts_on, done_on, some_on}
use Rattle.rep_replica.proofs.install.Installation.put_page.Goals as goal

abbrev within : (g : _) (c : goal.After-put_page g) → Bringing g.row.D.Denot
within g c = record { engine = c.self.inside.engine.engine; coming = c.self.inside.engine.coming; before = c.self.inside.before; after = c.self.inside.after }

abbrev new : (g : _) (c : goal.After-put_page g) → Bringing g.row.D.Denot
new g c = record { engine = c.put_page.new.self.engine; coming = c.put_page.new.self.coming; before = c.self.inside.before; after = c.self.inside.after }

pub returns : goal.returns
returns g c =
    let r = c.put_page.result in
    let e = c.put_page.ensures in
    record {
      call = subst (λ (b : Bringing g.row.D.Denot). Calls g.D.Disk b.engine.disk (new g c).engine.disk (fault_of r)) c.self.view_is e.call;
      rest = ap (λ (x : Engine g.row.D.Denot). record (new g c) { engine = x }) e.rest
          ∙ ap (λ (b : Bringing g.row.D.Denot). record b { engine = record (b.engine) { disk = (new g c).engine.disk; halted = (new g c).engine.halted }; coming = (new g c).coming }) c.self.view_is;
      stopped = subst (λ (b : Bringing g.row.D.Denot). IfSome b.engine.halted (λ _. (r ≡ Err Stopped) × (new g c ≡ b))) c.self.view_is
          (some_on (within g c).engine.halted e.stopped (λ was. (was.0, ap (λ (x : Beside g.row.D.Denot). record (within g c) { engine = x.engine; coming = x.coming }) was.1)));
      running = subst (λ (b : Bringing g.row.D.Denot). b.engine.halted ≡ None → ((new g c).engine.halted ≡ halted_by b.engine.log.phase r) × IfErr r (λ e. e ≡ DiskFault)) c.self.view_is e.running;
      done = subst (λ (b : Bringing g.row.D.Denot). OnOk r ((new g c).coming ≡ placed b.engine.checkpoint.base c.args.page b.coming)) c.self.view_is e.done;
      fault = subst (λ (b : Bringing g.row.D.Denot). OnErr r ((new g c).coming ≡ b.coming)) c.self.view_is e.fault;
      written = subst (λ (b : Bringing g.row.D.Denot). b.engine.halted ≡ None → WritesComing g.D.Disk b.engine.layout b.engine.checkpoint.base b.coming c.args.page c.args.rows b.engine.disk (new g c).engine.disk r) c.self.view_is e.written;
      holds = λ n y. subst (λ (b : Bringing g.row.D.Denot). HoldsBoth g.D.Disk n y b → OnOk r (HoldsBoth g.D.Disk n (with_page b.engine.checkpoint.base.params.rows c.args.page c.args.rows y) (new g c))) c.self.view_is
          (λ holds. done_on r (e.holds n y holds.engine) (λ h. record { engine = h; judged = holds.judged; windows = holds.windows }));
      halts = λ n y. subst (λ (b : Bringing g.row.D.Denot). HoldsBoth g.D.Disk n y b → IfErr r (λ e. e ≡ DiskFault → HoldsBoth g.D.Disk (halted_node (g.D.Disk.failures (new g c).engine.disk) n) y (new g c))) c.self.view_is
          (λ holds. halts_on r (e.halts n y holds.engine) (λ h. record { engine = h; judged = holds.judged; windows = holds.windows }));
      leaves = λ n y. subst (λ (b : Bringing g.row.D.Denot). HoldsBoth g.D.Disk n y b → LeavesOnly (g.D.Disk.history b.engine.disk) (g.D.Disk.history (new g c).engine.disk) (IsFrontAt Means n)) c.self.view_is
          (λ holds. e.leaves n y holds.engine);
    }
