use Rattle.std.proofs.Common.{refl, sym, ap, subst}
use Rattle.rep_types.specs.Settings.{Setting}
use Rattle.rep_cert.specs.Holdings.{window_of}
use Rattle.rep_steps.specs.declared.event.Event.TheVariants.{Check}
use Rattle.rep_steps.specs.declared.answer.Answer.{Answer}
use Rattle.rep_layout.specs.Windows.{IsWindowAt}
use Rattle.rep_recover.specs.Engines.{Engine, facts_of as engine_facts, durable_of}
use Rattle.rep_recover.specs.Checking.{checked}
use Rattle.rep_replica.specs.Replicas.{Replica}
use Rattle.rep_replica.specs.Holding.{IsStep}
use Rattle.rep_replica.proofs.Keeping.{check_keeps, replica_keeps, runs_inside}
use Rattle.rep_replica.proofs.Refusing.{left_by_checked, refused_left}
use Rattle.rep_replica.proofs.Stepping.{as_step, check_step}
use Rattle.rep_replica.proofs.replica.Replica.check.Goals as goal

pub check-requires : goal.check-requires
check-requires g c =
    let h = c.self.inside.certifier.current in
    let durable = durable_of c.self.inside.engine.log in
    record {
      window = λ off. record {
        askable = c.self.invariant.askable;
        window = subst (λ (p : Setting). IsWindowAt p durable (window_of h durable)) c.self.invariant.setting (c.self.invariant.windows durable c.self.invariant.askable);
      };
    }

abbrev old : (g : _) (c : goal.After-checked g) → Replica g.row.D.Denot
old g c = record { engine = c.self.inside.engine; backlog = c.self.inside.backlog; certifier = c.self.inside.certifier; stopped = c.self.inside.stopped }

abbrev new : (g : _) (c : goal.After-checked g) → Replica g.row.D.Denot
new g c = record { engine = c.check.new.self; backlog = c.self.inside.backlog; certifier = c.self.inside.certifier; stopped = c.self.inside.stopped }

pub invariant_of-self : goal.invariant_of-self
invariant_of-self g c =
    replica_keeps (engine_facts g.D.Disk c.self.inside.engine) (engine_facts g.D.Disk c.check.new.self) c.self.inside.backlog c.self.inside.certifier.current c.self.inside.stopped (runs_inside c.self.view_is c.requires.running).0
    (check_keeps (engine_facts g.D.Disk c.self.inside.engine) (engine_facts g.D.Disk c.check.new.self) (checked c.check.result) c.check.ensures.moves) c.self.invariant

pub returns : goal.returns
returns g c =
    let block = ap (λ (x : Engine g.row.D.Denot). x.block) c.check.ensures.rest in
    let step = check_step g.D.Disk c.nodes_stay_nodes.ensures c.judging_goes_on.ensures c.parts_step_as_the_whole.ensures (old g c) (new g c) (checked c.check.result) c.check.ensures.params refl refl refl (runs_inside c.self.view_is c.requires.running).0
    block c.check.ensures.moves (λ n holds window. c.check.ensures.steps n holds (λ off. window)) c.check.ensures.leaves c.self.invariant.askable in
    subst (λ (r : Replica g.row.D.Denot). IsStep g.D.Disk r Check c.checked.result (new g c)) c.self.view_is
    (subst (λ (a : Answer). IsStep g.D.Disk (old g c) Check a (new g c)) (sym c.checked.ensures)
    (as_step g.D.Disk (old g c) Check (checked c.check.result) (new g c) step (c.check.ensures.call.stays_honest, c.check.ensures.call.was_honest)
    (left_by_checked Check (old g c) (new g c) c.check.result (refused_left Check (old g c) c.check.new.self (λ fault. fault) c.check.result c.check.ensures.unchanged c.check.ensures.fault)) tt))
