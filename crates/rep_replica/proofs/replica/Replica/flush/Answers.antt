use Rattle.std.proofs.Common.{refl, sym, ap, subst}
use Rattle.rep_steps.specs.declared.event.Event.TheVariants.{Flush}
use Rattle.rep_steps.specs.declared.answer.Answer.{Answer}
use Rattle.rep_recover.specs.Engines.{Engine, facts_of as engine_facts}
use Rattle.rep_recover.specs.Holding.{wrote}
use Rattle.rep_replica.specs.Replicas.{Replica}
use Rattle.rep_replica.specs.Holding.{IsStep}
use Rattle.rep_replica.proofs.Keeping.{Keep, flush_keeps, replica_keeps, runs_inside}
use Rattle.rep_replica.proofs.Refusing.{left_by_wrote, asked_left, flush_spells}
use Rattle.rep_replica.proofs.Stepping.{as_step, flush_step}
use Rattle.rep_replica.proofs.replica.Replica.flush.Goals as goal

abbrev old : (g : _) (c : goal.After-wrote g) → Replica g.row.D.Denot
old g c = record { engine = c.self.inside.engine; backlog = c.self.inside.backlog; certifier = c.self.inside.certifier; stopped = c.self.inside.stopped }

abbrev new : (g : _) (c : goal.After-wrote g) → Replica g.row.D.Denot
new g c = record { engine = c.flush.new.self; backlog = c.self.inside.backlog; certifier = c.self.inside.certifier; stopped = c.self.inside.stopped }

keeps : (g : _) (c : goal.After-wrote g) → Keep (engine_facts g.D.Disk c.self.inside.engine) (engine_facts g.D.Disk c.flush.new.self)
keeps g c = flush_keeps (engine_facts g.D.Disk c.self.inside.engine) (engine_facts g.D.Disk c.flush.new.self) c.args.page (wrote c.flush.result) c.flush.ensures.moves

pub invariant_of-self : goal.invariant_of-self
invariant_of-self g c =
    replica_keeps (engine_facts g.D.Disk c.self.inside.engine) (engine_facts g.D.Disk c.flush.new.self) c.self.inside.backlog c.self.inside.certifier.current c.self.inside.stopped (runs_inside c.self.view_is c.requires.running).0 (keeps g c) c.self.invariant

pub returns : goal.returns
returns g c =
    let block = ap (λ (x : Engine g.row.D.Denot). x.block) c.flush.ensures.rest in
    let step = flush_step g.D.Disk c.nodes_stay_nodes.ensures c.judging_goes_on.ensures c.parts_step_as_the_whole.ensures (old g c) (new g c) (wrote c.flush.result) (keeps g c).setting refl refl refl (runs_inside c.self.view_is c.requires.running).0 c.args.page
    block (record { moves = c.flush.ensures.moves; steps = c.flush.ensures.steps; leaves = c.flush.ensures.leaves }) in
    subst (λ (r : Replica g.row.D.Denot). IsStep g.D.Disk r (Flush c.args.page) c.wrote.result (new g c)) c.self.view_is
    (subst (λ (a : Answer). IsStep g.D.Disk (old g c) (Flush c.args.page) a (new g c)) (sym c.wrote.ensures)
    (as_step g.D.Disk (old g c) (Flush c.args.page) (wrote c.flush.result) (new g c) step (c.flush.ensures.call.stays_honest, c.flush.ensures.call.was_honest)
    (left_by_wrote (Flush c.args.page) (old g c) (new g c) c.flush.result
    (asked_left (Flush c.args.page) (old g c) c.flush.new.self (λ fault. fault) c.flush.result c.flush.ensures.unchanged c.flush.ensures.fault))
    (flush_spells g.D.Disk c.args.page (old g c) (new g c) c.flush.result c.flush.ensures.spelled)))
