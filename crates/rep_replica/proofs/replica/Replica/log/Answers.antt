use Rattle.std.proofs.Common.{◌≡◌, [], ◌++◌, None, Some, true, false, List, take, refl, sym, ap, subst, ◌∙◌}
use Rattle.std.specs.Prelude.{◌↔◌, if◌then◌else◌, ◌||◌, is_some, length}
use Rattle.rep_types.specs.declared.judged.Judged.{Judged}
use Rattle.rep_types.specs.declared.refusal.Refusal.{Refusal}
use Rattle.rep_types.specs.declared.refusal.Refusal.TheVariants.{OutOfMemory, NotDue, Stopped}
use Rattle.rep_record.specs.Fronts.{fitting}
use Rattle.rep_log.specs.declared.phase.Phase.{Phase}
use Rattle.rep_log.specs.declared.phase.Phase.TheVariants.{Resting, Closing, Filling, Filled, Opening}
use Rattle.rep_steps.specs.declared.event.Event.TheVariants.{Log}
use Rattle.rep_steps.specs.declared.answer.Answer.{Answer}
use Rattle.rep_steps.specs.declared.answer.Answer.TheVariants.{Refused}
use Rattle.rep_steps.specs.Standings.{Standing, refusal, log_refusal}
use Rattle.rep_steps.specs.Moves.{takes_memory, is_at_rest}
use Rattle.rep_steps.specs.Parts.{with_ahead}
use Rattle.rep_recover.specs.Engines.{Engine, IsEngine, facts_of as engine_facts, phase_at}
use Rattle.rep_recover.specs.Accepting.{accepted_in, is_gathering, AcceptedItemsAreAFront}
use Rattle.rep_recover.specs.Holding.{wrote}
use Rattle.rep_replica.specs.Replicas.{Replica, facts_of}
use Rattle.rep_replica.specs.Refusing.{Gathers, RefusesUnchanged}
use Rattle.rep_replica.specs.Holding.{IsStep}
use Rattle.rep_log.specs.Standing.{Standing as LogStanding, due_of}
use Rattle.rep_recover.specs.Writing.{written_in}
use Rattle.rep_replica.specs.Settling.{outcome_of}
use Rattle.rep_replica.proofs.Settling.{refused_done, wrote_done}
use Rattle.rep_replica.proofs.Widening.{running_facts}
use Rattle.rep_replica.proofs.Keeping.{log_keeps, replica_keeps, runs_inside}
use Rattle.rep_replica.proofs.Gathering.{takes_as_all}
use Rattle.rep_replica.proofs.Refusing.{log_left}
use Rattle.rep_replica.proofs.Stepping.{IsMoved, as_step, refusal_same, refused_step, hungry_step, log_step, step_from}
use Rattle.rep_replica.proofs.replica.Replica.log.Goals as goal
use Rattle.rep_disk.specs.declared.disk.Disk.{Ghosts}

-- what the engine would refuse once it had accepted is what the replica refuses
due_is : {D : Type 0} (g : Ghosts D) (fronts : AcceptedItemsAreAFront) (r : Replica D) → r.stopped ≡ false → r.engine.halted ≡ None → IsEngine r.engine.layout r.engine.checkpoint r.engine.log r.engine.kept r.engine.block
    → refusal (facts_of g r) Log ≡ refusal (record (engine_facts g r.engine) { ahead = r.engine.block ++ take (accepted_in r.engine.log.phase r.engine.block r.backlog) r.backlog }) Log
due_is g fronts r running runs engine =
    let e = r.engine in
    let taken : List Judged = e.block ++ take (accepted_in e.log.phase e.block r.backlog) r.backlog in
    ap (λ (s : Standing). refusal s Log) (running_facts g r running)
    ∙ refusal_same (with_ahead taken (engine_facts g e)) (e.block ++ r.backlog) (λ rests. takes_as_all fronts e.log.phase e.block r.backlog engine.fits (sym (ap (phase_at e.log.phase) runs) ∙ rests))

-- where nothing refuses it and it gathers, it is at rest
rests_by : (s : Standing) (phase : Phase) → s.stopped ≡ false → refusal s Log ≡ None → s.phase ≡ phase → is_gathering phase ≡ true → takes_memory s Log ≡ true
rests_by s Resting runs none is gathers = ap is_at_rest is
rests_by s Closing runs none is gathers =
    absurd (let never : Some NotDue ≡ None = sym (ap (λ b. if b then Some Stopped else log_refusal s s.phase) runs ∙ ap (log_refusal s) is) ∙ none in cc)
rests_by s (Filling n) runs none is gathers = absurd (let never : false ≡ true = gathers in cc)
rests_by s (Filled n) runs none is gathers = absurd (let never : false ≡ true = gathers in cc)
rests_by s (Opening n) runs none is gathers = absurd (let never : false ≡ true = gathers in cc)

pub returns-in-Some-clause-step : goal.returns-in-Some-clause-step
returns-in-Some-clause-step g c =
    let r : Replica g.row.D.Denot = record { engine = c.self.inside.engine; backlog = c.self.inside.backlog; certifier = c.self.inside.certifier; stopped = c.self.inside.stopped } in
    let runs = runs_inside c.self.view_is c.requires.running in
    let due = due_is g.D.Disk c.accepted_items_are_a_front.ensures r runs.0 runs.1 c.durable-durable.ensures.engine ∙ sym c.due.ensures ∙ c.in-Some.is in
    subst (λ (x : Replica g.row.D.Denot). IsStep g.D.Disk x Log (Refused c.in-Some.refusal) x) c.self.view_is
    (refused_step g.D.Disk r Log c.in-Some.refusal due tt)

pub returns-in-Err-clause-step : goal.returns-in-Err-clause-step
returns-in-Err-clause-step g c =
    let r : Replica g.row.D.Denot = record { engine = c.self.inside.engine; backlog = c.self.inside.backlog; certifier = c.self.inside.certifier; stopped = c.self.inside.stopped } in
    let runs = runs_inside c.self.view_is c.requires.running in
    let none = due_is g.D.Disk c.accepted_items_are_a_front.ensures r runs.0 runs.1 c.durable-durable.ensures.engine ∙ sym c.due.ensures ∙ c.in_default.is in
    let why = c.in-Err.ensures.refused in
    let gathers : is_gathering c.self.inside.engine.log.phase ≡ true = ap (λ (x : Replica g.row.D.Denot). is_gathering x.engine.log.phase) c.self.view_is ∙ why.1 in
    let stopped : (facts_of g.D.Disk r).stopped ≡ false = ap (λ b. b || is_some c.self.inside.engine.halted) runs.0 ∙ ap is_some runs.1 in
    let takes = rests_by (facts_of g.D.Disk r) c.self.inside.engine.log.phase stopped none (ap (phase_at c.self.inside.engine.log.phase) runs.1) gathers in
    let step = hungry_step g.D.Disk r Log none takes tt in
    subst (λ (x : Replica g.row.D.Denot). IsStep g.D.Disk c.args.self.now Log (Refused c.in-Err.refusal) x) (sym why.2)
    (subst (λ (e : Refusal). IsStep g.D.Disk c.args.self.now Log (Refused e) c.args.self.now) (sym why.0)
    (subst (λ (x : Replica g.row.D.Denot). IsStep g.D.Disk x Log (Refused OutOfMemory) x) c.self.view_is step))

-- ---- where it went on

abbrev mid : (g : _) (c : goal.After-wrote g) → Replica g.row.D.Denot
mid g c = record { engine = c.self-2.inside.engine; backlog = c.self-2.inside.backlog; certifier = c.self-2.inside.certifier; stopped = c.self-2.inside.stopped }

abbrev new : (g : _) (c : goal.After-wrote g) → Replica g.row.D.Denot
new g c = record { engine = c.log.new.self; backlog = c.self-2.inside.backlog; certifier = c.self-2.inside.certifier; stopped = c.self-2.inside.stopped }

running_on : (g : _) (c : goal.After-wrote g) → c.self-2.inside.stopped ≡ false
running_on g c = ap (λ (x : Replica g.row.D.Denot). x.stopped) c.self-2.view_is ∙ c.in_default-gather.ensures.running

pub invariant_of-self : goal.invariant_of-self
invariant_of-self g c =
    replica_keeps (engine_facts g.D.Disk c.self-2.inside.engine) (engine_facts g.D.Disk c.log.new.self) c.self-2.inside.backlog c.self-2.inside.certifier.current c.self-2.inside.stopped (running_on g c)
    (log_keeps (engine_facts g.D.Disk c.self-2.inside.engine) (engine_facts g.D.Disk c.log.new.self) (wrote c.log.result) c.log.ensures.moves) c.self-2.invariant

-- the engine takes no more
full : (g : _) (c : goal.After-wrote g) → phase_at c.self-2.inside.engine.log.phase c.self-2.inside.engine.halted ≡ Resting
    → fitting [] c.self-2.inside.engine.block ≡ fitting [] (c.self-2.inside.engine.block ++ c.self-2.inside.backlog)
full g c rests =
    let before = c.args.self.now.engine in
    let engine = c.in_default-gather.ensures.engine in
    let log : c.self-2.inside.engine.log ≡ before.log = ap (λ (x : Replica g.row.D.Denot). x.engine.log) c.self-2.view_is ∙ ap (λ (e : Engine g.row.D.Denot). e.log) engine in
    let halted : c.self-2.inside.engine.halted ≡ None = ap (λ (x : Replica g.row.D.Denot). x.engine.halted) c.self-2.view_is ∙ ap (λ (e : Engine g.row.D.Denot). e.halted) engine ∙ c.requires.running.1 in
    let at_rest : before.log.phase ≡ Resting = sym (ap (phase_at c.self-2.inside.engine.log.phase) halted ∙ ap (λ l. l.phase) log) ∙ rests in
    let ahead = ap (λ (s : Standing). s.ahead) (sym c.in_default-gather.ensures.facts) in
    ap (λ (x : Replica g.row.D.Denot). fitting [] x.engine.block) c.self-2.view_is ∙ c.in_default-gather.ensures.gathered at_rest ∙ ap (fitting []) ahead
    ∙ sym (ap (λ (x : Replica g.row.D.Denot). fitting [] (x.engine.block ++ x.backlog)) c.self-2.view_is)

-- what the device's failure leaves
left : (g : _) (c : goal.After-wrote g) → RefusesUnchanged Log (wrote c.log.result) c.args.self.now (new g c)
left g c =
    let gathered = c.in_default-gather.ensures.took in
    let due : refusal (engine_facts g.D.Disk c.gather.new.self.engine) Log ≡ None =
    ap (λ (x : Replica g.row.D.Denot). refusal (engine_facts g.D.Disk x.engine) Log) gathered.after
    ∙ ap (λ (x : Replica g.row.D.Denot). refusal (record (engine_facts g.D.Disk x.engine) { ahead = x.engine.block ++ take (accepted_in x.engine.log.phase x.engine.block x.backlog) x.backlog }) Log) (sym c.self.view_is)
    ∙ sym c.due.ensures ∙ c.in_default.is in
    let none : refusal (engine_facts g.D.Disk c.self-2.inside.engine) Log ≡ None = ap (λ (x : Replica g.row.D.Denot). refusal (engine_facts g.D.Disk x.engine) Log) c.self-2.view_is ∙ due in
    log_left g.D.Disk c.args.self.now (mid g c) (subst (Gathers c.args.self.now) (sym c.self-2.view_is) gathered) c.log.new.self none c.log.result c.log.ensures.moves c.log.ensures.memory c.log.ensures.fault

pub returns-clause-step : goal.returns-clause-step
returns-clause-step g c =
    let params = ap (λ (x : Engine g.row.D.Denot). x.checkpoint.base.params) c.log.ensures.rest in
    let block = ap (λ (x : Engine g.row.D.Denot). x.block) c.log.ensures.rest in
    let step = log_step g.D.Disk c.nodes_stay_nodes.ensures c.judging_goes_on.ensures c.parts_step_as_the_whole.ensures (mid g c) (new g c) (wrote c.log.result) params refl refl refl (running_on g c) block
    (record { moves = c.log.ensures.moves; steps = c.log.ensures.steps; leaves = c.log.ensures.leaves }) (full g c) in
    let from = subst (λ (x : Replica g.row.D.Denot). IsMoved g.D.Disk x Log (wrote c.log.result) (new g c)) c.self-2.view_is step in
    let disk = ap (λ (e : Engine g.row.D.Denot). e.disk) c.in_default-gather.ensures.engine in
    subst (λ (a : Answer). IsStep g.D.Disk c.args.self.now Log a (new g c)) (sym c.wrote.ensures)
    (as_step g.D.Disk c.args.self.now Log (wrote c.log.result) (new g c)
    (step_from g.D.Disk c.args.self.now c.gather.new.self (new g c) Log (wrote c.log.result) c.in_default-gather.ensures.facts c.in_default-gather.ensures.holds disk from)
    (subst (λ (d : g.row.D.Denot). g.D.Disk.honest d ↔ g.D.Disk.honest c.log.new.self.disk) (ap (λ (x : Replica g.row.D.Denot). x.engine.disk) c.self-2.view_is ∙ disk) (c.log.ensures.call.stays_honest, c.log.ensures.call.was_honest)) (left g c) tt)

-- ---- the log after it

pub returns-in-Some-clause-log : goal.returns-in-Some-clause-log
returns-in-Some-clause-log g c = λ done. absurd (refused_done c.in-Some.refusal done)

pub returns-in-Err-clause-log : goal.returns-in-Err-clause-log
returns-in-Err-clause-log g c = λ done. absurd (refused_done c.in-Err.refusal done)

pub returns-clause-log : goal.returns-clause-log
returns-clause-log g c = λ done.
    let before = c.args.self.now.engine in
    let now = c.self-2.inside.engine in
    let log : now.log ≡ before.log = ap (λ (x : Replica g.row.D.Denot). x.engine.log) c.self-2.view_is ∙ ap (λ (e : Engine g.row.D.Denot). e.log) c.in_default-gather.ensures.engine in
    let block : now.block ≡ c.log.new.self.block = sym (ap (λ (x : Engine g.row.D.Denot). x.block) c.log.ensures.rest) in
    wrote_done c.log.result _ (sym (ap outcome_of c.wrote.ensures) ∙ done) c.log.ensures.log
    ∙ ap (λ (k : LogStanding). written_in (due_of k) (length now.block) k) log
    ∙ ap (λ (b : List Judged). written_in (due_of before.log) (length b) before.log) block
