use Rattle.std.proofs.Common.{◌≡◌, [], ◌++◌, ◌≤◌, List, length, refl, sym, ap, subst, ◌∙◌, arith}
use Rattle.rep_types.specs.declared.judged.Judged.{Judged}
use Rattle.rep_record.specs.Fronts.{fitting}
use Rattle.rep_log.specs.declared.phase.Phase.TheVariants.{Resting}
use Rattle.rep_recover.specs.Engines.{facts_of as engine_facts}
use Rattle.rep_replica.specs.Replicas.{Replica, IsReplica}
use Rattle.rep_replica.specs.Refusing.{Gathers}
use Rattle.rep_replica.specs.Holding.{Holds}
use Rattle.rep_replica.proofs.Keeping.{replica_takes}
use Rattle.rep_replica.proofs.Gathering.{takes_no_more, gathers, holds_still}
use Rattle.rep_replica.proofs.replica.Replica.gather.Goals as goal

within : (g : _) (c : goal.After-durable-durable g) → c.in_ok-accept.field-0 ≤ length c.self.inside.backlog
within g c =
    let at = c.accepted_items_are_a_front.ensures.within c.self.inside.engine.log.phase c.self.inside.engine.block c.self.inside.backlog in
    omega (arith, at, c.in_ok-accept.ensures.count)

pub invariant_of-self-2 : goal.invariant_of-self-2
invariant_of-self-2 g c =
    let k = c.in_ok-accept.field-0 in
    subst (λ (js : List Judged). IsReplica (engine_facts g.D.Disk c.accept.new.self) js c.self.inside.certifier.current c.self.inside.stopped) (sym c.in_ok-accept.ensures.backlog)
    (replica_takes c.judging_goes_on.ensures (engine_facts g.D.Disk c.self.inside.engine) (engine_facts g.D.Disk c.accept.new.self) c.self.inside.backlog c.self.inside.certifier.current c.self.inside.stopped k (within g c)
    c.in_ok-accept.ensures.facts c.self.invariant)

pub returns-clause-holds : goal.returns-clause-holds
returns-clause-holds g c n holds =
    let old : Replica g.row.D.Denot = record { engine = c.self.inside.engine; backlog = c.self.inside.backlog; certifier = c.self.inside.certifier; stopped = c.self.inside.stopped } in
    let new : Replica g.row.D.Denot = record { engine = c.accept.new.self; backlog = c.accept.new.backlog; certifier = c.self.inside.certifier; stopped = c.self.inside.stopped } in
    holds_still g.D.Disk c.in_ok-accept.field-0 old new c.in_ok-accept.ensures.backlog refl refl
    (record { within = within g c; facts = c.in_ok-accept.ensures.facts; block = c.in_ok-accept.ensures.block; holds = c.in_ok-accept.ensures.holds }) c.judging_goes_on.ensures n
    (subst (Holds g.D.Disk n) (sym c.self.view_is) holds)

pub returns-clause-gathered : goal.returns-clause-gathered
returns-clause-gathered g c rests =
    let e = c.self.inside.engine in
    let js = c.self.inside.backlog in
    let at_rest : e.log.phase ≡ Resting = ap (λ (r : Replica g.row.D.Denot). r.engine.log.phase) c.self.view_is ∙ rests in
    takes_no_more c.accepted_items_are_a_front.ensures e.log.phase e.block js c.accept.new.self.block c.in_ok-accept.field-0 c.in_ok-accept.ensures.count c.in_ok-accept.ensures.block c.durable-durable.ensures.engine.fits at_rest
    ∙ ap (λ (r : Replica g.row.D.Denot). fitting [] (r.engine.block ++ r.backlog)) c.self.view_is

pub returns-clause-took : goal.returns-clause-took
returns-clause-took g c =
    let old : Replica g.row.D.Denot = record { engine = c.self.inside.engine; backlog = c.self.inside.backlog; certifier = c.self.inside.certifier; stopped = c.self.inside.stopped } in
    let new : Replica g.row.D.Denot = record { engine = c.accept.new.self; backlog = c.accept.new.backlog; certifier = c.self.inside.certifier; stopped = c.self.inside.stopped } in
    subst (λ (r : Replica g.row.D.Denot). Gathers r new) c.self.view_is
    (gathers old c.accept.new.self c.accept.new.backlog c.in_ok-accept.field-0 c.in_ok-accept.ensures.count c.accept.ensures.rest c.in_ok-accept.ensures.block c.in_ok-accept.ensures.backlog c.in_ok-accept.ensures.versions)
