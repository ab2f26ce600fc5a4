use Rattle.std.proofs.Common.{◌≡◌, ◌≤◌, ◌-◌, ℕ, List, [], false, Bool, sym, ap, subst, ◌∙◌}
use Rattle.rep_types.specs.declared.judged.Judged.{Judged}
use Rattle.rep_types.specs.Windows.{Window}
use Rattle.rep_types.specs.Settings.{Setting}
use Rattle.rep_cert.specs.Holdings.{Holdings, IsAskable, window_of, made_at}
use Rattle.rep_steps.specs.Nodes.{window_at}
use Rattle.rep_recover.specs.Coming.{blank, coming}
use Rattle.rep_recover.specs.Engines.{Engine, facts_of as engine_facts}
use Rattle.rep_recover.specs.Holding.{Holds as EngineHolds}
use Rattle.rep_recover.specs.Installing.{Beside, CanBring, HoldsBoth as EngineHoldsBoth}
use Rattle.rep_replica.specs.Replicas.{Replica, IsReplica}
use Rattle.rep_replica.specs.Installing.{IsBringing}
use Rattle.rep_replica.proofs.Settling.{is_running}
use Rattle.rep_replica.proofs.Installing.{quiet_rests, engine_whole, same_ok, never_err, is_bringing}
use Rattle.rep_replica.proofs.replica.Replica.install.Goals as goal

pub install-requires-clause-waits : goal.install-requires-clause-waits
install-requires-clause-waits g c = ap (λ (r : Replica g.row.D.Denot). r.engine.block) c.self.view_is ∙ (quiet_rests g.D.Disk c.args.self c.requires.quiet).block

pub install-requires-clause-off : goal.install-requires-clause-off
install-requires-clause-off g c = ap (λ (r : Replica g.row.D.Denot). r.engine.checkpoint.stage) c.self.view_is ∙ (quiet_rests g.D.Disk c.args.self c.requires.quiet).off

pub invariant_of-result : goal.invariant_of-result
invariant_of-result g c =
    let old = c.args.self in
    let rests = quiet_rests g.D.Disk old c.requires.quiet in
    let running = is_running g.D.Disk old (sym c.if-is_stopped.ensures) in
    let engine : c.self.inside.engine ≡ old.engine = ap (λ (r : Replica g.row.D.Denot). r.engine) c.self.view_is in
    let backlog : c.self.inside.backlog ≡ [] = ap (λ (r : Replica g.row.D.Denot). r.backlog) c.self.view_is ∙ rests.backlog in
    let stopped : c.self.inside.stopped ≡ false = ap (λ (r : Replica g.row.D.Denot). r.stopped) c.self.view_is ∙ running.inside in
    let begun = same_ok (sym c.in-Ok-install.is ∙ c.install.ensures.begun (ap (λ (e : Engine g.row.D.Denot). e.halted) engine ∙ running.device)) in
    let replica : IsReplica (engine_facts g.D.Disk c.self.inside.engine) [] c.self.inside.certifier.current false =
    subst (λ (b : Bool). IsReplica (engine_facts g.D.Disk c.self.inside.engine) [] c.self.inside.certifier.current b) stopped
    (subst (λ (js : List Judged). IsReplica (engine_facts g.D.Disk c.self.inside.engine) js c.self.inside.certifier.current c.self.inside.stopped) backlog c.self.invariant) in
    let made = c.in-Ok.ensures.made.0 ∙ ap (λ (p : Setting). made_at p c.args.position c.args.window) (c.copied-params.ensures ∙ c.params.ensures ∙ ap (λ (e : Engine g.row.D.Denot). e.checkpoint.base.params) (sym engine)) in
    let can = subst (λ (e : Engine g.row.D.Denot). CanBring e.checkpoint.base (e.log.seqno - 1) c.args.uuid c.args.position c.args.window) (sym engine) c.requires.brings in (
      backlog,
      subst (λ (b : Beside g.row.D.Denot). IsBringing (engine_facts g.D.Disk b.engine) b.coming c.self.inside.certifier c.in-Ok.after) (sym begun)
          (subst (λ (v : Window). IsBringing (engine_facts g.D.Disk c.self.inside.engine) (coming c.self.inside.engine.checkpoint.base c.args.uuid c.args.position c.self.inside.engine.log.next v) c.self.inside.certifier c.in-Ok.after)
          (sym c.in-Ok.ensures.made.1)
          (is_bringing g.D.Disk c.self.inside.engine c.args.uuid c.args.position c.args.window c.self.inside.certifier c.in-Ok.after can replica made)),
    )

pub invariant_of-replica : goal.invariant_of-replica
invariant_of-replica g c =
    let running = is_running g.D.Disk c.args.self (sym c.if-is_stopped.ensures) in
    never_err (c.install.ensures.begun (ap (λ (r : Replica g.row.D.Denot). r.engine.halted) c.self.view_is ∙ running.device)) c.in-Err-install.is

pub returns-in-Ok-install-clause-begun : goal.returns-in-Ok-install-clause-begun
returns-in-Ok-install-clause-begun g c =
    let old = c.args.self in
    let running = is_running g.D.Disk old (sym c.if-is_stopped.ensures) in
    let begun = same_ok (sym c.in-Ok-install.is ∙ c.install.ensures.begun (ap (λ (r : Replica g.row.D.Denot). r.engine.halted) c.self.view_is ∙ running.device)) in (
      ap (λ (b : Beside g.row.D.Denot). b.engine) begun ∙ ap (λ (r : Replica g.row.D.Denot). r.engine) c.self.view_is,
      ap (λ (b : Beside g.row.D.Denot). b.coming) begun ∙ ap (λ (r : Replica g.row.D.Denot). coming r.engine.checkpoint.base c.args.uuid c.args.position r.engine.log.next c.in-Ok.window) c.self.view_is
          ∙ ap (λ (v : Window). coming old.engine.checkpoint.base c.args.uuid c.args.position old.engine.log.next v) c.in-Ok.ensures.made.1,
    )

pub returns-in-Ok-install-clause-holds : goal.returns-in-Ok-install-clause-holds
returns-in-Ok-install-clause-holds g c = λ n holds.
    let old = c.args.self in
    let rests = quiet_rests g.D.Disk old c.requires.quiet in
    let whole = subst (λ (e : Engine g.row.D.Denot). EngineHolds g.D.Disk n e) (sym (ap (λ (r : Replica g.row.D.Denot). r.engine) c.self.view_is)) (engine_whole g.D.Disk n old rests holds) in
    let certifier : c.self.inside.certifier ≡ old.certifier = ap (λ (r : Replica g.row.D.Denot). r.certifier) c.self.view_is in
    record {
      engine = subst (λ (v : Window). EngineHoldsBoth g.D.Disk n (blank c.args.position v) c.in-Ok-install.engine.engine c.in-Ok-install.engine.coming) c.in-Ok.ensures.made.1 (c.in-Ok-install.ensures.holds n whole);
      judged = holds.judged;
      windows = subst (λ (h : Holdings). (k : ℕ) → n.base.position ≤ k → IsAskable h.current k → window_of h.current k ≡ window_at n k) (sym certifier) holds.windows;
    }

pub returns-in-Err-install-clause-refused : goal.returns-in-Err-install-clause-refused
returns-in-Err-install-clause-refused g c =
    let running = is_running g.D.Disk c.args.self (sym c.if-is_stopped.ensures) in
    never_err (c.install.ensures.begun (ap (λ (r : Replica g.row.D.Denot). r.engine.halted) c.self.view_is ∙ running.device)) c.in-Err-install.is
