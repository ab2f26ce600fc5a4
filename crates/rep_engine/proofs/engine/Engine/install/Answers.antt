use Rattle.std.proofs.Common.{◌≡◌, ℕ, sym, ap, subst, ◌∙◌, rules}
use Rattle.rep_checkpoint.specs.Coming.{Coming, CanInstall, IsComing, blank, coming}
use Rattle.rep_checkpoint.specs.Installing.{BeginsToInstall}
use Rattle.rep_engine.specs.Engines.{Engine, IsEngine}
use Rattle.rep_engine.specs.Installing.{HoldsBoth}
use Rattle.rep_engine.proofs.Answering.{runs_of}
use Rattle.rep_engine.proofs.Installing.{can_install, begins_beside, begins_both}
use Rattle.rep_engine.proofs.engine.Engine.install.Goals as goal

pub install-coming-requires : goal.install-coming-requires
install-coming-requires g c =
    let can =
    subst (λ (e : Engine g.row.D.Denot). CanInstall e.checkpoint c.args.uuid c.args.position e.log.next c.args.window) (sym c.self.view_is)
    (can_install c.windows_go_on.ensures c.args.self (subst (λ (e : Engine g.row.D.Denot). IsEngine e.layout e.checkpoint e.log e.kept e.block) c.self.view_is c.self.invariant.0) c.args.uuid c.args.position c.args.window c.requires.off c.requires.brings) in
    subst (λ start. CanInstall c.self.inside.checkpoint c.args.uuid c.args.position start c.args.window) (sym c.next-start.ensures.next) can

pub returns-clause-holds : goal.returns-clause-holds
returns-clause-holds g c = λ n holds.
    let old = c.args.self in
    let is : c.install-coming.result ≡ coming old.checkpoint.base c.args.uuid c.args.position old.log.next c.args.window =
    c.install-coming.ensures.coming ∙ ap (λ (e : Engine g.row.D.Denot). coming e.checkpoint.base c.args.uuid c.args.position c.next-start.result c.args.window) c.self.view_is
    ∙ ap (λ (s : ℕ). coming old.checkpoint.base c.args.uuid c.args.position s c.args.window) (c.next-start.ensures.next ∙ ap (λ (e : Engine g.row.D.Denot). e.log.next) c.self.view_is) in
    let begins = subst (λ (k : Coming). BeginsToInstall old.checkpoint k) is (subst (λ (e : Engine g.row.D.Denot). BeginsToInstall e.checkpoint c.install-coming.result) c.self.view_is c.install-coming.ensures.begins) in
    subst (λ (k : Coming). HoldsBoth g.D.Disk n (blank c.args.position c.args.window) old k) (sym is)
    (begins_both g.D.Disk c.installations_stand_beside.ensures old (subst (λ (e : Engine g.row.D.Denot). IsEngine e.layout e.checkpoint e.log e.kept e.block) c.self.view_is c.self.invariant.0)
    (runs_of c.self.view_is c.if-is_some.ensures) c.args.uuid c.args.position c.args.window c.requires.off c.requires.waits c.requires.brings begins n holds)

pub invariant_of-result : goal.invariant_of-result
invariant_of-result g c =
    let old = c.args.self in
    let is : c.install-coming.result ≡ coming old.checkpoint.base c.args.uuid c.args.position old.log.next c.args.window =
    c.install-coming.ensures.coming ∙ ap (λ (e : Engine g.row.D.Denot). coming e.checkpoint.base c.args.uuid c.args.position c.next-start.result c.args.window) c.self.view_is
    ∙ ap (λ (s : ℕ). coming old.checkpoint.base c.args.uuid c.args.position s c.args.window) (c.next-start.ensures.next ∙ ap (λ (e : Engine g.row.D.Denot). e.log.next) c.self.view_is) in
    let comes = subst (λ (e : Engine g.row.D.Denot). IsComing e.checkpoint.base c.install-coming.result.next) c.self.view_is c.install-coming.ensures.is in
    let engine = subst (λ (e : Engine g.row.D.Denot). IsEngine e.layout e.checkpoint e.log e.kept e.block) c.self.view_is c.self.invariant.0 in
    begins_beside old engine c.args.uuid c.args.position c.args.window c.requires.off c.requires.brings c.requires.waits c.install-coming.result is comes

pub windows_go_on-requires : goal.windows_go_on-requires
windows_go_on-requires g c = search

pub installations_stand_beside-requires : goal.installations_stand_beside-requires
installations_stand_beside-requires g c = search

pub returns-then-is_some-clause-holds : goal.returns-then-is_some-clause-holds
returns-then-is_some-clause-holds g c = search

pub next-start-requires : goal.next-start-requires
next-start-requires g c = search

pub returns-then-is_some-clause-stopped : goal.returns-then-is_some-clause-stopped
returns-then-is_some-clause-stopped g c = search rules

pub returns-then-is_some-clause-begun : goal.returns-then-is_some-clause-begun
returns-then-is_some-clause-begun g c = search rules

pub returns-clause-stopped : goal.returns-clause-stopped
returns-clause-stopped g c = search rules

pub returns-clause-begun : goal.returns-clause-begun
returns-clause-begun g c = search rules
