use Rattle.std.proofs.Common.{Result, sym, ap, subst, ◌∙◌}
use Rattle.std.specs.Result.{is_err}
use Rattle.rep_types.specs.declared.refusal.Refusal.{Refusal}
use Rattle.rep_replica.specs.Replicas.{facts_of}
use Rattle.rep_replica.specs.Refusing.{TellsFaults}
use Rattle.rep_replica.proofs.Settling.{ok_of, on_ok, runs_on}
use Rattle.rep_replica.proofs.Retiring.{step_fronts, second_leaves, second_fronts, holds_retired, check_tells, both_tell}
use Rattle.rep_replica.proofs.Installing.{on_err}
use Rattle.rep_replica.proofs.replica.Replica.retire.Goals as goal

pub returns-then-is_err-clause-fronts : goal.returns-then-is_err-clause-fronts
returns-then-is_err-clause-fronts g c = λ n holds.
    on_err c.outcome-checked.result (step_fronts g.D.Disk c.args.self.now c.check.new.self c.check.result c.check.ensures n holds)

pub returns-clause-holds : goal.returns-clause-holds
returns-clause-holds g c = λ n holds.
    let done = sym c.outcome-checked.ensures ∙ ok_of c.outcome-checked.result c.if-is_err.ensures.value in
    on_ok c.outcome.result (λ ok. holds_retired g.D.Disk c.args.self.now c.check.new.self c.check.result c.check.ensures n holds c.requires.running c.requires.retiring c.requires.resting done c.sync.new.self c.sync.result c.sync.ensures.step
    (sym c.outcome.ensures ∙ ok))

pub returns-clause-fronts : goal.returns-clause-fronts
returns-clause-fronts g c = λ n holds.
    let done = sym c.outcome-checked.ensures ∙ ok_of c.outcome-checked.result c.if-is_err.ensures.value in
    on_err c.outcome.result (second_fronts g.D.Disk c.args.self.now c.check.new.self c.check.result c.check.ensures n holds c.requires.running c.requires.retiring c.requires.resting done c.sync.new.self c.sync.result c.sync.ensures.step)

pub returns-clause-leaves : goal.returns-clause-leaves
returns-clause-leaves g c = λ n holds.
    let done = sym c.outcome-checked.ensures ∙ ok_of c.outcome-checked.result c.if-is_err.ensures.value in
    second_leaves g.D.Disk c.args.self.now c.check.new.self c.check.result c.check.ensures n holds c.requires.running c.requires.retiring c.requires.resting done c.sync.new.self c.sync.result c.sync.ensures.step

-- ---- what is told of the device

pub returns-then-is_err-clause-told : goal.returns-then-is_err-clause-told
returns-then-is_err-clause-told g c =
    subst (λ (o : Result (Unit {0}) Refusal). TellsFaults (g.D.Disk.failures c.args.self.now.engine.disk) (g.D.Disk.failures c.check.new.self.engine.disk) o) (sym c.outcome-checked.ensures)
    (check_tells (facts_of g.D.Disk c.args.self.now) c.requires.retiring c.requires.resting (runs_on g.D.Disk c.args.self.now c.requires.running) (facts_of g.D.Disk c.check.new.self) c.check.result c.check.ensures.moves)

pub returns-clause-told : goal.returns-clause-told
returns-clause-told g c =
    let done = sym c.outcome-checked.ensures ∙ ok_of c.outcome-checked.result c.if-is_err.ensures.value in
    subst (λ (o : Result (Unit {0}) Refusal). TellsFaults (g.D.Disk.failures c.args.self.now.engine.disk) (g.D.Disk.failures c.sync.new.self.engine.disk) o) (sym c.outcome.ensures)
    (both_tell (facts_of g.D.Disk c.args.self.now) c.requires.retiring c.requires.resting (runs_on g.D.Disk c.args.self.now c.requires.running) (facts_of g.D.Disk c.check.new.self) (facts_of g.D.Disk c.sync.new.self)
    c.check.result c.sync.result c.check.ensures.moves done c.sync.ensures.step.moves)

pub returns-then-is_err-clause-holds : goal.returns-then-is_err-clause-holds
returns-then-is_err-clause-holds g c = λ n holds. on_ok c.outcome-checked.result (λ ok. (let never = c.if-is_err.ensures.value ∙ ap is_err ok in absurd cc))
