use Rattle.std.proofs.Common.{refl, sym, ap, subst, rules}
use Rattle.std.specs.Prelude.{IsOk, IsErr}
use Rattle.rep_types.proofs.Choices.{of_success}
use Rattle.rep_checkpoint.specs.Coming.{Coming}
use Rattle.rep_engine.proofs.Installing.{failed, not_taken, takes_then}
use Rattle.rep_engine.proofs.engine.Engine.install_end.Goals as goal

pub returns-in_err-install_step-clause-takes : goal.returns-in_err-install_step-clause-takes
returns-in_err-install_step-clause-takes g c = λ n y holds.
    not_taken g.D.Disk n y _ _ _ c.args.coming c.from_residual.result c.from_residual.ensures.0
    (failed n y _ _ _ _ c.args.coming c.install_step.result c.from_residual.result (subst IsErr (sym c.in_err-install_step.was) refl) c.from_residual.ensures.0 (c.install_step.ensures.goes n y holds))

pub returns-in_err-install_step-2-clause-takes : goal.returns-in_err-install_step-2-clause-takes
returns-in_err-install_step-2-clause-takes g c = λ n y holds.
    let first = c.install_step.ensures.goes n y holds in
    let ok : IsOk c.install_step.result = subst IsOk (sym c.in_ok-install_step.was) refl in
    let super = ap (λ (k : Coming). k.next.super) (of_success c.install_step.result ok c.install_step.ensures.done) in
    takes_then g.D.Disk n y c.args.self.now c.install_step.new.self _ c.args.coming c.install_step.new.coming c.from_residual-in_err-install_step-2.result super first.leaves
    (not_taken g.D.Disk n y _ _ c.install_step.new.coming c.install_step-2.new.coming c.from_residual-in_err-install_step-2.result c.from_residual-in_err-install_step-2.ensures.0
    (failed n y _ _ _ _ _ c.install_step-2.result c.from_residual-in_err-install_step-2.result (subst IsErr (sym c.in_err-install_step-2.was) refl) c.from_residual-in_err-install_step-2.ensures.0 (c.install_step-2.ensures.goes n y (of_success c.install_step.result ok first.holds))))

pub returns-clause-takes : goal.returns-clause-takes
returns-clause-takes g c = λ n y holds.
    let first = c.install_step.ensures.goes n y holds in
    let ok : IsOk c.install_step.result = subst IsOk (sym c.in_ok-install_step.was) refl in
    let second = c.install_step-2.ensures.goes n y (of_success c.install_step.result ok first.holds) in
    let ok_then : IsOk c.install_step-2.result = subst IsOk (sym c.in_ok-install_step-2.was) refl in
    let super = ap (λ (k : Coming). k.next.super) (of_success c.install_step.result ok c.install_step.ensures.done) in
    let super_then = ap (λ (k : Coming). k.next.super) (of_success c.install_step-2.result ok_then c.install_step-2.ensures.done) in
    takes_then g.D.Disk n y c.args.self.now c.install_step.new.self _ c.args.coming c.install_step.new.coming c.install_open.result super first.leaves
    (takes_then g.D.Disk n y c.install_step.new.self c.install_step-2.new.self _ c.install_step.new.coming c.install_step-2.new.coming c.install_open.result super_then second.leaves
    (c.install_open.ensures.takes n y (of_success c.install_step-2.result ok_then second.holds)))

pub install_step-requires-clause-runs : goal.install_step-requires-clause-runs
install_step-requires-clause-runs g c = search

pub install_step-requires-clause-beside : goal.install_step-requires-clause-beside
install_step-requires-clause-beside g c = search

pub install_step-requires-clause-due : goal.install_step-requires-clause-due
install_step-requires-clause-due g c = search rules

pub install_step-requires-clause-closed : goal.install_step-requires-clause-closed
install_step-requires-clause-closed g c = search rules

pub returns-in_err-install_step-clause-call : goal.returns-in_err-install_step-clause-call
returns-in_err-install_step-clause-call g c = search rules

pub returns-in_err-install_step-clause-refused : goal.returns-in_err-install_step-clause-refused
returns-in_err-install_step-clause-refused g c = search rules

pub returns-in_err-install_step-clause-taken : goal.returns-in_err-install_step-clause-taken
returns-in_err-install_step-clause-taken g c = search rules

pub install_step-requires-2-clause-runs : goal.install_step-requires-2-clause-runs
install_step-requires-2-clause-runs g c = search rules

pub install_step-requires-2-clause-beside : goal.install_step-requires-2-clause-beside
install_step-requires-2-clause-beside g c = search rules

pub install_step-requires-2-clause-due : goal.install_step-requires-2-clause-due
install_step-requires-2-clause-due g c = search rules

pub install_step-requires-2-clause-closed : goal.install_step-requires-2-clause-closed
install_step-requires-2-clause-closed g c = search rules

pub returns-in_err-install_step-2-clause-call : goal.returns-in_err-install_step-2-clause-call
returns-in_err-install_step-2-clause-call g c = search rules

pub returns-in_err-install_step-2-clause-refused : goal.returns-in_err-install_step-2-clause-refused
returns-in_err-install_step-2-clause-refused g c = search rules

pub returns-in_err-install_step-2-clause-taken : goal.returns-in_err-install_step-2-clause-taken
returns-in_err-install_step-2-clause-taken g c = search rules

pub install_open-requires-clause-runs : goal.install_open-requires-clause-runs
install_open-requires-clause-runs g c = search rules

pub install_open-requires-clause-beside : goal.install_open-requires-clause-beside
install_open-requires-clause-beside g c = search rules

pub install_open-requires-clause-filled : goal.install_open-requires-clause-filled
install_open-requires-clause-filled g c = search rules

pub returns-clause-call : goal.returns-clause-call
returns-clause-call g c = search rules

pub returns-clause-refused : goal.returns-clause-refused
returns-clause-refused g c = search rules

pub returns-clause-taken : goal.returns-clause-taken
returns-clause-taken g c = search rules
