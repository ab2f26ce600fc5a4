use Rattle.rep_steps.specs.declared.event.Event.TheVariants.{Check}
use Rattle.rep_engine.specs.Checking.{checked}
use Rattle.rep_node.proofs.Stepping.{base_rises}
use Rattle.std.proofs.Common.{rules, ◌≡◌, ℕ, Option, Result, Err, subst}
use Rattle.rep_types.specs.declared.refusal.Refusal.{Refusal}
use Rattle.rep_types.specs.declared.refusal.Refusal.TheVariants.{NotDue}
use Rattle.rep_steps.specs.Moves.{Moves}
use Rattle.rep_engine.specs.Engines.{facts_of}
use Rattle.rep_node.proofs.Checks.{check_taken, check_window, check_works, none_due}
use Rattle.rep_node.proofs.checking.begin.Goals as goal

pub check-requires : goal.check-requires
check-requires g c = let lent = c.requires.lent in record { window = λ _. check_window g.D.Disk c.taken_items_stay.ensures c.args.engine.now c.args.certifier.now.current lent.0 lent.1 lent.2 lent.3 }

pub returns-in_err-check-in-Begin-clause-taken : goal.returns-in_err-check-in-Begin-clause-taken
returns-in_err-check-in-Begin-clause-taken g c = check_taken g.D.Disk c.taken_items_stay.ensures c.args.engine.now c.check.new.self c.check.result c.args.certifier.now.current c.durable-position.ensures.engine c.check.ensures.moves (λ n holds window. c.check.ensures.steps n holds (λ off. window))

pub returns-in_ok-check-in-Begin-clause-taken : goal.returns-in_ok-check-in-Begin-clause-taken
returns-in_ok-check-in-Begin-clause-taken g c = check_taken g.D.Disk c.taken_items_stay.ensures c.args.engine.now c.check.new.self c.check.result c.args.certifier.now.current c.durable-position.ensures.engine c.check.ensures.moves (λ n holds window. c.check.ensures.steps n holds (λ off. window))

pub returns-in_ok-check-in-Begin-clause-works : goal.returns-in_ok-check-in-Begin-clause-works
returns-in_ok-check-in-Begin-clause-works g c = check_works g.D.Disk c.args.engine.now c.check.new.self c.check.result c.in_ok-check-in-Begin.field-0 c.in_ok-check-in-Begin.was c.durable-position.ensures.engine c.check.ensures.moves

pub returns-in_err-check-in-Begin-clause-base : goal.returns-in_err-check-in-Begin-clause-base
returns-in_err-check-in-Begin-clause-base g c = base_rises g.D.Disk c.args.engine.now c.check.new.self Check (checked c.check.result) tt c.durable-position.ensures.engine c.check.ensures.moves

pub returns-in_ok-check-in-Begin-clause-base : goal.returns-in_ok-check-in-Begin-clause-base
returns-in_ok-check-in-Begin-clause-base g c = base_rises g.D.Disk c.args.engine.now c.check.new.self Check (checked c.check.result) tt c.durable-position.ensures.engine c.check.ensures.moves

pub returns-in_err-check-in-Begin-clause-due : goal.returns-in_err-check-in-Begin-clause-due
returns-in_err-check-in-Begin-clause-due g c = λ told. let was : c.check.result ≡ Err NotDue = search rules in
    none_due g.D.Disk c.args.engine.now c.check.new.self (subst (λ (r : Result (Option ℕ) Refusal). Moves (facts_of g.D.Disk c.args.engine.now) Check (checked r) (facts_of g.D.Disk c.check.new.self)) was c.check.ensures.moves)
