use Rattle.std.proofs.Common.{◌≡◌, ℕ, ◌≤◌, true, false, None, Err, inl, inr, refl, sym, ap, subst, ◌∙◌, arith}
use Rattle.std.specs.Prelude.{is_some}
use Rattle.rep_types.specs.declared.refusal.Refusal.TheVariants.{DiskFault}
use Rattle.rep_types.proofs.Choices.{none_by_test}
use Rattle.rep_engine.specs.Engines.{durable_of}
use Rattle.rep_stations.specs.Judging.{Legal}
use Rattle.rep_node.specs.Homes.{Start, DeskAt, values_of}
use Rattle.rep_node.specs.Keeping.{AtDesk}
use Rattle.rep_node.specs.Reading.{RefusesAsked}
use Rattle.rep_node.proofs.Keeps.{desk_grown}
use Rattle.rep_node.proofs.Asks.{at_read, only_err, refusals_asked, rows_asked, this_err}
use Rattle.rep_node.proofs.node.Node.ask.Given.{Over}
use Rattle.rep_node.proofs.node.Node.ask.Goals as goal
use Rattle.rep_node.proofs.node.Node.ask.Goals.{After-look_up-row, After-is_stopped, After-leave_desk}

pub look_up-row-requires : goal.look_up-row-requires
look_up-row-requires g c = let seat = c.requires.seat in rw c.get_mut.ensures.value ((c.in_ok-desk.ensures.at.desk seat.start seat.first).works refl)

-- where it is once the engine was read
read_at : (g : Over) (c : After-look_up-row g) → AtDesk g.D.Disk 0 c.args.seat.now.view c.enter_desk.new.seat.view c.in_ok-desk.desk → (given : ℕ) → (given ≡ 0 → c.look_up-row.new.engine.halted ≡ None)
    → AtDesk g.D.Disk given c.args.seat.now.view c.enter_desk.new.seat.view (record { engine = c.look_up-row.new.engine; publisher = c.in_ok-desk.desk.publisher; waiting = c.in_ok-desk.desk.waiting })
read_at g c a given works = at_read g.D.Disk c.args.seat.now.view c.enter_desk.new.seat.view c.in_ok-desk.desk c.look_up-row.new.engine a (rw c.get_mut.ensures.value at c.look_up-row.ensures.still) (rw c.get_mut.ensures.value at c.look_up-row.ensures.taken) given works

-- ---- the device failed

pub give_desk_up-requires-clause-at : goal.give_desk_up-requires-clause-at
give_desk_up-requires-clause-at g c = (c.args.seat.now.view, read_at g (goal.at.give_desk_up-requires-clause-at g c).After-look_up-row c.in_ok-desk.ensures.at 1 (λ (z : 1 ≡ 0). absurd (omega arith)))

pub returns-then-is_stopped-clause-idle : goal.returns-then-is_stopped-clause-idle
returns-then-is_stopped-clause-idle g c = c.give_desk_up.ensures.idle c.args.seat.now.view (read_at g (goal.at.returns-then-is_stopped-clause-idle g c).After-look_up-row c.in_ok-desk.ensures.at 1 (λ (z : 1 ≡ 0). absurd (omega arith)))

pub returns-then-is_stopped-clause-asked : goal.returns-then-is_stopped-clause-asked
returns-then-is_stopped-clause-asked g c =
    inr (λ s is. record {
      desk = c.in_ok-desk.desk;
      here = desk_grown g.D.Disk s 0 c.enter_desk.new.seat.view.seen c.give_desk_up.new.seat.view.seen c.in_ok-desk.desk (c.in_ok-desk.ensures.at.desk s is) c.give_desk_up.ensures.seen;
      behind = c.look_up-row.new.engine;
      moves = (rw c.get_mut.ensures.value at c.look_up-row.ensures.moves);
    })

faulted : (g : Over) (c : After-is_stopped g) → c.is_stopped.result ≡ true → c.look_up-row.result ≡ Err DiskFault
faulted g c stopped = elim c.look_up-row.ensures.stops.1 [
  | inl fault ↦ fault
  | inr works ↦ absurd (let never : true ≡ false = sym stopped ∙ ((rw c.get.ensures at c.is_stopped.ensures) ∙ ap is_some works) in cc)
]

pub returns-then-is_stopped-clause-row : goal.returns-then-is_stopped-clause-row
returns-then-is_stopped-clause-row g c = only_err _ c.look_up-row.result DiskFault (faulted g (goal.at.returns-then-is_stopped-clause-row g c).After-is_stopped c.if-is_stopped.true)

pub returns-then-is_stopped-clause-refused : goal.returns-then-is_stopped-clause-refused
returns-then-is_stopped-clause-refused g c = this_err (RefusesAsked g.D.Disk c.args.seat.now.view c.give_desk_up.new.seat.view c.args.key c.args.at) c.look_up-row.result DiskFault (faulted g (goal.at.returns-then-is_stopped-clause-refused g c).After-is_stopped c.if-is_stopped.true) c.give_desk_up.ensures.halted

pub returns-then-is_stopped-clause-goes : goal.returns-then-is_stopped-clause-goes
returns-then-is_stopped-clause-goes g c = λ other. absurd (other (faulted g (goal.at.returns-then-is_stopped-clause-goes g c).After-is_stopped c.if-is_stopped.true))

pub returns-then-is_stopped-clause-runs : goal.returns-then-is_stopped-clause-runs
returns-then-is_stopped-clause-runs g c = λ other. absurd (other (faulted g (goal.at.returns-then-is_stopped-clause-runs g c).After-is_stopped c.if-is_stopped.true))

pub returns-then-is_stopped-clause-last : goal.returns-then-is_stopped-clause-last
returns-then-is_stopped-clause-last g c = λ all other. absurd (other (faulted g (goal.at.returns-then-is_stopped-clause-last g c).After-is_stopped c.if-is_stopped.true))

-- ---- the engine works

works : (g : Over) (c : After-is_stopped g) → c.is_stopped.result ≡ false → c.look_up-row.new.engine.halted ≡ None
works g c running = none_by_test c.look_up-row.new.engine.halted (sym (rw c.get.ensures at c.is_stopped.ensures) ∙ running)

pub leave_desk-requires-clause-at : goal.leave_desk-requires-clause-at
leave_desk-requires-clause-at g c = let at = goal.at.leave_desk-requires-clause-at g c in (c.args.seat.now.view, read_at g at.After-look_up-row c.in_ok-desk.ensures.at 0 (λ _. works g at.After-is_stopped c.if-is_stopped.false))

pub returns-clause-idle : goal.returns-clause-idle
returns-clause-idle g c = let at = goal.at.returns-clause-idle g c in c.leave_desk.ensures.idle c.args.seat.now.view (read_at g at.After-look_up-row c.in_ok-desk.ensures.at 0 (λ _. works g at.After-is_stopped c.if-is_stopped.false))

-- what lay there, as the seat sees it once it has left
here : (g : Over) (c : After-leave_desk g) → AtDesk g.D.Disk 0 c.args.seat.now.view c.enter_desk.new.seat.view c.in_ok-desk.desk → (s : Start g.row.D.Denot) → c.args.seat.now.view.first ≡ values_of s → DeskAt g.D.Disk s 0 c.leave_desk.new.seat.view.seen c.in_ok-desk.desk
here g c a s is = subst (λ items. DeskAt g.D.Disk s 0 items c.in_ok-desk.desk) (sym c.leave_desk.ensures.same.0) (a.desk s is)

legal : (g : Over) (c : After-leave_desk g) → AtDesk g.D.Disk 0 c.args.seat.now.view c.enter_desk.new.seat.view c.in_ok-desk.desk → (s : Start g.row.D.Denot) → c.args.seat.now.view.first ≡ values_of s → Legal s.certifier.current c.leave_desk.new.seat.view.seen
legal g c a s is = subst (λ items. Legal s.certifier.current items) (sym c.leave_desk.ensures.same.0) (a.at.sees.legal s is).legal

pub returns-clause-asked : goal.returns-clause-asked
returns-clause-asked g c = inr (λ s is. record { desk = c.in_ok-desk.desk; here = here g (goal.at.returns-clause-asked g c).After-leave_desk c.in_ok-desk.ensures.at s is; behind = c.look_up-row.new.engine; moves = (rw c.get_mut.ensures.value at c.look_up-row.ensures.moves) })

pub returns-clause-row : goal.returns-clause-row
returns-clause-row g c = let at = (goal.at.returns-clause-row g c).After-leave_desk in
    rows_asked g.D.Disk c.args.seat.now.view c.leave_desk.new.seat.view c.in_ok-desk.desk (here g at c.in_ok-desk.ensures.at) (legal g at c.in_ok-desk.ensures.at) c.args.key c.args.at c.histories_go_on.ensures c.look_up-row.result (rw c.get_mut.ensures.value at c.look_up-row.ensures.row)

pub returns-clause-refused : goal.returns-clause-refused
returns-clause-refused g c =
    let at = goal.at.returns-clause-refused g c in
    let seat = c.requires.seat in
    let known : c.leave_desk.new.seat.view.durable ≤ durable_of c.in_ok-desk.desk.engine.log = let k = c.in_ok-desk.ensures.known in let left = c.leave_desk.ensures.same.1 in omega (arith, k, left) in
    refusals_asked g.D.Disk c.args.seat.now.view c.leave_desk.new.seat.view c.in_ok-desk.desk (here g at.After-leave_desk c.in_ok-desk.ensures.at) (legal g at.After-leave_desk c.in_ok-desk.ensures.at) c.args.key c.args.at seat.start seat.first (c.requires.inside seat.start seat.first) known c.look_up-row.result
    (λ fault. absurd (let never : false ≡ true = sym (ap is_some (works g at.After-is_stopped c.if-is_stopped.false)) ∙ c.look_up-row.ensures.stops.0 fault in cc)) (rw c.get_mut.ensures.value at c.look_up-row.ensures.refused)
