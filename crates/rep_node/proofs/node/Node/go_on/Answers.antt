use Rattle.std.proofs.Common.{◌≡◌, ◌≤◌, Option, subst, arith}
use Rattle.rep_types.specs.declared.judged.Judged.{Judged}
use Rattle.rep_checkpoint.specs.Standing.{due_in}
use Rattle.rep_engine.specs.Engines.{durable_of}
use Rattle.rep_ordered.specs.declared.view.View.{View}
use Rattle.rep_ordered.specs.Views.{StartsWith}
use Rattle.rep_node.specs.declared.home.Home.{Home}
use Rattle.rep_node.specs.declared.home.Desk.{Desk}
use Rattle.rep_node.specs.declared.checking.Checked.{Checked}
use Rattle.rep_node.specs.Checking.{IsPruned, said_of}
use Rattle.rep_node.specs.Homes.{Start, values_of}
use Rattle.rep_node.specs.Keeping.{AtDesk, AtWork}
use Rattle.rep_node.proofs.AtEngine.{idle_later}
use Rattle.rep_node.proofs.Checks.{ends_said}
use Rattle.rep_node.proofs.Desks.{desk_moved, desk_work}
use Rattle.rep_node.proofs.Keeps.{told_ok, told_ok_so}
use Rattle.rep_node.proofs.node.Node.go_on.Given.{Over}
use Rattle.rep_node.proofs.node.Node.go_on.Goals as goal
use Rattle.rep_node.proofs.node.Node.go_on.Goals.{After-step_on-desk, In-Ok}

-- what it finds
pub step_on-desk-requires : goal.step_on-desk-requires
step_on-desk-requires g c = let seat = c.requires.seat in record { work = (seat.start, c.enter_desk.new.seat.view.seen, desk_work g.D.Disk c.args.seat.now.view c.enter_desk.new.seat.view c.in_ok-desk.desk seat c.in_ok-desk.ensures.at seat.start seat.first) }

-- what is left of it, where it failed
failed : (g : Over) (c : After-step_on-desk g) → AtDesk g.D.Disk 1 c.args.seat.now.view c.enter_desk.new.seat.view c.step_on-desk.result.0
failed g c = let e = c.step_on-desk.ensures in desk_moved g.D.Disk 0 c.args.seat.now.view c.enter_desk.new.seat.view c.in_ok-desk.desk c.in_ok-desk.ensures.at 1 c.step_on-desk.result.0 e.rises e.common (λ s is. e.given s c.enter_desk.new.seat.view.seen (desk_work g.D.Disk c.args.seat.now.view c.enter_desk.new.seat.view c.in_ok-desk.desk c.requires.seat c.in_ok-desk.ensures.at s is))

pub give_desk_up-requires-clause-at : goal.give_desk_up-requires-clause-at
give_desk_up-requires-clause-at g c = (c.args.seat.now.view, failed g (goal.at.give_desk_up-requires-clause-at g c).After-step_on-desk)

pub returns-in-Err-clause-idle : goal.returns-in-Err-clause-idle
returns-in-Err-clause-idle g c = c.give_desk_up.ensures.idle c.args.seat.now.view (failed g (goal.at.returns-in-Err-clause-idle g c).After-step_on-desk)

-- what lies there where it was done
works : (g : Over) (c : In-Ok g) (s : Start g.row.D.Denot) → c.args.seat.now.view.first ≡ values_of s → AtWork g.D.Disk s c.enter_desk.new.seat.view.seen c.step_on-desk.result.0
works g c s is = told_ok (AtWork g.D.Disk s c.enter_desk.new.seat.view.seen c.step_on-desk.result.0) c.step_on-desk.result.1 c.in-Ok.ended c.in-Ok.is (c.step_on-desk.ensures.works s c.enter_desk.new.seat.view.seen (desk_work g.D.Disk c.args.seat.now.view c.enter_desk.new.seat.view c.in_ok-desk.desk c.requires.seat c.in_ok-desk.ensures.at s is))

left : (g : Over) (c : In-Ok g) → AtDesk g.D.Disk 0 c.args.seat.now.view c.enter_desk.new.seat.view c.step_on-desk.result.0
left g c = let e = c.step_on-desk.ensures in desk_moved g.D.Disk 0 c.args.seat.now.view c.enter_desk.new.seat.view c.in_ok-desk.desk c.in_ok-desk.ensures.at 0 c.step_on-desk.result.0 e.rises e.common (λ s is. (works g c s is).desk)

pub leave_desk-requires-clause-at : goal.leave_desk-requires-clause-at
leave_desk-requires-clause-at g c = (c.args.seat.now.view, left g (goal.at.leave_desk-requires-clause-at g c).In-Ok)

pub tell_durable-requires-clause-saw : goal.tell_durable-requires-clause-saw
tell_durable-requires-clause-saw g c =
    let durable = (rw c.get.ensures at c.durable-durable.ensures.durable) in
    let backed = c.leave_desk.ensures.backed in
    let limit = (rw c.get.ensures at c.durable-durable.ensures.engine).limit in
    (omega (arith, durable, backed), omega (arith, durable, limit))

pub returns-in_err-tell_durable-clause-idle : goal.returns-in_err-tell_durable-clause-idle
returns-in_err-tell_durable-clause-idle g c = let v : View (Home g.row.D.Denot) Judged = c.args.seat.now.view in
    idle_later v c.leave_desk.new.seat.view c.tell_durable.new.seat.view (c.leave_desk.ensures.idle v (left g (goal.at.returns-in_err-tell_durable-clause-idle g c).In-Ok)) c.tell_durable.ensures.later c.tell_durable.ensures.sees

pub returns-clause-idle : goal.returns-clause-idle
returns-clause-idle g c = let v : View (Home g.row.D.Denot) Judged = c.args.seat.now.view in
    idle_later v c.leave_desk.new.seat.view c.tell_durable.new.seat.view (c.leave_desk.ensures.idle v (left g (goal.at.returns-clause-idle g c).In-Ok)) c.tell_durable.ensures.later c.tell_durable.ensures.sees

pub returns-clause-ended : goal.returns-clause-ended
returns-clause-ended g c =
    let at = (goal.at.returns-clause-ended g c).In-Ok in
    let e = c.step_on-desk.ensures in
    let w : View (Home g.row.D.Denot) Judged = c.enter_desk.new.seat.view in
    let t : View (Home g.row.D.Denot) Judged = c.tell_durable.new.seat.view in
    let d : Desk g.row.D.Denot = c.step_on-desk.result.0 in
    let due = due_in c.in_ok-desk.desk.engine.checkpoint.stage in
    let more : StartsWith t.seen w.seen = subst (λ l. StartsWith t.seen l) c.leave_desk.ensures.same.0 c.tell_durable.ensures.later.seen in
    let known : durable_of d.engine.log ≤ t.durable = let durable = (rw c.get.ensures at c.durable-durable.ensures.durable) in let told = c.in_ok-tell_durable.ensures.durable in omega (arith, durable, told) in
    ends_said g.D.Disk c.args.seat.now.view.first w t d due c.in-Ok.ended (told_ok_so (λ (o : Option Checked). o ≡ said_of due d) c.step_on-desk.result.1 c.in-Ok.ended c.in-Ok.is e.says) (works g at)
    (λ begins s is. told_ok (IsPruned s d) c.step_on-desk.result.1 c.in-Ok.ended c.in-Ok.is (e.pruned begins s w.seen (desk_work g.D.Disk c.args.seat.now.view c.enter_desk.new.seat.view c.in_ok-desk.desk c.requires.seat c.in_ok-desk.ensures.at s is))) more (rw c.get.ensures at c.durable-durable.ensures.engine) known
