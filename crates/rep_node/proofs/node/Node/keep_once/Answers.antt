use Rattle.std.proofs.Common.{◌≡◌, ◌-◌, take, sym, ap, subst, ◌∙◌, arith}
use Rattle.rep_types.specs.declared.judged.Judged.{Judged}
use Rattle.rep_types.specs.declared.refusal.Refusal.{Refusal}
use Rattle.rep_types.specs.declared.refusal.Refusal.TheVariants.{LogFull}
use Rattle.rep_snap.specs.Lists.{published}
use Rattle.rep_snap.specs.Views.{Telling}
use Rattle.rep_ordered.specs.declared.view.View.{View}
use Rattle.rep_ordered.specs.Views.{StartsWith}
use Rattle.rep_node.specs.declared.home.Home.{Home}
use Rattle.rep_node.specs.declared.home.Desk.{Desk}
use Rattle.rep_node.specs.Homes.{Start, DeskAt, position_of, values_of}
use Rattle.rep_node.specs.Publishing.{shown}
use Rattle.rep_node.specs.Keeping.{AtDesk, AtWork, HasWorked, IsFull}
use Rattle.rep_node.proofs.AtEngine.{idle_later}
use Rattle.rep_node.proofs.Keeps.{is_least, list_is, told_err, told_ok}
use Rattle.rep_node.proofs.Desks.{desk_work}
use Rattle.rep_node.proofs.node.Node.keep_once.Given.{Over}
use Rattle.rep_node.proofs.node.Node.keep_once.Goals as goal
use Rattle.rep_node.proofs.node.Node.keep_once.Goals.{In-Err-LogFull}

pub work_on-desk-requires-clause-at : goal.work_on-desk-requires-clause-at
work_on-desk-requires-clause-at g c = (c.args.seat.now.view, c.requires.seat, c.in_ok-desk.ensures.at)

pub leave_desk-requires-clause-at : goal.leave_desk-requires-clause-at
leave_desk-requires-clause-at g c = let v = c.args.seat.now.view in let worked = c.work_on-desk.ensures.at v c.requires.seat c.in_ok-desk.ensures.at in
    (v, told_ok (AtDesk g.D.Disk 0 v c.work_on-desk.new.seat.view c.work_on-desk.result.0) c.work_on-desk.result.1 c.in-Ok.field-0 c.in-Ok.is worked.works)

pub tell_durable-requires-clause-saw : goal.tell_durable-requires-clause-saw
tell_durable-requires-clause-saw g c =
    let durable = (rw c.get-2.ensures at c.durable-durable.ensures.durable) in
    let backed = c.leave_desk.ensures.backed in
    let limit = (rw c.get-2.ensures at c.durable-durable.ensures.engine).limit in
    (omega (arith, durable, backed), omega (arith, durable, limit))

pub returns-in_err-tell_durable-in-Ok-clause-idle : goal.returns-in_err-tell_durable-in-Ok-clause-idle
returns-in_err-tell_durable-in-Ok-clause-idle g c = let v = c.args.seat.now.view in let worked = c.work_on-desk.ensures.at v c.requires.seat c.in_ok-desk.ensures.at in
    let at = told_ok (AtDesk g.D.Disk 0 v c.work_on-desk.new.seat.view c.work_on-desk.result.0) c.work_on-desk.result.1 c.in-Ok.field-0 c.in-Ok.is worked.works in
    idle_later v c.leave_desk.new.seat.view c.tell_durable.new.seat.view (c.leave_desk.ensures.idle v at) c.tell_durable.ensures.later c.tell_durable.ensures.sees

pub returns-in-Ok-clause-idle : goal.returns-in-Ok-clause-idle
returns-in-Ok-clause-idle g c = let v = c.args.seat.now.view in let worked = c.work_on-desk.ensures.at v c.requires.seat c.in_ok-desk.ensures.at in
    let at = told_ok (AtDesk g.D.Disk 0 v c.work_on-desk.new.seat.view c.work_on-desk.result.0) c.work_on-desk.result.1 c.in-Ok.field-0 c.in-Ok.is worked.works in
    idle_later v c.leave_desk.new.seat.view c.tell_durable.new.seat.view (c.leave_desk.ensures.idle v at) c.tell_durable.ensures.later c.tell_durable.ensures.sees

pub returns-in-Ok-clause-kept : goal.returns-in-Ok-clause-kept
returns-in-Ok-clause-kept g c =
    let v : View (Home g.row.D.Denot) Judged = c.args.seat.now.view in
    let u : View (Home g.row.D.Denot) Judged = c.work_on-desk.new.seat.view in
    let t : View (Home g.row.D.Denot) Judged = c.tell_durable.new.seat.view in
    let d : Desk g.row.D.Denot = c.work_on-desk.result.0 in
    let worked = c.work_on-desk.ensures.at v c.requires.seat c.in_ok-desk.ensures.at in
    let at : AtDesk g.D.Disk 0 v u d = told_ok (AtDesk g.D.Disk 0 v u d) c.work_on-desk.result.1 c.in-Ok.field-0 c.in-Ok.is worked.works in
    let more : StartsWith t.seen u.seen = subst (λ l. StartsWith t.seen l) c.leave_desk.ensures.same.0 c.tell_durable.ensures.later.seen in
    let work : (s : Start g.row.D.Denot) → v.first ≡ values_of s → AtWork g.D.Disk s u.seen d = desk_work g.D.Disk v u d c.requires.seat at in
    let durable = (rw c.get-2.ensures at c.durable-durable.ensures.durable) in
    record {
      durable = c.in_ok-tell_durable-in-Ok.ensures.durable;
      told = λ s is. ap (λ (z : Telling). z.book) c.tell-told.ensures ∙ (work s is).desk.publisher.0;
      least = λ s is. let least = is_least g.D.Disk s u.seen t.seen d (work s is) more in omega (arith, least, durable);
      list = λ s is. ap (λ (z : Telling). published z.list) c.tell-told.ensures
          ∙ (list_is g.D.Disk s u.seen t.seen d (work s is) more ∙ ap (λ n. shown (take (n - position_of s) t.seen)) (sym durable));
    }

-- ---- the log is full

-- what the round left, where it says so
full : (g : Over) (c : In-Err-LogFull g) → HasWorked g.D.Disk c.args.seat.now.view c.work_on-desk.new.seat.view c.work_on-desk.result.0 c.work_on-desk.result.1 → AtDesk g.D.Disk 0 c.args.seat.now.view c.work_on-desk.new.seat.view c.work_on-desk.result.0 × IsFull g.D.Disk c.work_on-desk.result.0.engine
full g c worked = let told = rw c.in-Err-LogFull.is at c.in-Err-LogFull.field-0-is in
    told_err (λ (r : Refusal). r ≡ LogFull → AtDesk g.D.Disk 0 c.args.seat.now.view c.work_on-desk.new.seat.view c.work_on-desk.result.0 × IsFull g.D.Disk c.work_on-desk.result.0.engine) c.work_on-desk.result.1 c.in-Err-LogFull.field-0 c.in-Err-LogFull.is worked.full told

pub leave_desk-requires-in-Err-LogFull-clause-at : goal.leave_desk-requires-in-Err-LogFull-clause-at
leave_desk-requires-in-Err-LogFull-clause-at g c = let v = c.args.seat.now.view in (v, (full g (goal.at.leave_desk-requires-in-Err-LogFull-clause-at g c).In-Err-LogFull (c.work_on-desk.ensures.at v c.requires.seat c.in_ok-desk.ensures.at)).0)

pub returns-in-Err-LogFull-clause-idle : goal.returns-in-Err-LogFull-clause-idle
returns-in-Err-LogFull-clause-idle g c = let v = c.args.seat.now.view in c.leave_desk-in-Err-LogFull.ensures.idle v (full g (goal.at.returns-in-Err-LogFull-clause-idle g c).In-Err-LogFull (c.work_on-desk.ensures.at v c.requires.seat c.in_ok-desk.ensures.at)).0

pub returns-in-Err-LogFull-clause-full : goal.returns-in-Err-LogFull-clause-full
returns-in-Err-LogFull-clause-full g c = let v = c.args.seat.now.view in
    let f = full g (goal.at.returns-in-Err-LogFull-clause-full g c).In-Err-LogFull (c.work_on-desk.ensures.at v c.requires.seat c.in_ok-desk.ensures.at) in
    λ told s is. record { desk = c.work_on-desk.result.0; here = subst (λ l. DeskAt g.D.Disk s 0 l c.work_on-desk.result.0) (sym c.leave_desk-in-Err-LogFull.ensures.same.0) (f.0.desk s is); full = f.1 }

-- ---- it failed

pub give_desk_up-requires-clause-at : goal.give_desk_up-requires-clause-at
give_desk_up-requires-clause-at g c = let v = c.args.seat.now.view in (v, (c.work_on-desk.ensures.at v c.requires.seat c.in_ok-desk.ensures.at).given)

pub returns-clause-idle : goal.returns-clause-idle
returns-clause-idle g c = let v = c.args.seat.now.view in c.give_desk_up.ensures.idle v (c.work_on-desk.ensures.at v c.requires.seat c.in_ok-desk.ensures.at).given

-- ---- it goes on

pub returns-in-Ok-clause-goes : goal.returns-in-Ok-clause-goes
returns-in-Ok-clause-goes g c = λ not. let v = c.args.seat.now.view in let worked = c.work_on-desk.ensures.at v c.requires.seat c.in_ok-desk.ensures.at in
    let at = told_ok (AtDesk g.D.Disk 0 v c.work_on-desk.new.seat.view c.work_on-desk.result.0) c.work_on-desk.result.1 c.in-Ok.field-0 c.in-Ok.is worked.works in
    (c.in_ok-tell_durable-in-Ok.ensures.runs, ap (λ (z : View (Home g.row.D.Denot) Judged). z.given_up) c.tell_durable.ensures.later.same ∙ (c.leave_desk.ensures.runs.1 ∙ at.at.kept))

pub returns-in-Err-LogFull-clause-goes : goal.returns-in-Err-LogFull-clause-goes
returns-in-Err-LogFull-clause-goes g c = λ not. let v = c.args.seat.now.view in
    let f = full g (goal.at.returns-in-Err-LogFull-clause-goes g c).In-Err-LogFull (c.work_on-desk.ensures.at v c.requires.seat c.in_ok-desk.ensures.at) in
    let told = rw c.in-Err-LogFull.is at c.in-Err-LogFull.field-0-is in
    let still = told_err (λ (r : Refusal). r ≡ LogFull → c.work_on-desk.new.seat.view.halted ≡ c.enter_desk.new.seat.view.halted) c.work_on-desk.result.1 c.in-Err-LogFull.field-0 c.in-Err-LogFull.is c.work_on-desk.ensures.stays told in
    (c.leave_desk-in-Err-LogFull.ensures.runs.0 ∙ (still ∙ c.in_ok-desk.ensures.runs.0), c.leave_desk-in-Err-LogFull.ensures.runs.1 ∙ f.0.at.kept)
