use Rattle.std.proofs.Common.{◌≡◌, ℕ, None, Err, refl, sym, ap, ◌∙◌, subst, arith}
use Rattle.rep_types.specs.declared.refusal.Refusal.{Refusal}
use Rattle.rep_types.specs.declared.refusal.Refusal.TheVariants.{NotDue}
use Rattle.rep_engine.specs.Engines.{Engine, durable_of}
use Rattle.rep_node.specs.declared.home.Desk.{Desk}
use Rattle.rep_node.specs.Homes.{DeskAt}
use Rattle.rep_node.specs.Checking.{HasNoneDue}
use Rattle.rep_node.specs.Keeping.{AtDesk}
use Rattle.rep_node.proofs.Keeps.{told_err, told_ok, told_ok_so}
use Rattle.rep_types.specs.declared.judged.Judged.{Judged}
use Rattle.rep_ordered.specs.declared.view.View.{View}
use Rattle.rep_ordered.specs.Seats.{Place}
use Rattle.rep_ordered.specs.Views.{turn_of, without}
use Rattle.rep_node.specs.declared.home.Home.{Home}
use Rattle.rep_node.proofs.Standing.{desk_found}
use Rattle.rep_node.proofs.Lending.{at_desk, certifier_back, certifier_still, durable_known, left_again, may_lend}
use Rattle.rep_node.proofs.node.Node.begin_checkpoint.Given.{Over}
use Rattle.rep_node.proofs.node.Node.begin_checkpoint.Goals as goal
use Rattle.rep_node.proofs.node.Node.begin_checkpoint.Goals.{After-side_leave-2, In-Ok-done, In-Err-NotDue}

pub side_leave-requires-clause-value : goal.side_leave-requires-clause-value
side_leave-requires-clause-value g c = (refl, certifier_still g.D.Disk c.args.seat.now.view c.side_enter.new.seat.view c.in_ok-side_enter.ensures.entered.0 c.in_ok-side_enter.field-0 c.certifier_of-certifier.result c.requires.seat c.requires.free c.in_ok-side_enter.ensures.entered.1 c.certifier_of-certifier.ensures c.side_enter-2.new.seat.view c.in-Err.ensures.stopped.1)

pub returns-in-Err-clause-idle : goal.returns-in-Err-clause-idle
returns-in-Err-clause-idle g c = let t : View (Home g.row.D.Denot) Judged = c.side_leave.new.seat.view in let l : View (Home g.row.D.Denot) Judged = c.side_enter-2.new.seat.view in let left : t ≡ without None 0 (turn_of 0 l) 0 0 l = ap (λ (z : Place (Home g.row.D.Denot) Judged). z.view) c.side_leave.ensures.seat in
    left_again g.D.Disk c.args.seat.now.view c.side_enter.new.seat.view c.in_ok-side_enter.ensures.entered.0 c.in_ok-side_enter.field-0 c.certifier_of-certifier.result c.requires.seat c.requires.free c.in_ok-side_enter.ensures.entered.1 c.certifier_of-certifier.ensures l c.in-Err.ensures.stopped.1 c.in-Err.ensures.stopped.2 t (turn_of 0 l) 0 0 left

pub desk_of-desk-requires : goal.desk_of-desk-requires
desk_of-desk-requires g c = let e = c.in-Ok.ensures.entered in desk_found g.D.Disk c.side_enter.new.seat.view.first e.0 0 c.side_enter-2.new.seat.view.durable c.side_enter-2.new.seat.view.seen c.in-Ok.home e.1.keeps

pub begin-done-requires : goal.begin-done-requires
begin-done-requires g c = let s = c.requires.seat in record { lent = rw c.get_mut.ensures.value ((s.start, _, _, may_lend g.D.Disk c.args.seat.now.view c.side_enter.new.seat.view c.in_ok-side_enter.ensures.entered.0 c.in_ok-side_enter.field-0 c.certifier_of-certifier.result c.requires.seat c.requires.free c.in_ok-side_enter.ensures.entered.1 c.certifier_of-certifier.ensures c.side_enter-2.new.seat.view c.in-Ok.ensures.entered.0 c.in-Ok.home c.desk_of-desk.result c.in-Ok.ensures.entered.1 c.desk_of-desk.ensures s.start s.first)) }

pub side_leave-requires-2-clause-value : goal.side_leave-requires-2-clause-value
side_leave-requires-2-clause-value g c = (refl, certifier_back g.D.Disk c.args.seat.now.view c.side_enter.new.seat.view c.in_ok-side_enter.ensures.entered.0 c.in_ok-side_enter.field-0 c.certifier_of-certifier.result c.requires.seat c.requires.free c.in_ok-side_enter.ensures.entered.1 c.certifier_of-certifier.ensures c.side_enter-2.new.seat.view c.in-Ok.ensures.entered.0 c.in-Ok.home c.desk_of-desk.result c.in-Ok.ensures.entered.1 c.desk_of-desk.ensures)

-- ---- the certifier was left

-- what lies at the desk, to be given up or to go on
abbrev Lies : (g : Over) → After-side_leave-2 g → ℕ → Type 0
Lies g c given = AtDesk g.D.Disk given c.args.seat.now.view c.side_leave-2.new.seat.view (record (c.desk_of-desk.result) { engine = c.begin-done.new.engine })

lies : (g : Over) (c : After-side_leave-2 g) (given : ℕ) → (given ≡ 0 → c.desk_of-desk.result.engine.halted ≡ None → c.begin-done.new.engine.halted ≡ None) → Lies g c given
lies g c given on = at_desk g.D.Disk c.args.seat.now.view c.side_enter.new.seat.view c.in_ok-side_enter.ensures.entered.0 c.in_ok-side_enter.field-0 c.certifier_of-certifier.result c.requires.seat c.requires.free c.in_ok-side_enter.ensures.entered.1 c.certifier_of-certifier.ensures c.side_enter-2.new.seat.view c.in-Ok.ensures.entered.0 c.in-Ok.home c.desk_of-desk.result c.in-Ok.ensures.entered.1 c.desk_of-desk.ensures
    c.side_leave-2.new.seat.view (turn_of 0 c.side_enter-2.new.seat.view) 0 0 (ap (λ (z : Place (Home g.row.D.Denot) Judged). z.view) c.side_leave-2.ensures.seat) c.begin-done.new.engine (rw c.get_mut.ensures.value at c.begin-done.ensures.taken) (rw c.get_mut.ensures.value at c.begin-done.ensures.still.0) (rw c.get_mut.ensures.value at c.begin-done.ensures.base) given on

-- ---- it was done

began : (g : Over) (c : In-Ok-done g) → c.desk_of-desk.result.engine.halted ≡ None → c.begin-done.new.engine.halted ≡ None
began g c old = told_ok (c.begin-done.new.engine.halted ≡ None) c.begin-done.result c.in-Ok-done.position c.in-Ok-done.is ((rw c.get_mut.ensures.value at c.begin-done.ensures.works) old)

pub leave_desk-requires-clause-at : goal.leave_desk-requires-clause-at
leave_desk-requires-clause-at g c = let at = goal.at.leave_desk-requires-clause-at g c in (c.args.seat.now.view, lies g at.After-side_leave-2 0 (λ _. began g at.In-Ok-done))

pub returns-in-Ok-done-clause-idle : goal.returns-in-Ok-done-clause-idle
returns-in-Ok-done-clause-idle g c = let at = goal.at.returns-in-Ok-done-clause-idle g c in c.leave_desk.ensures.idle c.args.seat.now.view (lies g at.After-side_leave-2 0 (λ _. began g at.In-Ok-done))

pub returns-in-Ok-done-clause-position : goal.returns-in-Ok-done-clause-position
returns-in-Ok-done-clause-position g c = let known = durable_known g.D.Disk c.args.seat.now.view c.side_enter.new.seat.view c.in_ok-side_enter.ensures.entered.0 c.in_ok-side_enter.field-0 c.certifier_of-certifier.result c.requires.seat c.requires.free c.in_ok-side_enter.ensures.entered.1 c.certifier_of-certifier.ensures c.side_enter-2.new.seat.view c.in-Ok.ensures.entered.0 c.in-Ok.home c.desk_of-desk.result c.in-Ok.ensures.entered.1 c.desk_of-desk.ensures in
    let is = told_ok_so (λ (position : ℕ). position ≡ durable_of c.desk_of-desk.result.engine.log) c.begin-done.result c.in-Ok-done.position c.in-Ok-done.is (rw c.get_mut.ensures.value at c.begin-done.ensures.position) in omega (arith, known, is)

-- ---- it was not due

was : (g : Over) (c : In-Err-NotDue g) → c.begin-done.result ≡ Err NotDue
was g c = c.in-Err-NotDue.is ∙ ap (λ (r : Refusal). Err r) (rw c.in-Err-NotDue.is at c.in-Err-NotDue.field-0-is)

same : (g : Over) (c : In-Err-NotDue g) → c.begin-done.new.engine ≡ c.desk_of-desk.result.engine
same g c = told_err (λ (r : Refusal). r ≡ NotDue → c.begin-done.new.engine ≡ c.desk_of-desk.result.engine) c.begin-done.result NotDue (was g c) (rw c.get_mut.ensures.value at c.begin-done.ensures.unchanged) refl

stays : (g : Over) (c : In-Err-NotDue g) → c.desk_of-desk.result.engine.halted ≡ None → c.begin-done.new.engine.halted ≡ None
stays g c old = ap (λ (e : Engine g.row.D.Denot). e.halted) (same g c) ∙ old

pub leave_desk-requires-in-Err-NotDue-clause-at : goal.leave_desk-requires-in-Err-NotDue-clause-at
leave_desk-requires-in-Err-NotDue-clause-at g c = let at = goal.at.leave_desk-requires-in-Err-NotDue-clause-at g c in (c.args.seat.now.view, lies g at.After-side_leave-2 0 (λ _. stays g at.In-Err-NotDue))

pub returns-in-Err-NotDue-clause-idle : goal.returns-in-Err-NotDue-clause-idle
returns-in-Err-NotDue-clause-idle g c = let at = goal.at.returns-in-Err-NotDue-clause-idle g c in c.leave_desk-in-Err-NotDue.ensures.idle c.args.seat.now.view (lies g at.After-side_leave-2 0 (λ _. stays g at.In-Err-NotDue))

pub returns-in-Err-NotDue-clause-due : goal.returns-in-Err-NotDue-clause-due
returns-in-Err-NotDue-clause-due g c =
    let at = goal.at.returns-in-Err-NotDue-clause-due g c in
    let none = at.In-Err-NotDue in
    let d : Desk g.row.D.Denot = record (c.desk_of-desk.result) { engine = c.begin-done.new.engine } in
    λ told s is. record {
      desk = d;
      here = subst (λ l. DeskAt g.D.Disk s 0 l d) (sym c.leave_desk-in-Err-NotDue.ensures.same.0) ((lies g at.After-side_leave-2 0 (λ _. stays g none)).desk s is);
      none = subst (λ (e : Engine g.row.D.Denot). HasNoneDue e) (sym (same g none)) ((rw c.get_mut.ensures.value at c.begin-done.ensures.due) (was g none));
    }

-- ---- it failed

pub give_desk_up-requires-clause-at : goal.give_desk_up-requires-clause-at
give_desk_up-requires-clause-at g c = (c.args.seat.now.view, lies g (goal.at.give_desk_up-requires-clause-at g c).After-side_leave-2 1 (λ z. absurd (omega arith)))

pub returns-in-Err-done-clause-idle : goal.returns-in-Err-done-clause-idle
returns-in-Err-done-clause-idle g c = c.give_desk_up.ensures.idle c.args.seat.now.view (lies g (goal.at.returns-in-Err-done-clause-idle g c).After-side_leave-2 1 (λ z. absurd (omega arith)))
