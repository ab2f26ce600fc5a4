-- What a checkpoint's step leaves of the engine, and what a seat says behind the last one.
use Rattle.std.proofs.Common.{◌≡◌, ◌≢◌, ℕ, ◌-◌, ◌≤◌, Bool, true, false, nat_le, if◌then◌else◌, ap, Option, None, Some, Result, Ok, Err, List, refl, sym, ◌∙◌, subst, arith}
use Rattle.std.specs.Prelude.{is_some, IfSome, OnOk}
use Rattle.std.proofs.lemmas.Bool.{leb-true}
use Rattle.rep_types.specs.declared.refusal.Part.TheVariants.{Pages}
use Rattle.rep_types.specs.declared.refusal.Refusal.TheVariants.{Corrupt, DiskFault, NotDue, OutOfMemory, Stopped}
use Rattle.rep_steps.specs.declared.event.Event.{Event}
use Rattle.rep_steps.specs.declared.answer.Answer.TheVariants.{Refused, Wrote}
use Rattle.rep_steps.specs.Standings.{Standing, Stage, Off, Toward, Retiring, check_refusal, refusal}
use Rattle.rep_checkpoint.specs.declared.stage.Step.{Step}
use Rattle.rep_checkpoint.specs.declared.stage.Step.TheVariants.{Begin, Flush, Next, Sync}
use Rattle.rep_checkpoint.specs.declared.stage.Stage.TheVariants.{Off as is_off}
use Rattle.rep_checkpoint.specs.Standing.{due_in, stage_in}
use Rattle.rep_types.specs.declared.judged.Judged.{Judged}
use Rattle.rep_types.specs.declared.refusal.Refusal.{Refusal}
use Rattle.rep_disk.specs.declared.disk.Disk.{Ghosts}
use Rattle.rep_cert.specs.Holdings.{Holding, window_of}
use Rattle.rep_steps.specs.declared.event.Event.TheVariants.{Check}
use Rattle.rep_steps.specs.Moves.{Moves, check_answer}
use Rattle.rep_steps.specs.Nodes.{Node, Steps, window_at}
use Rattle.rep_engine.specs.Engines.{Engine, facts_of, durable_of}
use Rattle.rep_engine.specs.Checking.{HoldsWindow, checked}
use Rattle.rep_engine.specs.Holding.{Holds, wrote}
use Rattle.rep_stations.specs.Taking.{HasTaken, TakenItemsStay, IsAnEngine, IsOfAnEngine}
use Rattle.rep_ordered.specs.declared.view.View.{View}
use Rattle.rep_ordered.specs.Views.{StartsWith}
use Rattle.rep_node.specs.declared.home.Desk.{Desk}
use Rattle.rep_node.specs.declared.home.Home.{Home}
use Rattle.rep_node.specs.declared.checking.Checked.{Checked}
use Rattle.rep_node.specs.Homes.{Start, position_of, values_of}
use Rattle.rep_node.specs.Keeping.{AtWork}
use Rattle.rep_node.specs.Checking.{EndsAt, HasNoneDue, IsPruned, MayLend, said_of}
use Rattle.rep_node.proofs.Keeps.{is_least, list_is}
use Rattle.rep_node.proofs.Stepping.{is_refusal, moves_rise, refused_so, runs_on}

-- ---- none may begin

abbrev off_refusal : Bool → Bool → Option Refusal
off_refusal stopped low = if stopped then Some Stopped else if low then Some NotDue else None

is_low : (stopped low : Bool) → off_refusal stopped low ≡ Some NotDue → low ≡ true
is_low true low is = let e : Some Stopped ≡ Some NotDue = is in absurd cc
is_low false true is = refl
is_low false false is = let e : None ≡ Some NotDue = is in absurd cc

check_answers : (s : Standing) (stage : Stage) → is_refusal (check_answer s stage) ≡ false
check_answers s Off = refl
check_answers s (Toward goal part) = refl
check_answers s (Retiring written) = refl

-- what is answered is refused for what the facts say
pub none_due : {D : Type 0} (g : Ghosts D) (old new : Engine D) → Moves (facts_of g old) Check (Refused NotDue) (facts_of g new) → HasNoneDue old
none_due g old new moves off =
    let is : refusal (facts_of g old) Check ≡ Some NotDue = refused_so (facts_of g old) (facts_of g new) Check NotDue moves (λ f. check_answers (facts_of g old) (stage_in old.checkpoint.stage))
    (λ e. absurd (let z : NotDue ≡ OutOfMemory = e in cc)) (λ e. absurd (let z : NotDue ≡ DiskFault = e in cc)) (λ e. absurd (let z : NotDue ≡ Corrupt Pages = e in cc)) in
    leb-true (durable_of old.log) old.checkpoint.base.position (is_low (is_some old.halted) (nat_le (durable_of old.log) old.checkpoint.base.position) (subst (λ (z : Stage). (if is_some old.halted then Some Stopped else check_refusal (facts_of g old) z) ≡ Some NotDue) (ap stage_in off) is))

-- a write is due only of a checkpoint that is under way
pub next_under_way : {D : Type 0} (e : Engine D) → Next ≡ due_in e.checkpoint.stage → e.checkpoint.stage ≢ is_off
next_under_way e due off = let never : Next ≡ Begin = due ∙ ap due_in off in absurd cc

checked_told : (o : Option ℕ) → is_refusal (checked (Ok o)) ≡ false
checked_told None = refl
checked_told (Some position) = refl

module _ {D : Type 0} (g : Ghosts D) where
  -- it works still where the check was not refused
  pub check_works : (old new : Engine D) (done : Result (Option ℕ) Refusal) (o : Option ℕ) → done ≡ Ok o → IsAnEngine old → Moves (facts_of g old) Check (checked done) (facts_of g new) → old.halted ≡ None → new.halted ≡ None
  check_works old new done o is engine moves =
      runs_on g old new (checked (Ok o)) (subst (λ (d : Result (Option ℕ) Refusal). Rattle.rep_node.proofs.Stepping.Rises (facts_of g old) (facts_of g new) (checked d)) is (moves_rise (facts_of g old) (facts_of g new) Check (checked done) tt engine.goal moves)) (checked_told o)

  -- and so where a write was not
  pub write_works : (old new : Engine D) (e : Event) (done : Result (Unit {0}) Refusal) → IsOfAnEngine e → IsAnEngine old → Moves (facts_of g old) e (wrote done) (facts_of g new) → old.halted ≡ None → OnOk done (new.halted ≡ None)
  write_works old new e (Ok u) own is moves = runs_on g old new Wrote (moves_rise (facts_of g old) (facts_of g new) e Wrote own is.goal moves) refl
  write_works old new e (Err r) own is moves = λ works. tt

  -- the engine has what it had taken
  pub check_taken : TakenItemsStay g → (old new : Engine D) (done : Result (Option ℕ) Refusal) (h : Holding) → IsAnEngine old → Moves (facts_of g old) Check (checked done) (facts_of g new)
      → ((n : Node) → Holds g n old → window_of h (durable_of old.log) ≡ window_at n n.facts.durable → (m : Node) × Steps n Check (checked done) m × Holds g m new)
      → (s : Start D) (taken more : List Judged) → MayLend g s taken more h old → HasTaken g s.desk.engine s.certifier.current taken new
  check_taken laws old new done h is moves steps s taken more lent = laws.check old new (checked done) h is moves steps s.desk.engine s.certifier.current taken more lent.judged lent.near lent.engine

  -- the certifier has the window that a check asks for
  pub check_window : TakenItemsStay g → (e : Engine D) (h : Holding) (s : Start D) (taken more : List Judged) → MayLend g s taken more h e → HoldsWindow e.checkpoint.base.params (durable_of e.log) h
  check_window laws e h s taken more lent = laws.window e h s.desk.engine s.certifier.current taken more lent.judged lent.near lent.begins.windows lent.engine

-- ---- what a seat says behind the last step

module _ {D : Type 0} (g : Ghosts D) (first : List (Home D)) (w t : View (Home D) Judged) (d : Desk D) where
  pub ends_said : (due : Step) (ended : Option Checked) → ended ≡ said_of due d → ((s : Start D) → first ≡ values_of s → AtWork g s w.seen d) → (due ≡ Begin → (s : Start D) → first ≡ values_of s → IsPruned s d) → StartsWith t.seen w.seen → IsAnEngine d.engine
      → durable_of d.engine.log ≤ t.durable → IfSome ended (EndsAt first t)
  ends_said due ended says work pruned more is known = subst (λ (o : Option Checked). IfSome o (EndsAt first t)) (sym says) (by due pruned)
    where
      by : (due : Step) → (due ≡ Begin → (s : Start D) → first ≡ values_of s → IsPruned s d) → IfSome (said_of due d) (EndsAt first t)
      by Begin pruned = λ v same least. record {
        base = least;
        durable = let behind = is.behind in omega (arith, behind, known);
        told = λ s at. (work s (sym same ∙ at)).desk.publisher.0;
        oldest = λ s at. pruned refl s (sym same ∙ at);
        list = λ s at. let h = work s (sym same ∙ at) in (
          durable_of d.engine.log - position_of s,
          list_is g s w.seen t.seen d h more,
          let behind = is.behind in let low = is_least g s w.seen t.seen d h more in omega (arith, behind, low),
        );
      }
      by (Flush page) pruned = tt
      by Next pruned = tt
      by Sync pruned = tt

-- ---- a step that begins none tells nothing

pub says_none : {D : Type 0} (step : Step) (d : Desk D) → step ≢ Begin → None ≡ said_of step d
says_none Begin d other = absurd (other refl)
says_none (Flush page) d other = refl
says_none Next d other = refl
says_none Sync d other = refl
