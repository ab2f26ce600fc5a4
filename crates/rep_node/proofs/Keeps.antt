-- What a keeper finds at the engine, and what it says.
use Rattle.std.proofs.Common.{◌≡◌, ℕ, ◌+◌, ◌-◌, ◌≤◌, List, length, take, Result, Ok, Err, OnOk, IfOk, IfErr, refl, sym, ap, subst, ◌∙◌, length-append, arith}
use Rattle.std.proofs.lemmas.List.{length-map, take-append-le, take-map}
use Rattle.std.proofs.Math.Seq.{take-append_seam}
use Rattle.rep_types.specs.declared.judged.Judged.{Judged}
use Rattle.rep_types.specs.declared.refusal.Refusal.{Refusal}
use Rattle.rep_disk.specs.declared.disk.Disk.{Ghosts}
use Rattle.rep_engine.specs.Engines.{durable_of}
use Rattle.rep_snap.specs.Lists.{published}
use Rattle.rep_ordered.specs.declared.view.View.{View}
use Rattle.rep_ordered.specs.Views.{Sees, StartsWith}
use Rattle.rep_ordered.specs.GoingLaws.{begins_on}
use Rattle.rep_node.specs.declared.home.Desk.{Desk}
use Rattle.rep_node.specs.declared.home.Home.{Home}
use Rattle.rep_node.specs.Publishing.{shown, shown_of}
use Rattle.rep_node.specs.Homes.{Start, DeskAt, IsLegal, position_of}
use Rattle.rep_node.specs.Seats.{Rests, WentIdle}
use Rattle.rep_node.specs.Keeping.{AtWork}
use Rattle.rep_node.proofs.Moves.{passed_went, seat_still}

-- ---- answers

pub told_ok : {T : Type 0} (P : Type 0) (r : Result T Refusal) (x : T) → r ≡ Ok x → OnOk r P → P
told_ok P r x is h = subst (λ (z : Result _ Refusal). OnOk z P) is h

-- what holds whatever was answered
pub in_any_case : {T : Type 0} (r : Result T Refusal) (P : Type 0) → P → IfErr r (λ _. P)
in_any_case (Ok x) P h = tt
in_any_case (Err e) P h = h

pub told_ok_so : {T : Type 0} (P : T → Type 0) (r : Result T Refusal) (x : T) → r ≡ Ok x → IfOk r P → P x
told_ok_so P r x is h = subst (λ (z : Result _ Refusal). IfOk z P) is h

pub told_err : {T : Type 0} (P : Refusal → Type 0) (r : Result T Refusal) (e : Refusal) → r ≡ Err e → IfErr r P → P e
told_err P r e is h = subst (λ (z : Result _ Refusal). IfErr z P) is h

module _ {D : Type 0} (g : Ghosts D) where
  -- it lies there still as the history grows
  pub desk_grown : (s : Start D) (given : ℕ) (items later : List Judged) (d : Desk D) → DeskAt g s given items d → StartsWith later items → DeskAt g s given later d
  desk_grown s given items later d h more = record { front = h.front; begins = begins_on h.front items later h.begins more; taken = h.taken; publisher = h.publisher; works = h.works; ahead = h.ahead; fronts = h.fronts; shown = h.shown }

  -- what holds of a seat between two calls
  pub invariant_idle : (v w : View (Home D) Judged) (allowance : ℕ) → Rests g v allowance → WentIdle v w → Rests g w allowance
  invariant_idle v w allowance h idle =
      let goes = idle.0.goes in
      let kept = goes.kept in
      let own : length w.own ≡ length v.own = ap length idle.1 in
      let same : w.allowance ≡ v.allowance = omega (arith, kept, own) in
      let few = h.less in
      let halts = goes.halted in record {
        seat = seat_still g v w goes idle.1 h.seat;
        free = idle.0.free;
        less = omega (arith, same, few);
        left = λ running. h.left (omega (arith, halts, running)) ∙ sym same;
        sees = subst (λ first. Sees (IsLegal first) w) (sym goes.first) idle.3;
        passed = passed_went v w idle.0 idle.1 h.passed;
      }

  module _ (s : Start D) (items later : List Judged) (d : Desk D) (h : AtWork g s items d) (more : StartsWith later items) where
    -- nothing before the start is said to be durable
    pub is_least : position_of s ≤ durable_of d.engine.log
    is_least = h.desk.taken.rises

    -- what is published is what was shown of the items up to what is durable
    pub list_is : published d.publisher.list ≡ shown (take (durable_of d.engine.log - position_of s) later)
    list_is =
        let F = h.desk.front in
        let P = published d.publisher.list in
        let p = h.desk.shown refl in
        let k = durable_of d.engine.log - position_of s in
        let b = begins_on F items later h.desk.begins more in
        let durable = p.durable in
        let size : length P + length d.waiting ≡ length F = sym (length-append P d.waiting) ∙ (ap length p.shown_or_waits ∙ length-map F shown_of) in
        let many : length P ≡ k = omega (arith, durable) in
        sym (take-append_seam P d.waiting) ∙ ap (take (length P)) p.shown_or_waits ∙ take-map shown_of (length P) F ∙ ap (λ j. shown (take j F)) many ∙ ap shown (sym (take-append-le k F b.0 (omega (arith, many, size)))) ∙ ap (λ l. shown (take k l)) (sym b.1)
