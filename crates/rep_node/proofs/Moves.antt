-- What a seat of the node is as it goes on, and what it drew.
use Rattle.std.proofs.Common.{◌≡◌, ℕ, ◌<◌, ◌≤◌, [], ◌∷◌, ◌++◌, ap, sym, subst, ◌∙◌, arith}
use mathlib.Core.Logic.{dite}
use native.Mathlib.Decide.{ℕ_discrete}
use Rattle.rep_types.specs.declared.judged.Judged.{Judged}
use Rattle.rep_disk.specs.declared.disk.Disk.{Ghosts}
use Rattle.rep_ordered.specs.declared.view.View.{View}
use Rattle.rep_ordered.specs.Counts.{times}
use Rattle.rep_ordered.specs.Views.{Later, reached_at, with_number}
use Rattle.rep_ordered.specs.Going.{Goes, Went}
use Rattle.rep_ordered.specs.GoingLaws.{passed_still, passed_more, times_append, went_claimed, went_later, went_on}
use Rattle.rep_node.specs.declared.home.Home.{Home}
use Rattle.rep_node.specs.Seats.{DrewOne, IsSeat, PassedOrStopped}

module _ {D : Type 0} (g : Ghosts D) where
  -- it is a seat of the same node
  pub seat_goes : (v w : View (Home D) Judged) → Goes v w → ((x : ℕ) → times x w.own ≤ 1) → IsSeat g v → IsSeat g w
  seat_goes v w goes once s = record { start = s.start; first = goes.first ∙ s.first; begins = s.begins; number = goes.start ∙ s.number; whole = let a = goes.start in let b = goes.whole in let c = s.whole in omega arith; once = once }

  pub seat_still : (v w : View (Home D) Judged) → Goes v w → w.own ≡ v.own → IsSeat g v → IsSeat g w
  seat_still v w goes own s = seat_goes v w goes (λ x. let same : times x w.own ≡ times x v.own = ap (times x) own in let o = s.once x in omega arith) s

  -- one more number was drawn, which it had not drawn before
  pub seat_drew : (v w : View (Home D) Judged) (n : ℕ) → Goes v w → w.own ≡ v.own ++ n ∷ [] → times n v.own ≡ 0 → IsSeat g v → IsSeat g w
  seat_drew v w n goes own fresh s = seat_goes v w goes once_more s
    where
      once_more : (x : ℕ) → times x w.own ≤ 1
      once_more x = let same : times x w.own ≡ times x (v.own ++ n ∷ []) = ap (times x) own in let o = s.once x in let t = times_append x v.own (n ∷ []) in
          dite (ℕ_discrete x n) (λ (is : x ≡ n). let f : times x v.own ≡ 0 = subst (λ z. times z v.own ≡ 0) (sym is) fresh in omega arith) (λ other. let l : times x (n ∷ []) ≡ 0 = none_in x other in omega arith)
        where
          none_in : (x : ℕ) → (x ≡ n → ⊥) → times x (n ∷ []) ≡ 0
          none_in x other = omega arith

  -- ---- a seat that drew one number, and went on

  pub drew_begins : (v w : View (Home D) Judged) (n : ℕ) → w ≡ with_number n v → v.held ≡ [] → 0 < v.allowance → times n v.own ≡ 0 → IsSeat g v → DrewOne g n v w
  drew_begins v w n is free some fresh s = let went = went_claimed v w n is free some in let own : w.own ≡ v.own ++ n ∷ [] = ap (λ (z : View (Home D) Judged). z.own) is in record { went = went; own = own; seat = seat_drew v w n went.goes own fresh s }

  pub drew_went : (v w u : View (Home D) Judged) (n : ℕ) → DrewOne g n v w → Went w u → u.own ≡ w.own → DrewOne g n v u
  drew_went v w u n c went own = record { went = went_on v w u c.went went; own = own ∙ c.own; seat = seat_still w u went.goes own c.seat }

  pub drew_later : (v w u : View (Home D) Judged) (n : ℕ) → DrewOne g n v w → Later w u → DrewOne g n v u
  drew_later v w u n c later = drew_went v w u n c (went_later w u later c.went.free) (ap (λ (z : View (Home D) Judged). z.own) later.same)

module _ {D : Type 0} where
  -- what the seat drew has passed still
  pub passed_went : (v w : View (Home D) Judged) → Went v w → w.own ≡ v.own → PassedOrStopped v → PassedOrStopped w
  passed_went v w went own passed running = let h = went.goes.halted in passed_still 2 v w (went.goes.reached 2) own (passed (omega arith))

  -- one more number was drawn, and has passed
  pub passed_next : (v w : View (Home D) Judged) (n : ℕ) → Went v w → w.own ≡ v.own ++ n ∷ [] → n < reached_at 2 w.reached → PassedOrStopped v → PassedOrStopped w
  passed_next v w n went own here passed running = let h = went.goes.halted in passed_more 2 v w n (went.goes.reached 2) own here (passed (omega arith))
