-- A seat and its allowance, as seats are split and joined, and as the node is halted.
use Rattle.std.proofs.Common.{◌≡◌, ℕ, ◌+◌, ◌-◌, ◌^◌, ◌≤◌, min, List, ◌++◌, ap, refl, sym, ◌∙◌, subst, arith}
use Rattle.rep_types.specs.declared.judged.Judged.{Judged}
use Rattle.rep_disk.specs.declared.disk.Disk.{Ghosts}
use Rattle.rep_ordered.specs.declared.view.View.{View}
use Rattle.rep_ordered.specs.Counts.{times}
use Rattle.rep_ordered.specs.Steps.{Learns}
use Rattle.rep_ordered.specs.Views.{Later, Sees, both, given, giving}
use Rattle.rep_ordered.specs.GoingLaws.{passed_joined}
use Rattle.rep_node.specs.declared.home.Home.{Home}
use Rattle.rep_node.specs.Homes.{IsLegal}
use Rattle.rep_node.specs.Seats.{IsSeat, Rests, SeesLegal}

-- what a seat sees that drew nothing of what it may draw
pub sees_given : {D : Type 0} (v : View (Home D) Judged) (give : ℕ) → SeesLegal v v → SeesLegal (given give v) (given give v)
sees_given v give sees = record { legal = sees.legal; placed = record { entries = tt; others = λ x drawn none_joined. absurd (omega arith) } }

pub sees_giving : {D : Type 0} (v : View (Home D) Judged) (give : ℕ) → SeesLegal v v → SeesLegal (giving give v) (giving give v)
sees_giving v give sees = record { legal = sees.legal; placed = record { entries = sees.placed.entries; others = sees.placed.others } }

module _ {D : Type 0} (g : Ghosts D) where
  -- another view of the same node
  seat_as : (v w : View (Home D) Judged) → w.start ≡ v.start → w.whole ≡ v.whole → w.first ≡ v.first → ((x : ℕ) → times x w.own ≤ 1) → IsSeat g v → IsSeat g w
  seat_as v w start whole first once s = record { start = s.start; first = first ∙ s.first; begins = s.begins; number = start ∙ s.number; whole = let c = s.whole in omega arith; once = once }

  pub owns_halted : (v w : View (Home D) Judged) (a : ℕ) → Later v w → SeesLegal v w → w.halted ≡ 1 → Rests g v a → Rests g w a
  owns_halted v w a later sees halted o = let less = o.less in let same : w.allowance ≡ v.allowance = ap (λ (z : View (Home D) Judged). z.allowance) later.same in record {
    seat = seat_as v w
        (ap (λ (z : View (Home D) Judged). z.start) later.same)
        (ap (λ (z : View (Home D) Judged). z.whole) later.same)
        (ap (λ (z : View (Home D) Judged). z.first) later.same)
        (λ x. let own : times x w.own ≡ times x v.own = ap (λ (z : View (Home D) Judged). times x z.own) later.same in let once = o.seat.once x in omega arith)
        o.seat;
    free = ap (λ (z : View (Home D) Judged). z.held) later.same ∙ o.free;
    less = omega arith;
    left = λ running. absurd (omega arith);
    sees = subst (λ first. Sees (IsLegal first) w) (sym (ap (λ (z : View (Home D) Judged). z.first) later.same)) sees;
    passed = λ running. absurd (omega arith);
  }

  pub owns_less : (v w : View (Home D) Judged) (give a b : ℕ) → w ≡ giving give v → b ≡ a - give → Rests g v a → Rests g w b
  owns_less v w give a b is left o = subst (λ z. Rests g z b) (sym is) (let less = o.less in record {
    seat = seat_as v (giving give v) refl refl refl o.seat.once o.seat;
    free = o.free;
    less = omega arith;
    left = λ running. let same = o.left running in omega arith;
    sees = sees_giving v give o.sees;
    passed = o.passed;
  })

  pub owns_given : (v w : View (Home D) Judged) (give a : ℕ) → w ≡ given give v → Rests g v a → Rests g w give
  owns_given v w give a is o = subst (λ z. Rests g z give) (sym is) record {
    seat = seat_as v (given give v) refl refl refl (λ x. omega arith) o.seat;
    free = refl;
    less = omega arith;
    left = λ running. refl;
    sees = sees_given v give o.sees;
    passed = λ running x drawn. absurd (omega arith);
  }

  -- no seat may draw more numbers than there are, so the sum of the two allowances is small
  pub owns_both : (heard : List Judged) (v w u : View (Home D) Judged) (a b c : ℕ) → Learns (IsLegal v.first) heard (both v w) u → u.allowance ≤ u.whole → c ≡ min (a + b) (2 ^ 64 - 1) → Rests g v a → Rests g w b → Rests g u c
  owns_both heard v w u a b c learns within is o p = let less = o.less in let less_still = p.less in let allowance : u.allowance ≡ v.allowance + w.allowance = ap (λ (z : View (Home D) Judged). z.allowance) learns.same in
      let s : IsSeat g u = joined in let whole = s.whole in let halted = learns.halted in record {
        seat = s;
        free = ap (λ (z : View (Home D) Judged). z.held) learns.same ∙ o.free;
        less = omega arith;
        left = λ running. let same = o.left (omega arith) in let same_still = p.left (omega arith) in omega arith;
        sees = subst (λ first. Sees (IsLegal first) u) (sym (ap (λ (z : View (Home D) Judged). z.first) learns.same)) learns.sees;
        passed = λ running. passed_joined 2 v w u (ap (λ (z : View (Home D) Judged). z.own) learns.same) (ap (λ (z : View (Home D) Judged). z.reached) learns.same) (o.passed (omega arith)) (p.passed (omega arith));
      }
    where
      joined : IsSeat g u
      joined = seat_as v u
          (ap (λ (z : View (Home D) Judged). z.start) learns.same)
          (ap (λ (z : View (Home D) Judged). z.whole) learns.same)
          (ap (λ (z : View (Home D) Judged). z.first) learns.same)
          (λ x. let own : times x u.own ≡ times x (v.own ++ w.own) = ap (λ (z : View (Home D) Judged). times x z.own) learns.same in let once = learns.once x in omega arith)
          o.seat
