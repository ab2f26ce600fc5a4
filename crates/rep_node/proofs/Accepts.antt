-- A keeper that is at the engine and at the queue, and lets the engine accept what comes next.
use Rattle.std.proofs.Common.{◌≡◌, Bool, ℕ, ◌+◌, ◌≤◌, List, length, Result, Ok, Err, OnOk, sym, ap, subst, ◌∙◌, arith}
use Rattle.std.specs.Prelude.{None, OnErr}
use Rattle.rep_types.specs.declared.judged.Judged.{Judged}
use Rattle.rep_types.specs.declared.refusal.Refusal.{Refusal}
use Rattle.rep_disk.specs.declared.disk.Disk.{Ghosts}
use Rattle.rep_engine.specs.Engines.{Engine, durable_of}
use Rattle.rep_snap.specs.Lists.{published}
use Rattle.rep_snap.specs.Views.{Listing}
use Rattle.rep_stations.specs.Taking.{HasTaken}
use Rattle.rep_ordered.specs.declared.view.View.{View}
use Rattle.rep_ordered.specs.Views.{StartsWith, turn_of, without}
use Rattle.rep_ordered.specs.Steps.{Entered}
use Rattle.rep_node.specs.declared.home.Desk.{Desk}
use Rattle.rep_node.specs.declared.home.Queue.{Queue}
use Rattle.rep_node.specs.declared.home.Home.{Home}
use Rattle.rep_node.specs.declared.home.Home.TheVariants.{Queue as AtThird}
use Rattle.rep_node.specs.declared.origin.Origin.{Origin}
use Rattle.rep_node.specs.Homes.{Start, AtHome, DeskAt, QueueAt, IsLegal, common_in, durable_in, position_of, values_of}
use Rattle.rep_node.specs.Publishing.{shown}
use Rattle.rep_node.specs.Seats.{IsSeat}
use Rattle.rep_node.specs.Keeping.{AtDesk, AtEngine, AreAtWork, common_of_desk}
use Rattle.rep_node.proofs.Standing.{at_third}
use Rattle.rep_node.proofs.AtEngine.{looked}
use Rattle.rep_node.proofs.Keeps.{desk_grown}
use Rattle.rep_node.proofs.Desks.{desk_given, desk_held, desk_work}

module _ {D : Type 0} (g : Ghosts D) (v w : View (Home D) Judged) (d : Desk D) (seat : IsSeat g v) (a : AtDesk g 0 v w d)
    (u : View (Home D) Judged) (m : ℕ) (y : Home D) (q : Queue) (f : Entered (IsLegal w.first) (AtHome g w.first) durable_in common_in 2 m 2 w u y) (this : y ≡ AtThird q) where
  -- what it finds at both
  pub both_at : (s : Start D) → v.first ≡ values_of s → AreAtWork g s m u.seen d q
  both_at s first =
      let work = desk_work g v w d seat a s first in
      let held = desk_held g 0 v w d a in
      let c = f.common (omega arith) in
      let limit = f.limit in record {
        work = record { begins = work.begins; legal = f.sees.legal s (a.at.goes.first ∙ first); desk = desk_grown g s 0 w.seen u.seen d work.desk f.seen };
        queue = at_third g w.first m 0 u.durable u.seen y q f.keeps this s (a.at.goes.first ∙ first);
        common = sym (ap common_in this) ∙ (sym (c.1 (omega (arith, held))) ∙ a.at.common_is);
        limit = omega (arith, limit);
      }

  module _ (d' : Desk D) (q' : Queue) (r : Result Bool Refusal) (accepted : (s : Start D) (number : ℕ) (items : List Judged) → AreAtWork g s number items d q → OnOk r (AreAtWork g s number items d' q'))
      (durable : OnOk r (durable_of d'.engine.log ≡ durable_of d.engine.log)) (unchanged : OnErr r ((d'.engine ≡ d.engine) × (d'.publisher ≡ d.publisher) × (q' ≡ q))) where
    first_of_u : (s : Start D) → u.first ≡ values_of s → v.first ≡ values_of s
    first_of_u s first = sym a.at.goes.first ∙ (sym (ap (λ (z : View (Home D) Judged). z.first) f.view) ∙ first)

    -- what the queue is, accepted or not
    queue_then : (r : Result Bool Refusal) (s : Start D) → AreAtWork g s m u.seen d q → OnOk r (AreAtWork g s m u.seen d' q') → OnErr r ((d'.engine ≡ d.engine) × (d'.publisher ≡ d.publisher) × (q' ≡ q)) → QueueAt s m u.seen q'
    queue_then (Ok t) s before ok err = ok.queue
    queue_then (Err t) s before ok err = subst (λ (z : Queue). QueueAt s m u.seen z) (sym err.2) before.queue

    pub queue_back : (s : Start D) → u.first ≡ values_of s → QueueAt s (turn_of 2 u) u.seen q'
    queue_back s first =
        let before = both_at s (first_of_u s first) in
        subst (λ k. QueueAt s k u.seen q') (sym f.now) (queue_then r s before (accepted s m u.seen before) unchanged)

    module _ (t : View (Home D) Judged) (left : t ≡ without None 2 (turn_of 2 u) 0 q'.accepted u) where
      -- where it is, once it has left the queue
      back_at : (c : ℕ) → q'.accepted ≡ c → AtEngine v t a.number a.floor c
      back_at c is = subst (AtEngine v t a.number a.floor) is (looked g v w u t a.number a.floor (common_of_desk d) m (turn_of 2 u) 0 q'.accepted y a.at f left)

      seen_is : t.seen ≡ u.seen
      seen_is = ap (λ (z : View (Home D) Judged). z.seen) left

      works_by : (r : Result Bool Refusal) → ((s : Start D) (number : ℕ) (items : List Judged) → AreAtWork g s number items d q → OnOk r (AreAtWork g s number items d' q')) → OnOk r (durable_of d'.engine.log ≡ durable_of d.engine.log)
          → OnOk r (AtDesk g 0 v t d')
      works_by (Ok x) ok same = record {
        number = a.number;
        floor = a.floor;
        at = back_at (common_of_desk d') (ok seat.start m u.seen (both_at seat.start seat.first)).common;
        low = let low = a.low in omega (arith, low, same);
        desk = λ s first. subst (λ l. DeskAt g s 0 l d') (sym seen_is) (ok s m u.seen (both_at s first)).work.desk;
      }
      works_by (Err e) ok same = tt

      pub accepted_at : OnOk r (AtDesk g 0 v t d')
      accepted_at = works_by r accepted durable

      -- it is to be given up, whatever came of it
      refused_at : (d'.engine ≡ d.engine) × (d'.publisher ≡ d.publisher) × (q' ≡ q) → AtDesk g 1 v t d'
      refused_at same = record {
        number = a.number;
        floor = a.floor;
        at = back_at (common_of_desk d') (ap (λ (z : Queue). z.accepted) same.2 ∙ ((both_at seat.start seat.first).common ∙ sym (ap (λ (z : Engine D). durable_of z.log + length z.block) same.0)));
        low = let low = a.low in let log : durable_of d'.engine.log ≡ durable_of d.engine.log = ap (λ (z : Engine D). durable_of z.log) same.0 in omega (arith, low, log);
        desk = λ s first. let h = (both_at s first).work.desk in record {
          front = h.front;
          begins = subst (λ l. StartsWith l h.front) (sym seen_is) h.begins;
          taken = subst (λ (z : Engine D). HasTaken g s.desk.engine s.certifier.current h.front z) (sym same.0) h.taken;
          publisher = (ap (λ (p : Listing Origin). p.book) same.1 ∙ h.publisher.0, ap (λ (p : Listing Origin). p.basis) same.1 ∙ h.publisher.1, ap (λ (p : Listing Origin). p.start) same.1 ∙ h.publisher.2);
          works = λ (z : 1 ≡ 0). absurd (omega arith);
          ahead = subst (λ (z : Engine D × Listing Origin). position_of s + length (published z.1.list) ≤ durable_of z.0.log) (λ i. (sym same.0 i, sym same.1 i)) h.ahead;
          fronts = subst (λ (p : Listing Origin). StartsWith (shown h.front) (published p.list)) (sym same.1) h.fronts;
          shown = λ (z : 1 ≡ 0). absurd (omega arith);
        };
      }

      given_by : (r : Result Bool Refusal) → OnOk r (AtDesk g 0 v t d') → OnErr r ((d'.engine ≡ d.engine) × (d'.publisher ≡ d.publisher) × (q' ≡ q)) → AtDesk g 1 v t d'
      given_by (Ok x) works same = desk_given g v t d' works
      given_by (Err e) works same = refused_at same

      pub accepted_given : AtDesk g 1 v t d'
      accepted_given = given_by r accepted_at unchanged
