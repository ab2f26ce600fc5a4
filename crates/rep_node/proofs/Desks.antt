-- A seat of the node that is at the engine, and the desk that lies there.
use Rattle.std.proofs.Common.{◌≡◌, ℕ, ◌≤◌, None, List, [], Result, Ok, Err, OnOk, IfErr, refl, sym, subst, ◌∙◌, arith}
use Rattle.rep_types.specs.declared.judged.Judged.{Judged}
use Rattle.rep_types.specs.declared.refusal.Refusal.{Refusal}
use Rattle.rep_types.specs.declared.refusal.Refusal.TheVariants.{LogFull}
use Rattle.rep_disk.specs.declared.disk.Disk.{Ghosts}
use Rattle.rep_engine.specs.Engines.{durable_of}
use Rattle.rep_ordered.specs.declared.view.View.{View}
use Rattle.rep_ordered.specs.Views.{Later, Sees, Holds, HoldsSide, Names, abandoned, floor_of, turn_of, without}
use Rattle.rep_ordered.specs.Steps.{Entered}
use Rattle.rep_node.specs.declared.home.Desk.{Desk}
use Rattle.rep_node.specs.declared.home.Home.{Home}
use Rattle.rep_node.specs.declared.home.Home.TheVariants.{Desk as AtSecond}
use Rattle.rep_node.specs.Homes.{Start, Begins, AtHome, DeskAt, IsLegal, common_in, durable_in, values_of}
use Rattle.rep_node.specs.Seats.{IsSeat, WentIdle}
use Rattle.rep_node.specs.Keeping.{AtDesk, AtEngine, AtWork, HasWorked, IsFull, common_of_desk}
use Rattle.rep_node.proofs.Standing.{at_second, of_the_start}
use Rattle.rep_node.proofs.AtEngine.{came, floor_is, gone_idle, holds_it, holds_side, left_idle, names_it, stayed}
use Rattle.rep_node.proofs.Keeps.{desk_grown}

module _ {D : Type 0} (g : Ghosts D) where
  -- who enters finds it
  pub desk_entered : (v w : View (Home D) Judged) (n : ℕ) (x : Home D) (d : Desk D) → v.held ≡ [] → Entered (IsLegal v.first) (AtHome g v.first) durable_in common_in 1 n 2 v w x → x ≡ AtSecond d → AtDesk g 0 v w d
  desk_entered v w n x d free e is = record {
    number = n;
    floor = durable_of d.engine.log;
    at = subst (λ (y : Home D). AtEngine v w n (durable_in y) (common_in y)) is (came g v w n x free e);
    low = omega arith;
    desk = at_second g v.first n 0 w.durable w.seen x d e.keeps is;
  }

  module _ (given : ℕ) (v u : View (Home D) Judged) (d : Desk D) (a : AtDesk g given v u d) where
    pub desk_held : Holds u 1
    desk_held = holds_it v u a.number a.floor (common_of_desk d) a.at

    pub desk_side : HoldsSide u 1
    desk_side = holds_side v u a.number a.floor (common_of_desk d) a.at

    pub desk_home : AtHome g u.first 1 (turn_of 1 u) given u.seen u.durable (AtSecond d)
    desk_home = (refl, λ s is. a.desk s (sym a.at.goes.first ∙ is))

    pub desk_floor : floor_of 1 u ≤ durable_of d.engine.log
    desk_floor = let floor = floor_is v u a.number a.floor (common_of_desk d) a.at in let low = a.low in omega (arith, floor, low)

    pub desk_names : Names u (common_of_desk d)
    desk_names = names_it v u a.number a.floor (common_of_desk d) a.at (common_of_desk d) refl

    -- it learnt something more
    pub desk_learns : (l : View (Home D) Judged) → Later u l → Sees (IsLegal u.first) l → AtDesk g given v l d
    desk_learns l later sees = record {
      number = a.number;
      floor = a.floor;
      at = stayed v u a.number a.floor (common_of_desk d) a.at l later sees;
      low = a.low;
      desk = λ s first. desk_grown g s given u.seen l.seen d (a.desk s first) later.seen;
    }

    -- it left the desk, or gave it up
    pub desk_left : (t : View (Home D) Judged) (m e c : ℕ) → t ≡ without None 1 m e c u → WentIdle v t
    desk_left t m e c left = left_idle v u a.number a.floor (common_of_desk d) a.at t m e c left

    pub desk_gone : (t : View (Home D) Judged) (m e c : ℕ) (y : Home D) → t ≡ abandoned 1 y (without None 1 m e c u) → WentIdle v t
    desk_gone t m e c y left = gone_idle v u a.number a.floor (common_of_desk d) a.at t m e c y left

    -- another desk lies there
    pub desk_moved : (h : ℕ) (d' : Desk D) → durable_of d.engine.log ≤ durable_of d'.engine.log → common_of_desk d' ≡ common_of_desk d → ((s : Start D) → v.first ≡ values_of s → DeskAt g s h u.seen d') → AtDesk g h v u d'
    desk_moved h d' rises common lies = record {
      number = a.number;
      floor = a.floor;
      at = subst (AtEngine v u a.number a.floor) (sym common) a.at;
      low = let low = a.low in omega (arith, low, rises);
      desk = lies;
    }

  -- one that works may be given up
  pub desk_given : (v u : View (Home D) Judged) (d : Desk D) → AtDesk g 0 v u d → AtDesk g 1 v u d
  desk_given v u d a = record {
    number = a.number;
    floor = a.floor;
    at = a.at;
    low = a.low;
    desk = λ s first. let h = a.desk s first in record {
      front = h.front;
      begins = h.begins;
      taken = h.taken;
      publisher = h.publisher;
      works = λ (z : 1 ≡ 0). absurd (omega arith);
      ahead = h.ahead;
      fronts = h.fronts;
      shown = λ (z : 1 ≡ 0). absurd (omega arith);
    };
  }

  module _ (v u : View (Home D) Judged) (d : Desk D) (seat : IsSeat g v) (a : AtDesk g 0 v u d) where
    -- it is at work
    pub desk_work : (s : Start D) → v.first ≡ values_of s → AtWork g s u.seen d
    desk_work s first = record {
      begins = of_the_start (Begins g) v.first seat.start seat.first seat.begins s first;
      legal = a.at.sees.legal s first;
      desk = a.desk s first;
    }

    -- a step of the log leaves it so, unless it failed
    pub desk_worked : {T : Type 0} (d' : Desk D) (r : Result T Refusal) → ((s : Start D) (items : List Judged) → AtWork g s items d → OnOk r (AtWork g s items d'))
        → ((s : Start D) (items : List Judged) → AtWork g s items d → DeskAt g s 1 items d')
        → durable_of d.engine.log ≤ durable_of d'.engine.log → common_of_desk d' ≡ common_of_desk d → IfErr r (λ e. e ≡ LogFull → (d' ≡ d) × IsFull g d.engine)
        → HasWorked g v u d' r
    desk_worked d' (Ok x) works given rises common full = record {
      works = desk_moved 0 v u d a 0 d' rises common (λ s first. (works s u.seen (desk_work s first)).desk);
      full = tt;
      given = desk_moved 0 v u d a 1 d' rises common (λ s first. given s u.seen (desk_work s first));
    }
    desk_worked d' (Err e) works given rises common full = record {
      works = tt;
      full = λ is. let f = full is in (subst (AtDesk g 0 v u) (sym f.0) a, subst (λ (z : Desk D). IsFull g z.engine) (sym f.0) f.1);
      given = desk_moved 0 v u d a 1 d' rises common (λ s first. given s u.seen (desk_work s first));
    }
