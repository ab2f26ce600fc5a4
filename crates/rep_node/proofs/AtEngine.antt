-- A seat of the node while it is at the engine, which it entered from the side, and once it has left it.
use Rattle.std.proofs.Common.{◌≡◌, ℕ, ◌+◌, ◌*◌, ◌<◌, None, [], ◌∷◌, sym, ap, subst, ◌∙◌, arith}
use Rattle.atomic_table.specs.Seated.{TableId}
use Rattle.rep_types.specs.declared.judged.Judged.{Judged}
use Rattle.rep_disk.specs.declared.disk.Disk.{Ghosts}
use Rattle.rep_ordered.specs.declared.view.Hold.{Hold}
use Rattle.rep_ordered.specs.declared.view.View.{View}
use Rattle.rep_ordered.specs.Seats.{Place, seat_of}
use Rattle.rep_ordered.specs.Views.{Later, Sees, HoldsSide, Holds, Names, abandoned, except, floor_of, held_at, floor_at, hold, without, word_at}
use Rattle.rep_ordered.specs.Steps.{Entered}
use Rattle.rep_ordered.specs.Going.{Went}
use Rattle.rep_ordered.specs.GoingLaws.{goes_on, goes_entered, goes_later, goes_left, goes_gave_up, goes_through, later_same, sees_left, went_on}
use Rattle.rep_node.specs.declared.home.Home.{Home}
use Rattle.rep_node.specs.Homes.{AtHome, IsLegal, common_in, durable_in}
use Rattle.rep_node.specs.Seats.{WentIdle}
use Rattle.rep_node.specs.Keeping.{AtEngine}

module _ {D : Type 0} where
  -- what a seat of the lock knows
  pub view_is : (p : Place (Home D) Judged) (lock : TableId) (u : View (Home D) Judged) → p ≡ seat_of lock u → p.view ≡ u
  view_is p lock u is = ap (λ (z : Place (Home D) Judged). z.view) is

  module _ (v u : View (Home D) Judged) (n floor common : ℕ) (a : AtEngine v u n floor common) where
    pub stayed : (l : View (Home D) Judged) → Later u l → Sees (IsLegal u.first) l → AtEngine v l n floor common
    stayed l later sees = record {
      goes = goes_on v u l a.goes (goes_later u l later);
      own = ap (λ (z : View (Home D) Judged). z.own) later.same ∙ a.own;
      joined = ap (λ (z : View (Home D) Judged). z.joined) later.same ∙ a.joined;
      kept = ap (λ (z : View (Home D) Judged). z.given_up) later.same ∙ a.kept;
      sees = subst (λ first. Sees (IsLegal first) l) a.goes.first sees;
      held = ap (λ (z : View (Home D) Judged). z.held) later.same ∙ a.held;
      common_is = ap (λ (z : View (Home D) Judged). z.common) later.same ∙ a.common_is;
    }

    -- ---- what it holds

    pub holds_side : HoldsSide u 1
    holds_side = let word : word_at 1 u.held ≡ 4 * n + 2 = ap (word_at 1) a.held in omega (arith, word)

    pub holds_it : Holds u 1
    holds_it = subst (λ (hs : Rattle.std.proofs.Common.List Hold). 0 < held_at 1 hs) (sym a.held) (omega arith)

    pub floor_is : floor_of 1 u ≡ floor
    floor_is = ap (floor_at 1) a.held

    pub names_it : (named : ℕ) → named ≡ common → Names u named
    names_it named is = let here = a.common_is in (omega (arith, here, is), λ _. is ∙ sym here)

    -- ---- it leaves the engine, or gives it up

    pub left_idle : (t : View (Home D) Judged) (m d c : ℕ) → t ≡ without None 1 m d c u → WentIdle v t
    left_idle t m d c left = (
      record { goes = goes_on v u t a.goes (goes_left 1 m d c None u t left); free = ap (λ (z : View (Home D) Judged). z.held) left ∙ ap (except 1) a.held },
      ap (λ (z : View (Home D) Judged). z.own) left ∙ a.own,
      ap (λ (z : View (Home D) Judged). z.joined) left ∙ a.joined,
      sees_left (IsLegal v.first) 1 m d c u t a.sees left,
    )

    pub gone_idle : (t : View (Home D) Judged) (m d c : ℕ) (y : Home D) → t ≡ abandoned 1 y (without None 1 m d c u) → WentIdle v t
    gone_idle t m d c y left = (
      record { goes = goes_on v u t a.goes (goes_gave_up 1 m d c y u t left); free = ap (λ (z : View (Home D) Judged). z.held) left ∙ ap (except 1) a.held },
      ap (λ (z : View (Home D) Judged). z.own) left ∙ a.own,
      ap (λ (z : View (Home D) Judged). z.joined) left ∙ a.joined,
      subst (Sees (IsLegal v.first)) (sym left) (record { legal = a.sees.legal; placed = a.sees.placed }),
    )

  -- it learnt something more
  pub idle_later : (v u t : View (Home D) Judged) → WentIdle v u → Later u t → Sees (IsLegal u.first) t → WentIdle v t
  idle_later v u t h later sees = (
    record { goes = goes_on v u t h.0.goes (goes_later u t later); free = ap (λ (z : View (Home D) Judged). z.held) later.same ∙ h.0.free },
    ap (λ (z : View (Home D) Judged). z.own) later.same ∙ h.1,
    ap (λ (z : View (Home D) Judged). z.joined) later.same ∙ h.2,
    subst (λ first. Sees (IsLegal first) t) h.0.goes.first sees,
  )

  -- calls one after another
  pub idle_on : (u v w : View (Home D) Judged) → Went u v → v.own ≡ u.own → v.joined ≡ u.joined → WentIdle v w → WentIdle u w
  idle_on u v w went own joined h = (went_on u v w went h.0, h.1 ∙ own, h.2 ∙ joined, subst (λ first. Sees (IsLegal first) w) went.goes.first h.3)

module _ {D : Type 0} (g : Ghosts D) where
  -- it entered the station, holding nothing
  pub came : (v w : View (Home D) Judged) (n : ℕ) (x : Home D) → v.held ≡ [] → Entered (IsLegal v.first) (AtHome g v.first) durable_in common_in 1 n 2 v w x → AtEngine v w n (durable_in x) (common_in x)
  came v w n x free e = record {
    goes = goes_entered (IsLegal v.first) (AtHome g v.first) durable_in common_in 1 n 2 v w x e;
    own = ap (λ (z : View (Home D) Judged). z.own) e.view;
    joined = ap (λ (z : View (Home D) Judged). z.joined) e.view;
    kept = ap (λ (z : View (Home D) Judged). z.given_up) e.view;
    sees = e.sees;
    held = ap (λ (z : View (Home D) Judged). z.held) e.view ∙ ap (λ hs. hold 1 (4 * n + 2) (durable_in x) ∷ hs) free;
    common_is = ap (λ (z : View (Home D) Judged). z.common) e.view;
  }

  -- it entered and left the queue besides, which then names this number
  pub looked : (v u w t : View (Home D) Judged) (n floor common m k d c : ℕ) (x : Home D) → AtEngine v u n floor common → Entered (IsLegal u.first) (AtHome g u.first) durable_in common_in 2 m 2 u w x → t ≡ without None 2 k d c w → AtEngine v t n floor c
  looked v u w t n floor common m k d c x a e left =
      let through = goes_through (IsLegal u.first) (AtHome g u.first) durable_in common_in 2 m 2 k d c None u w w t x e (later_same w) left in
      record {
        goes = goes_on v u t a.goes through.0;
        own = ap (λ (z : View (Home D) Judged). z.own) left ∙ (ap (λ (z : View (Home D) Judged). z.own) e.view ∙ a.own);
        joined = ap (λ (z : View (Home D) Judged). z.joined) left ∙ (ap (λ (z : View (Home D) Judged). z.joined) e.view ∙ a.joined);
        kept = ap (λ (z : View (Home D) Judged). z.given_up) left ∙ (ap (λ (z : View (Home D) Judged). z.given_up) e.view ∙ a.kept);
        sees = sees_left (IsLegal v.first) 2 k d c w t (subst (λ first. Sees (IsLegal first) w) a.goes.first e.sees) left;
        held = through.1 ∙ a.held;
        common_is = ap (λ (z : View (Home D) Judged). z.common) left;
      }
