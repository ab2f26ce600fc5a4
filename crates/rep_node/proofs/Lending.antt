-- A seat of the node that holds the certifier from the side, and then the engine too, to which it lends the certifier.
use Rattle.std.proofs.Common.{◌≡◌, ℕ, ◌+◌, ◌*◌, ◌<◌, ◌≤◌, None, List, [], ◌∷◌, ◌++◌, length, refl, sym, ap, subst, ◌∙◌, arith}
use Rattle.rep_types.specs.declared.judged.Judged.{Judged}
use Rattle.rep_disk.specs.declared.disk.Disk.{Ghosts}
use Rattle.rep_cert.specs.Holdings.{Holding, Holdings}
use Rattle.rep_engine.specs.Engines.{Engine, durable_of}
use Rattle.rep_stations.specs.Judging.{HasJudged}
use Rattle.rep_stations.specs.Taking.{HasTaken}
use Rattle.rep_ordered.specs.declared.view.View.{View}
use Rattle.rep_ordered.specs.Views.{Later, Sees, StartsWith, except, held_at, hold, turn_of, without}
use Rattle.rep_ordered.specs.Steps.{Entered}
use Rattle.rep_ordered.specs.GoingLaws.{begins_on, goes_entered, goes_left, goes_on, sees_left, went_through}
use Rattle.rep_node.specs.declared.home.Desk.{Desk}
use Rattle.rep_node.specs.declared.home.Home.{Home}
use Rattle.rep_node.specs.declared.home.Home.TheVariants.{Certifier as AtFirst, Desk as AtSecond}
use Rattle.rep_node.specs.Homes.{Start, AtHome, CertifierAt, DeskAt, IsLegal, IsLegalBehind, common_in, durable_in, position_of, values_of}
use Rattle.rep_node.specs.Seats.{IsSeat, WentIdle}
use Rattle.rep_node.specs.Checking.{MayLend}
use Rattle.rep_node.proofs.Standing.{all_judged, at_first, at_second}
use Rattle.rep_node.specs.Keeping.{AtDesk, AtEngine}

-- the certifier stays where it is as more joins the history, and more is durable
certifier_later : {D : Type 0} (s : Start D) (n : ℕ) (items later : List Judged) (durable up : ℕ) (h : Holding) → CertifierAt s n items durable h → StartsWith later items → durable ≤ up → CertifierAt s n later up h
certifier_later s n items later durable up h at begins rises = let room = at.room in record { front = at.front; below = record { begins = begins_on at.front items later at.below.begins begins; long = at.below.long }; room = omega arith; judged = at.judged }

module _ {D : Type 0} (g : Ghosts D) (v w : View (Home D) Judged) (n : ℕ) (x : Home D) (c : Holdings) (seat : IsSeat g v) (free : v.held ≡ [])
    (e : Entered (IsLegal v.first) (AtHome g v.first) durable_in common_in 0 n 2 v w x) (is : x ≡ AtFirst c) where
  first_is : w.first ≡ v.first
  first_is = ap (λ (z : View (Home D) Judged). z.first) e.view

  certifier_at : (s : Start D) → v.first ≡ values_of s → CertifierAt s n w.seen w.durable c.current
  certifier_at = at_first g v.first n 0 w.durable w.seen x c e.keeps is

  -- what the certifier is still, where the engine could not be entered
  module _ (l : View (Home D) Judged) (later : Later w l) where
    pub certifier_still : (s : Start D) → l.first ≡ values_of s → CertifierAt s (turn_of 0 l) l.seen l.durable c.current
    certifier_still s first =
        let turn : turn_of 0 l ≡ n = ap (λ (z : View (Home D) Judged). turn_of 0 z) later.same ∙ e.now in
        subst (λ k. CertifierAt s k l.seen l.durable c.current) (sym turn)
        (certifier_later s n w.seen l.seen w.durable l.durable c.current (certifier_at s (sym first_is ∙ (sym (ap (λ (z : View (Home D) Judged). z.first) later.same) ∙ first))) later.seen later.durable)

    pub left_again : Sees (IsLegal w.first) l → (t : View (Home D) Judged) (m d k : ℕ) → t ≡ without None 0 m d k l → WentIdle v t
    left_again sees t m d k left = (
      went_through (IsLegal v.first) (AtHome g v.first) durable_in common_in 0 n 2 m d k None v w l t x free e later left,
      ap (λ (z : View (Home D) Judged). z.own) left ∙ (ap (λ (z : View (Home D) Judged). z.own) later.same ∙ ap (λ (z : View (Home D) Judged). z.own) e.view),
      ap (λ (z : View (Home D) Judged). z.joined) left ∙ (ap (λ (z : View (Home D) Judged). z.joined) later.same ∙ ap (λ (z : View (Home D) Judged). z.joined) e.view),
      sees_left (IsLegal v.first) 0 m d k l t (subst (λ first. Sees (IsLegal first) l) first_is sees) left,
    )

  -- ---- it enters the engine's station too

  module _ (u : View (Home D) Judged) (m : ℕ) (y : Home D) (d : Desk D) (f : Entered (IsLegal w.first) (AtHome g w.first) durable_in common_in 1 m 2 w u y) (this : y ≡ AtSecond d) where
    holds_first : w.held ≡ hold 0 (4 * n + 2) (durable_in x) ∷ []
    holds_first = ap (λ (z : View (Home D) Judged). z.held) e.view ∙ ap (λ hs. hold 0 (4 * n + 2) (durable_in x) ∷ hs) free

    -- nothing joined meanwhile
    pub seen_is : u.seen ≡ w.seen
    seen_is = f.still (subst (λ hs. 0 < held_at 0 hs) (sym holds_first) (omega arith))

    same_first : u.first ≡ v.first
    same_first = ap (λ (z : View (Home D) Judged). z.first) f.view ∙ first_is

    pub desk_at : (s : Start D) → v.first ≡ values_of s → DeskAt g s 0 u.seen d
    desk_at s first = at_second g w.first m 0 u.durable u.seen y d f.keeps this s (first_is ∙ first)

    pub durable_known : v.durable ≤ durable_of d.engine.log
    durable_known = let a = e.durable in let b = f.durable in let known = (f.backed refl).1 in let same : durable_in y ≡ durable_of d.engine.log = ap durable_in this in omega (arith, a, b, known, same)

    -- the certifier can be lent
    pub may_lend : (s : Start D) (first : v.first ≡ values_of s) → MayLend g s (desk_at s first).front (desk_at s first).begins.0 c.current d.engine
    may_lend s first =
        let at = certifier_at s first in
        let here = desk_at s first in
        let start : v.start ≡ position_of s + 1 = subst (λ (z : Start D). v.start ≡ position_of z + 1) (Rattle.rep_node.proofs.Standing.one_start v.first seat.start s seat.first first) seat.number in
        let place = e.place refl in
        let judged : HasJudged s.certifier.current w.seen c.current = all_judged s n w.seen w.durable c.current at (omega (arith, start, place)) in
        let whole : w.seen ≡ here.front ++ here.begins.0 = sym seen_is ∙ here.begins.1 in
        record {
          begins = subst (λ (z : Start D). Rattle.rep_node.specs.Homes.Begins g z) (Rattle.rep_node.proofs.Standing.one_start v.first seat.start s seat.first first) seat.begins;
          legal = subst (IsLegalBehind s.certifier.current) (here.begins.1) (f.sees.legal s (first_is ∙ first));
          judged = subst (λ l. HasJudged s.certifier.current l c.current) whole judged;
          engine = here.taken;
          near = let room = at.room in let count = judged.delivered in let up = f.durable in let known = (f.backed refl).1 in let same : durable_in y ≡ durable_of d.engine.log = ap durable_in this in omega (arith, room, count, up, known, same, start, place);
        }

    -- what the certifier is as it is left
    pub certifier_back : (s : Start D) → u.first ≡ values_of s → CertifierAt s (turn_of 0 u) u.seen u.durable c.current
    certifier_back s first =
        let turn : turn_of 0 u ≡ n = ap (λ (z : View (Home D) Judged). turn_of 0 z) f.view ∙ e.now in
        subst (λ k. CertifierAt s k u.seen u.durable c.current) (sym turn) (certifier_later s n w.seen u.seen w.durable u.durable c.current (certifier_at s (sym same_first ∙ first)) f.seen f.durable)

    module _ (t : View (Home D) Judged) (k a b : ℕ) (left : t ≡ without None 0 k a b u) where
      -- it is at the engine alone
      pub at_engine : AtEngine v t m (durable_of d.engine.log) (common_in (AtSecond d))
      at_engine = record {
        goes = goes_on v w t (goes_entered (IsLegal v.first) (AtHome g v.first) durable_in common_in 0 n 2 v w x e)
            (goes_on w u t (goes_entered (IsLegal w.first) (AtHome g w.first) durable_in common_in 1 m 2 w u y f) (goes_left 0 k a b None u t left));
        own = ap (λ (z : View (Home D) Judged). z.own) left ∙ (ap (λ (z : View (Home D) Judged). z.own) f.view ∙ ap (λ (z : View (Home D) Judged). z.own) e.view);
        joined = ap (λ (z : View (Home D) Judged). z.joined) left ∙ (ap (λ (z : View (Home D) Judged). z.joined) f.view ∙ ap (λ (z : View (Home D) Judged). z.joined) e.view);
        kept = ap (λ (z : View (Home D) Judged). z.given_up) left ∙ (ap (λ (z : View (Home D) Judged). z.given_up) f.view ∙ ap (λ (z : View (Home D) Judged). z.given_up) e.view);
        sees = sees_left (IsLegal v.first) 0 k a b u t (subst (λ first. Sees (IsLegal first) u) first_is f.sees) left;
        held = ap (λ (z : View (Home D) Judged). z.held) left
            ∙ (ap (except 0) (ap (λ (z : View (Home D) Judged). z.held) f.view ∙ (λ i. hold 1 (4 * m + 2) (ap durable_in this i) ∷ holds_first i)));
        common_is = ap (λ (z : View (Home D) Judged). z.common) left ∙ (ap (λ (z : View (Home D) Judged). z.common) f.view ∙ ap common_in this);
      }

      seen_then : t.seen ≡ u.seen
      seen_then = ap (λ (z : View (Home D) Judged). z.seen) left

      -- ---- what the engine is behind the check

      module _ (new : Engine D) (taken : (s : Start D) (front more : List Judged) → MayLend g s front more c.current d.engine → HasTaken g s.desk.engine s.certifier.current front new)
          (log : new.log ≡ d.engine.log) (rises : d.engine.checkpoint.base.position ≤ new.checkpoint.base.position) where
        desk_as : (given : ℕ) (s : Start D) (first : v.first ≡ values_of s) → (given ≡ 0 → d.engine.halted ≡ None → new.halted ≡ None) → DeskAt g s given t.seen (record { engine = new; publisher = d.publisher; waiting = d.waiting })
        desk_as given s first works =
            let here = desk_at s first in
            record {
              front = here.front;
              begins = subst (λ l. StartsWith l here.front) (sym seen_then) here.begins;
              taken = taken s here.front here.begins.0 (may_lend s first);
              publisher = here.publisher;
              works = λ none. works none (here.works refl);
              ahead = let ahead = here.ahead in let still : durable_of new.log ≡ durable_of d.engine.log = ap durable_of log in omega (arith, ahead, still);
              fronts = here.fronts;
              shown = λ _. let h = here.shown refl in record { shown_or_waits = h.shown_or_waits; durable = h.durable ∙ sym (ap durable_of log); oldest = let before = h.oldest in omega (arith, before, rises) };
            }

        -- to be given up, or to go on: it works still where nothing was refused, and is the same where it was not due
        pub at_desk : (given : ℕ) → (given ≡ 0 → d.engine.halted ≡ None → new.halted ≡ None) → AtDesk g given v t (record { engine = new; publisher = d.publisher; waiting = d.waiting })
        at_desk given works = record {
          number = m;
          floor = durable_of d.engine.log;
          at = subst (AtEngine v t m (durable_of d.engine.log)) same_common at_engine;
          low = let still : durable_of new.log ≡ durable_of d.engine.log = ap durable_of log in omega (arith, still);
          desk = λ s first. desk_as given s first works;
        }
          where
            same_common : durable_of d.engine.log + length d.engine.block ≡ durable_of new.log + length new.block
            same_common =
                let here = desk_at seat.start seat.first in
                let now : HasTaken g seat.start.desk.engine seat.start.certifier.current here.front new = taken seat.start here.front here.begins.0 (may_lend seat.start seat.first) in
                let before = here.taken.count in let after = now.count in omega (arith, before, after)
