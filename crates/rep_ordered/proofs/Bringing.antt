-- The step by which a seat brings the slot of a station that it holds in front of the others that it carries.
use Rattle.std.proofs.Common.{◌≡◌, ◌≢◌, ℕ, ◌+◌, ◌-◌, ◌<◌, ◌≤◌, Option, None, List, [], ◌∷◌, map, length, set, if◌then◌else◌, sym, refl, ap, ◌∙◌, subst, arith, length-set, eq-eqb, ne_eqb}
use mathlib.Core.Option as maybe
use mathlib.Core.Option.{some, none}
use mathlib.Core.Logic.{dite}
use native.Mathlib.Decide.{ℕ_discrete}
use lib.ListN.{get_elem?}
use lib.Seq.{set-get_or}
use Rattle.atomic_table.specs.Table.{Act, step, keeps, takes, gives, chain, carried_after, homes_after, Valid, Allows}
use Rattle.atomic_table.proofs.Lists.{set_here, set_else, set_again}
use Rattle.rep_ordered.specs.declared.view.GivenUp.{GivenUp}
use Rattle.rep_ordered.specs.declared.view.Hold.{Hold}
use Rattle.rep_ordered.specs.declared.view.Mind.{Mind}
use Rattle.rep_ordered.specs.declared.rule.Opening.{Opening}
use Rattle.rep_ordered.specs.Counts.{total, busy}
use Rattle.rep_ordered.specs.Views.{Every, held_at, except, on}
use Rattle.rep_ordered.specs.Rule.{Figures, Spelled, Station, Kept}
use Rattle.rep_ordered.specs.Seats.{empty_slot}
use Rattle.rep_ordered.specs.Steps.{brought}
use Rattle.rep_ordered.proofs.Shapes.{Moment, Mine, Homes}
use Rattle.rep_ordered.proofs.Sums.{total_at, every_at, every_map}
use Rattle.rep_ordered.proofs.Keeping.{held_once}

module _ (V : Type 0) where
  abbrev Slots : Type 0
  Slots = List (ℕ × Option V)

  abbrev slots_of : List Hold → Slots
  slots_of held = map empty_slot held

  front_after : (j : ℕ) (h : Hold) (hs : List Hold) → j ≢ h.station → slots_of (except j (h ∷ hs)) ≡ empty_slot h ∷ slots_of (except j hs)
  front_after j h hs other = subst (λ b. slots_of (if b then hs else h ∷ except j hs) ≡ empty_slot h ∷ slots_of (except j hs)) (sym (ne_eqb j h.station other)) refl

  front_same : (j : ℕ) (h : Hold) (hs : List Hold) → j ≡ h.station → slots_of (h ∷ hs) ≡ (j, None) ∷ slots_of (except j (h ∷ hs))
  front_same j h hs same = subst (λ b. slots_of (h ∷ hs) ≡ (j, None) ∷ slots_of (if b then hs else h ∷ except j hs)) (sym (eq-eqb j h.station same)) (λ k. (sym same k, None) ∷ slots_of hs)

  -- the slot i, which is at home, is taken behind the first one, which is that of j
  abbrev taking : ℕ → ℕ → Act (Option V)
  taking i j = chain gives (chain (takes i None) (takes j None))

  -- an act that makes the slots that a seat carries into others, and moves none but those of the stations held
  record Carries (homes : Homes V) (before after : Slots) (held : List Hold) : Type 0 where
    act : Act (Option V)
    valid : Valid homes before act
    carried : carried_after before act ≡ after
    long : length (homes_after homes before act) ≡ length homes
    others : (i : ℕ) → held_at i held ≡ 0 → get_elem? (homes_after homes before act) i ≡ get_elem? homes i

  taken_behind : (i j : ℕ) (homes : Homes V) (more carried : Slots) → carried ≡ (j, None) ∷ more → i ≢ j → get_elem? homes i ≡ some (some None) → j < length homes
      → Valid homes carried (taking i j) × (carried_after carried (taking i j) ≡ (j, None) ∷ (i, None) ∷ more) × (length (homes_after homes carried (taking i j)) ≡ length homes)
      × ((m : ℕ) → m ≢ i → m ≢ j → get_elem? (homes_after homes carried (taking i j)) m ≡ get_elem? homes m)
  taken_behind i j homes more carried is apart there inside = subst (λ (c : Slots). Valid homes c (taking i j) × (carried_after c (taking i j) ≡ (j, None) ∷ (i, None) ∷ more) × (length (homes_after homes c (taking i j)) ≡ length homes)
      × ((m : ℕ) → m ≢ i → m ≢ j → get_elem? (homes_after homes c (taking i j)) m ≡ get_elem? homes m)) (sym is)
      (let first : Homes V = set homes j (some None) in let second : Homes V = set first i none in (
        (tt, (set_else homes j i (some None) apart ∙ there, set_else first i j none (λ e. apart (sym e)) ∙ set_here homes j (some None) inside)),
        refl,
        length-set second j none ∙ (length-set first i none ∙ length-set homes j (some None)),
        (λ m not_i not_j. set_else second j m none not_j ∙ (set_else first i m none not_i ∙ set_else homes j m (some None) not_j)),
      ))

  -- with one slot more in front: it goes home, and is taken again behind the slot of j
  carries_more : (j : ℕ) (h : Hold) (hs : List Hold) (homes : Homes V) → j ≢ h.station → h.station < length homes → j < length homes → held_at h.station hs ≡ 0 → 0 < held_at j hs
      → Carries (set homes h.station (some None)) (slots_of hs) ((j, None) ∷ slots_of (except j hs)) hs → Carries homes (slots_of (h ∷ hs)) ((j, None) ∷ slots_of (except j (h ∷ hs))) (h ∷ hs)
  carries_more j h hs homes other inside j_inside alone some_hold t = let i : ℕ = h.station in let first : Homes V = set homes i (some None) in let second : Homes V = homes_after first (slots_of hs) t.act in
      let long_first : length first ≡ length homes = length-set homes i (some None) in let long = t.long in let there : get_elem? second i ≡ some (some None) = t.others i alone ∙ set_here homes i (some None) inside in
      let u = taken_behind i j second (slots_of (except j hs)) (carried_after (slots_of hs) t.act) t.carried (λ e. other (sym e)) there (omega arith) in record {
        act = chain gives (chain t.act (taking i j));
        valid = (tt, (t.valid, u.0));
        carried = u.1 ∙ ap (λ l. (j, None) ∷ l) (sym (front_after j h hs other));
        long = u.2 ∙ (long ∙ long_first);
        others = λ m none_held. let before : get_elem? second m ≡ get_elem? homes m = t.others m (omega arith) ∙ set_else homes i m (some None) (λ e. omega arith) in
            u.3 m (λ e. omega arith) (λ e. let a : held_at m hs ≡ held_at j hs = ap (λ (n : ℕ). held_at n hs) e in omega arith) ∙ before;
      }

  -- the slot of the station j is brought to the front
  carries_first : (j : ℕ) (held : List Hold) (homes : Homes V) → 0 < held_at j held → ((i : ℕ) → held_at i held ≤ 1) → Every (λ (h : Hold). h.station < length homes) held
      → Carries homes (slots_of held) ((j, None) ∷ slots_of (except j held)) held
  carries_first j [] homes some_hold once inside = absurd (omega arith)
  carries_first j (h ∷ hs) homes some_hold once inside = dite (ℕ_discrete j h.station)
      (λ same. record { act = keeps; valid = tt; carried = front_same j h hs same; long = refl; others = λ i none_held. refl })
      (λ other. let first : Homes V = set homes h.station (some None) in let long : length first ≡ length homes = length-set homes h.station (some None) in
      let behind : 0 < held_at j hs = omega arith in let inside_first : Every (λ (d : Hold). d.station < length first) hs = every_map _ _ hs (λ (d : Hold) l. omega arith) inside.1 in
      carries_more j h hs homes other inside.0 (every_at (λ (d : Hold). d.station < length homes) j hs behind inside.1) (let a = once h.station in omega arith) behind
      (carries_first j hs first behind (λ m. let a = once m in omega arith) inside_first))

module _ {V E : Type 0} (law : List E → Type 0) (at_home : ℕ → ℕ → ℕ → List E → ℕ → V → Type 0) (durable_of common_of : V → ℕ) where
  abbrev Rule : Opening V → Moment V E → Type 0
  Rule = Kept law at_home durable_of common_of

  -- a station stays as it is where its slot does, if it is free
  rehoused : {k : Opening V} {f : Figures E} {homes homes' : List (maybe.Option (Option V))} {count j w : ℕ} → Station law at_home durable_of common_of k f homes count j w
      → (busy w ≡ 0 → get_elem? homes' j ≡ get_elem? homes j) → Station law at_home durable_of common_of k f homes' count j w
  rehoused o same = record {
    begun = o.begun;
    within = o.within;
    counts = o.counts;
    counted = o.counted;
    gone = o.gone;
    home = λ free. let h = o.home free in record { value = h.value; there = same free ∙ h.there; keeps = h.keeps; backed = h.backed; covers = h.covers; common = h.common };
  }

  -- where the slots of held stations alone have moved, the rule is kept
  rehomed : (k : Opening V) (s : Moment V E) (r : Rule k s) (homes : List (maybe.Option (Option V))) → length homes ≡ length s.homes → ((i : ℕ) → total (on i) s.views ≡ 0 → get_elem? homes i ≡ get_elem? s.homes i)
      → Rule k record { words = s.words; homes = homes; views = s.views }
  rehomed k s r homes long same = record {
    figures = r.figures;
    spelled = subst (λ (slots : ℕ). Spelled k r.figures s.words slots) (sym long) r.spelled;
    dealt = r.dealt;
    each_station = λ j w e. let o = r.each_station j w e in rehoused o (λ free. same j (o.counts ∙ free));
    each_seat = λ i m at. let o = r.each_seat i m at in record {
      starts = o.starts;
      wholes = o.wholes;
      firsts = o.firsts;
      begins = o.begins;
      told = o.told;
      lasts = o.lasts;
      stops = o.stops;
      stays = o.stays;
      below = o.below;
      named = o.named;
      exact = o.exact;
      reached = o.reached;
      holds = o.holds;
      lives = o.lives;
      gone = every_map _ _ m.view.given_up (λ (g : GivenUp V) q. record { word = q.word; there = q.there; gone = q.gone; home = same g.station (let here = r.each_station g.station q.word q.there in let counts = here.counts in let gave_it = q.gone in omega arith) ∙ q.home }) o.gone;
      placed = o.placed;
      idle = o.idle;
    };
    known = r.known;
    lone = r.lone;
    lawful = r.lawful;
    stopped = r.stopped;
  }

  pub brings : (k : Opening V) (slots id : ℕ) (me : Mine V E) (j : ℕ) → me.1 ≡ map empty_slot me.0.view.held → Every (λ (h : Hold). h.station < slots) me.0.view.held → 0 < held_at j me.0.view.held
      → Allows (Rule k) slots id me (j + 2) (λ n. n) (brought (step slots (j + 2) 0 0 none) me)
  brings k slots id me j empty inside some_hold s r deep at _ = let m : Mind V E = me.0 in let held : List Hold = m.view.held in
      let t = carries_first V j held s.homes some_hold (held_once law at_home durable_of common_of k s r id m at) (every_map _ _ held (λ (h : Hold) l. omega arith) inside) in
      let kept = rehomed k s r (homes_after s.homes (map empty_slot held) t.act) t.long (λ i none_held. t.others i (let a = total_at (on i) s.views id m at in omega arith)) in
      let b : j ≡ (j + 2) - 2 = omega arith in (
        m,
        t.act,
        subst (λ (c : List (ℕ × Option V)). Valid s.homes c t.act) (sym empty) t.valid,
        subst (λ (z : List ℕ × List (ℕ × Option V) × List (Mind V E)). Rule k record { words = z.0; homes = homes_after s.homes z.1 t.act; views = z.2 })
            (λ i. (sym (set-get_or s.words (j + 2) 0) i, sym empty i, sym (set_again s.views id m at) i)) kept,
        (refl, subst (λ (c : List (ℕ × Option V)). carried_after c t.act ≡ ((j + 2) - 2, None) ∷ map empty_slot (except ((j + 2) - 2) held)) (sym empty) (t.carried ∙ ap (λ (n : ℕ). (n, None) ∷ map empty_slot (except n held)) b)),
      )
