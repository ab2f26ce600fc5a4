-- A step that changes one station's word keeps the rule.
use Rattle.std.proofs.Common.{◌≡◌, ◌≢◌, ℕ, ◌+◌, ◌/◌, ◌^◌, ◌<◌, ◌≤◌, min, ◌⊎◌, Option, List, [], ◌++◌, length, set, ⊎_elim, sym, ap, ◌∙◌, subst, arith, length-append, length-set}
use Rattle.std.proofs.lemmas.List.{append-nil}
use mathlib.Core.Option as maybe
use mathlib.Core.Option.{some}
use mathlib.Core.Logic.{dite}
use native.Mathlib.Decide.{ℕ_discrete}
use lib.ListN.{get_elem?}
use Rattle.atomic_table.proofs.Lists.{at_set, set_else}
use Rattle.rep_ordered.specs.declared.view.GivenUp.{GivenUp}
use Rattle.rep_ordered.specs.declared.view.Hold.{Hold}
use Rattle.rep_ordered.specs.declared.view.Mind.{Mind}
use Rattle.rep_ordered.specs.declared.rule.Opening.{Opening}
use Rattle.rep_ordered.specs.Counts.{total, times, once_below, busy, gave}
use Rattle.rep_ordered.specs.Views.{Every, held_at, names, on}
use Rattle.rep_ordered.specs.Rule.{Figures, Gone, Knows, Known, Home, Station, Kept}
use Rattle.rep_ordered.proofs.Shapes.{Moment, Homes}
use Rattle.rep_ordered.proofs.Sums.{total_at, total_two, every_away, every_map}
use Rattle.rep_ordered.proofs.Owning.{longer, placed_else}
use Rattle.rep_ordered.proofs.Keeping.{one_holder, rebuilt}

module _ {E : Type 0} where
  pub nothing_more : (history more : List E) → more ≡ [] → history ++ more ≡ history
  nothing_more history more none = ap (λ l. history ++ l) none ∙ append-nil history

  -- the figures after the station j was left: the history has more entries, and the numbers that values name may be higher
  abbrev pub after : Figures E → List E → ℕ → ℕ → Figures E
  after f more backed common = record f { history = f.history ++ more; backed = backed; common = common }

-- what was given up stays so, where another station's word and slot change
pub gone_on : {V : Type 0} (words : List ℕ) (homes homes' : List (maybe.Option (Option V))) (j x y : ℕ) (gs : List (GivenUp V)) → get_elem? words (j + 2) ≡ some x → gave x ≡ 0 → ((i : ℕ) → i ≢ j → get_elem? homes' i ≡ get_elem? homes i)
    → Every (Gone words homes) gs → Every (Gone (set words (j + 2) y) homes') gs
gone_on {V} words homes homes' j x y gs was here same all = every_map _ _ gs
    (λ (g : GivenUp V) o. let apart : g.station ≢ j = (λ (e : g.station ≡ j). let w : o.word ≡ x = maybe.some-injective o.word x (sym o.there ∙ (ap (λ (n : ℕ). get_elem? words (n + 2)) e ∙ was)) in let a = o.gone in let b : gave o.word ≡ gave x = ap gave w in absurd (omega arith)) in
    record { word = o.word; there = set_else words (j + 2) (g.station + 2) y (λ e. apart (omega arith)) ∙ o.there; gone = o.gone; home = same g.station apart ∙ o.home }) all

module _ {V E : Type 0} where
  -- what another seat knows stays so
  pub others_know : (k : Opening V) (f : Figures E) (j x y : ℕ) (more : List E) (backed common : ℕ) (words : List ℕ) (homes homes' : List (maybe.Option (Option V))) (v : Mind V E) → get_elem? words (j + 2) ≡ some x → gave x ≡ 0 → ((i : ℕ) → i ≢ j → get_elem? homes' i ≡ get_elem? homes i) → x / 4 ≤ y / 4
      → (j ≢ 0 → more ≡ []) → f.backed ≤ backed → (j ≢ 1 → backed ≡ f.backed) → f.common ≤ common → (0 < held_at 1 v.view.held + held_at 2 v.view.held → common ≡ f.common)
      → (0 < length more → (k.start + length f.history ≡ x / 4) × (length more ≡ 1) × (times (x / 4) v.view.own ≡ 0))
      → on j v ≡ 0 → Knows k f words homes v → Knows k (after f more backed common) (set words (j + 2) y) homes' v
  others_know k f j x y more backed common words homes homes' v was here same_homes up kept risen same raised alike not_mine apart known = let b = known.below in let n = known.named in record {
    starts = known.starts;
    wholes = known.wholes;
    firsts = known.firsts;
    begins = longer f.history more v.view.seen known.begins;
    told = longer f.history more v.told known.told;
    lasts = known.lasts;
    stops = known.stops;
    stays = known.stays;
    below = omega arith;
    named = omega arith;
    exact = λ holds. let a = known.exact holds in let c = alike holds in omega arith;
    reached = λ i w e. ⊎_elim
        (λ (t : (i + 2 ≡ j + 2) × (y ≡ w)). let o = known.reached i x (ap (get_elem? words) t.0 ∙ was) in let is = t.1 in omega arith)
        (λ (t : (i + 2 ≢ j + 2) × (get_elem? words (i + 2) ≡ some w)). known.reached i w t.1) (at_set words (j + 2) (i + 2) y w e);
    holds = every_away _ _ j v.view.held apart
        (λ (h : Hold) away r. record {
          word = set_else words (j + 2) (h.station + 2) y (λ e. away (omega arith)) ∙ r.word;
          taken = r.taken;
          floor = λ one. let o = r.floor one in let e = same (λ is. away (one ∙ sym is)) in omega arith;
          drawn = r.drawn;
          whole = λ none. r.whole none ∙ sym (nothing_more f.history more (kept (λ is. away (none ∙ sym is))));
        }) known.holds;
    lives = known.lives;
    gone = gone_on words homes homes' j x y v.view.given_up was here same_homes known.gone;
    placed = placed_else k.start (x / 4) f.history more v.view.own v.view.joined not_mine known.placed;
    idle = known.idle;
  }

module _ {V E : Type 0} (law : List E → Type 0) (at_home : ℕ → ℕ → ℕ → List E → ℕ → V → Type 0) (durable_of common_of : V → ℕ) where
  -- the number that stations 1 and 2 name is another only if the seat holds both: so it stays the same for another seat that holds one
  alike_for : (k : Opening V) (s : Moment V E) (r : Kept law at_home durable_of common_of k s) (id : ℕ) (v : Mind V E) (i : ℕ) (d : Mind V E) (common : ℕ) → get_elem? s.views id ≡ some v → i ≢ id → get_elem? s.views i ≡ some d
      → (common ≡ r.figures.common) ⊎ ((0 < on 1 v) × (0 < on 2 v)) → 0 < held_at 1 d.view.held + held_at 2 d.view.held → common ≡ r.figures.common
  alike_for k s r id v i d common at apart there named holds = ⊎_elim
      (λ (e : common ≡ r.figures.common). e)
      (λ (t : (0 < on 1 v) × (0 < on 2 v)). let first = one_holder law at_home durable_of common_of k s r id v at 1 t.0 in let second = one_holder law at_home durable_of common_of k s r id v at 2 t.1 in
      let p = total_two (on 1) s.views id i v d (λ e. apart (sym e)) at there in let q = total_two (on 2) s.views id i v d (λ e. apart (sym e)) at there in let a = t.0 in let b = t.1 in absurd (omega arith))
      named

  -- the same for the value at home in station 1 or 2
  alike_home : (k : Opening V) (s : Moment V E) (id : ℕ) (v : Mind V E) (i : ℕ) (f : Figures E) (common : ℕ) → get_elem? s.views id ≡ some v → total (on i) s.views ≡ 0
      → (common ≡ f.common) ⊎ ((0 < on 1 v) × (0 < on 2 v)) → 0 < names i → common ≡ f.common
  alike_home k s id v i f common at none_inside named some_name = ⊎_elim
      (λ (e : common ≡ f.common). e)
      (λ (t : (0 < on 1 v) × (0 < on 2 v)). let a = t.0 in let b = t.1 in let mine = total_at (on i) s.views id v at in dite (ℕ_discrete i 1)
      (λ e. let h : on i v ≡ on 1 v = ap (λ (z : ℕ). on z v) e in absurd (omega arith))
      (λ ne. let two : i ≡ 2 = omega arith in let h : on i v ≡ on 2 v = ap (λ (z : ℕ). on z v) two in absurd (omega arith)))
      named

  module _ (grows : (station number given durable later : ℕ) (history more : List E) (x : V) → at_home station number given history durable x → durable ≤ later → at_home station number given (history ++ more) later x) where
    -- the word of the station j goes from x to y, and its slot may be taken or given back
    pub moved : (k : Opening V) (s : Moment V E) (r : Kept law at_home durable_of common_of k s) (id : ℕ) (v w : Mind V E) (j x y : ℕ) (more : List E) (backed common : ℕ) (homes' : Homes V) → get_elem? s.views id ≡ some v
        → get_elem? s.words (j + 2) ≡ some x → gave x ≡ 0 → x / 4 ≤ y / 4 → y / 4 ≤ r.figures.next
        → (j ≡ 0 → length more + x / 4 ≡ y / 4) → (j ≢ 0 → more ≡ []) → (0 < length more → (length more ≡ 1) × (0 < times (x / 4) v.view.own))
        → law (r.figures.history ++ more)
        → r.figures.backed ≤ backed → (j ≢ 1 → backed ≡ r.figures.backed)
        → min backed (2 ^ 60) ≤ common
        → r.figures.common ≤ common → (common ≡ r.figures.common) ⊎ ((0 < on 1 v) × (0 < on 2 v))
        → ((i : ℕ) → i ≢ j → get_elem? homes' i ≡ get_elem? s.homes i) → length homes' ≡ length s.homes
        → w.view.allowance ≡ v.view.allowance → w.view.own ≡ v.view.own → ((i : ℕ) → i ≢ j → on i w ≡ on i v)
        → total (on j) s.views ≡ on j v → on j w ≡ busy y
        → gave y ≤ r.figures.stop → v.view.halted ≤ w.view.halted
        → (busy y ≡ 0 → Home law at_home durable_of common_of (after r.figures more backed common) homes' j (y / 4) (gave y))
        → Knows k (after r.figures more backed common) (set s.words (j + 2) y) homes' w
        → Known k (after r.figures more backed common) (set s.views id w)
        → Kept law at_home durable_of common_of k record { words = set s.words (j + 2) y; homes = homes'; views = set s.views id w }
    moved k s r id v w j x y more backed common homes' at was not_gone up within counted_more kept joins lawful risen same covers raised named homes_same slots allowed own on_same alone mine_now gone halted home mine known =
        let f : Figures E = r.figures in let sp = r.spelled in let here = r.each_station j x was in
        let own_length : length w.view.own ≡ length v.view.own = ap length own in
        let none_at : j ≢ 0 → length more ≡ 0 = (λ nz. ap length (kept nz)) in
        let short_more : k.start + length (f.history ++ more) ≤ f.next = dite (ℕ_discrete j 0)
        (λ z. let a = here.counted z in let b = counted_more z in omega (arith, length-append f.history more))
        (λ nz. let b = none_at nz in let c = sp.short in omega (arith, length-append f.history more)) in
        rebuilt law at_home durable_of common_of k s r id v w (set s.words (j + 2) y) homes' (after f more backed common) at
        record {
          wide = length-set s.words (j + 2) y ∙ (sp.wide ∙ ap (λ (z : ℕ). z + 2) (sym slots));
          next_is = set_else s.words (j + 2) 0 y (λ e. omega arith) ∙ sp.next_is;
          durable_is = set_else s.words (j + 2) 1 y (λ e. omega arith) ∙ sp.durable_is;
          low = sp.low;
          stop_bit = sp.stop_bit;
          backed_up = let a = sp.backed_up in omega arith;
          covered = covers;
          short = short_more;
          small = sp.small;
        }
        (ap (λ (z : ℕ). f.next + z) allowed) (ap (λ (z : ℕ). f.next + z) (sym own_length)) (λ z. ap (λ (l : List ℕ). times z l + once_below z f.next) own)
        (λ i z c e t. ⊎_elim
        (λ (q : (i + 2 ≡ j + 2) × (y ≡ z)). let is : i ≡ j = (let a = q.0 in omega arith) in
        subst (λ (n : ℕ). Station law at_home durable_of common_of k (after f more backed common) homes' c n z) (sym is)
        (subst (λ (n : ℕ). Station law at_home durable_of common_of k (after f more backed common) homes' c j n) q.1 (let u : c + on j v ≡ total (on j) s.views + on j w = subst (λ (n : ℕ). c + on n v ≡ total (on n) s.views + on n w) is t in let b = here.begun in record {
          begun = omega arith;
          within = within;
          counts = omega arith;
          counted = λ none. let a = here.counted none in let d = counted_more none in omega (arith, length-append f.history more);
          gone = gone;
          home = home;
        })))
        (λ (q : (i + 2 ≢ j + 2) × (get_elem? s.words (i + 2) ≡ some z)). let apart : i ≢ j = (λ is. q.0 (ap (λ (n : ℕ). n + 2) is)) in let o = r.each_station i z q.1 in let n = on_same i apart in let b = o.counts in record {
          begun = o.begun;
          within = o.within;
          counts = omega arith;
          counted = λ none. let l = none_at (λ is. apart (none ∙ sym is)) in let d = o.counted none in omega (arith, length-append f.history more);
          gone = o.gone;
          home = λ free. let h = o.home free in record {
            value = h.value;
            there = homes_same i apart ∙ h.there;
            keeps = grows i (z / 4) _ f.durable f.durable f.history more h.value h.keeps (omega arith);
            backed = λ one. let a = h.backed one in let e = same (λ is. apart (one ∙ sym is)) in omega arith;
            covers = h.covers;
            common = λ some_name. let a = h.common some_name in let e = alike_home k s id v i f common at (omega arith) named some_name in omega arith;
          };
        })
        (at_set s.words (j + 2) (i + 2) y z e))
        mine
        (λ i d apart e. let two = total_two (on j) s.views id i v d (λ is. apart (sym is)) at e in
        others_know k f j x y more backed common s.words s.homes homes' d was not_gone homes_same up kept risen same raised (alike_for k s r id v i d common at apart e named)
        (λ some_more. let t = joins some_more in let long = t.0 in let mine_is = t.1 in let first : j ≡ 0 = (dite (ℕ_discrete j 0) (λ z. z) (λ nz. let l = none_at nz in absurd (omega arith))) in let a = here.counted first in
        let dealt = r.dealt in let once = dealt.drawn (x / 4) in let pair = total_two (λ (u : Mind V E). times (x / 4) u.view.own) s.views id i v d (λ is. apart (sym is)) at e in (omega arith, long, omega arith))
        (omega arith) (r.each_seat i d e))
        known
        lawful
        (omega arith)
