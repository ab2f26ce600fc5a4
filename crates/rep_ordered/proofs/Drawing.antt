-- The steps on the first two words, and loads.
use Rattle.std.proofs.Common.{◌≡◌, ◌-◌, ℕ, ◌+◌, ◌*◌, ◌/◌, ◌%◌, ◌^◌, ◌<◌, ◌≤◌, max, Option, List, [], ◌∷◌, ◌++◌, length, get_or, set, bit_or, sym, refl, ap, ◌∙◌, subst, arith, length-append, length-set}
use Rattle.std.proofs.lemmas.List.{append-nil}
use mathlib.Core.Option.{some, none}
use mathlib.Core.Logic.{dite}
use native.Mathlib.Decide.{ℕ_discrete}
use lib.ListN.{get_elem?}
use lib.Seq.{set-get_or}
use lib.Bits.{or_block, or_comm}
use Rattle.atomic_table.specs.Table.{State, Me, step, keeps, carried_after, Allows}
use Rattle.atomic_table.proofs.Lists.{set_here, set_else}
use Rattle.rep_ordered.specs.declared.view.Hold.{Hold}
use Rattle.rep_ordered.specs.declared.view.Mind.{Mind}
use Rattle.rep_ordered.specs.declared.view.View.{View}
use Rattle.rep_ordered.specs.declared.rule.Opening.{Opening}
use Rattle.rep_ordered.specs.Counts.{one, times}
use Rattle.rep_ordered.specs.Views.{StartsWith, allowance_of, drew, with_number, knowing, untold, Lives}
use Rattle.rep_ordered.specs.Rule.{Figures, Spelled, Knows, Kept, first_of}
use Rattle.rep_ordered.specs.Steps.{Learns, claimed, looked, fronted, raised, stopped}
use Rattle.rep_ordered.proofs.Shapes.{Moment, Mine}
use Rattle.rep_ordered.proofs.Sums.{total_at, total_snoc, every_map, get_or_is, below_length}
use Rattle.rep_ordered.proofs.Owning.{placed_drawn}
use Rattle.rep_ordered.proofs.Keeping.{seen_whole, knows_me, knows_numbers, knows_still, knows_on, quiet, knows_whole, knows_halt}

pub halted_word : (durable stop : ℕ) → durable < 2 ^ 63 → stop ≤ 1 → bit_or (durable + 2 ^ 63 * stop) (2 ^ 63) ≡ durable + 2 ^ 63 * 1
halted_word durable stop low bit =
    let spelled : durable + 2 ^ 63 * stop ≡ stop * 2 ^ 63 + durable = omega arith in
    let high : bit_or stop 1 ≡ 1 = dite (ℕ_discrete stop 0) (λ e. ap (λ (z : ℕ). bit_or z 1) e) (λ ne. let e : stop ≡ 1 = omega arith in ap (λ (z : ℕ). bit_or z 1) e) in
    let block = or_block 63 stop 1 durable 0 low (omega arith) in
    let none : bit_or durable 0 ≡ durable = or_comm durable 0 in
    ap (λ (z : ℕ). bit_or z (2 ^ 63)) spelled ∙ (block ∙ ((λ i. high i * 2 ^ 63 + none i) ∙ omega arith))

pub shorter : {A : Type 0} (xs front : List A) → StartsWith xs front → length front ≤ length xs
shorter xs front h = let e : length xs ≡ length (front ++ h.0) = ap length h.1 in omega (arith, length-append front h.0)

module _ {V E : Type 0} (law : List E → Type 0) (at_home : ℕ → ℕ → ℕ → List E → ℕ → V → Type 0) (durable_of common_of : V → ℕ) (grows : (station number given durable later : ℕ) (history more : List E) (x : V) → at_home station number given history durable x → durable ≤ later → at_home station number given (history ++ more) later x) where
  abbrev Rule : Opening V → Moment V E → Type 0
  Rule = Kept law at_home durable_of common_of

  once_each : (k : Opening V) (s : Moment V E) (r : Rule k s) (id : ℕ) (v : Mind V E) → get_elem? s.views id ≡ some v → (x : ℕ) → times x v.view.own ≤ 1
  once_each k s r id v at x = let d = r.dealt in let a = total_at (drew x) s.views id v at in let e = d.drawn x in omega arith

  pub claims : (k : Opening V) (slots id : ℕ) (me : Mine V E) → 0 < me.0.view.allowance → Allows (Rule k) slots id me 0 (λ n. (n + 1) % 2 ^ 64) (claimed (step slots 0 1 0 none) me)
  claims k slots id me room s r _ at _ = let f : Figures E = r.figures in let sp = r.spelled in let d = r.dealt in let m : Mind V E = me.0 in let v : View V E = m.view in let n : ℕ = get_or s.words 0 0 in
      let is : n ≡ f.next = get_or_is s.words 0 f.next sp.next_is in let known = r.each_seat id m at in
      let left = total_at allowance_of s.views id m at in let tickets = d.tickets in let small = sp.small in
      let below : f.next ≤ 2 ^ 60 = omega arith in
      let y : ℕ = (n + 1) % 2 ^ 64 in let up : y ≡ f.next + 1 = omega arith in
      let w : View V E = with_number n v in let m' : Mind V E = record m { view = w } in let wide = sp.wide in let short = sp.short in
      let counted : length (v.own ++ n ∷ []) ≡ length v.own + 1 = omega (arith, length-append v.own (n ∷ [])) in
      let words' : List ℕ = set s.words 0 y in let f' : Figures E = record f { next = f.next + 1; durable = f.durable; stop = f.stop } in
      let same : (j : ℕ) → get_elem? words' (j + 2) ≡ get_elem? s.words (j + 2) = (λ j. set_else s.words 0 (j + 2) y (λ e. omega arith)) in
      let still : Knows k f' words' s.homes m = knows_on k f (f.next + 1) f.durable f.stop s.words words' s.homes m (omega arith) (omega arith) (λ _. omega arith) same known in (
        m',
        keeps,
        tt,
        quiet law at_home durable_of common_of grows k s r id m m' words' (f.next + 1) f.durable f.stop at (omega arith) (omega arith) (omega arith) (λ _. omega arith) same
            record {
              wide = length-set s.words 0 y ∙ wide;
              next_is = set_here s.words 0 y (omega arith) ∙ ap some up;
              durable_is = set_else s.words 0 1 y (λ e. omega arith) ∙ sp.durable_is;
              low = sp.low;
              stop_bit = sp.stop_bit;
              backed_up = sp.backed_up;
              covered = sp.covered;
              short = omega arith;
              small = sp.small;
            }
            (omega arith) (omega arith) (λ x. let e = total_snoc (one x) v.own n in omega arith) refl
            (knows_numbers words' s.homes m (v.allowance - 1) (v.own ++ n ∷ []) (record {
              holds = every_map _ _ v.held (λ (h : Hold) o. record { word = o.word; taken = o.taken; floor = o.floor; drawn = λ ticket. let a = o.drawn ticket in let e = total_snoc (one (h.word / 4)) v.own n in omega arith; whole = o.whole }) still.holds;
              lives = λ _ _. omega arith;
              placed = placed_drawn k.start n f.history v.own v.joined (omega arith) still.placed;
              idle = λ _ none_left. absurd (omega arith);
            }) still)
            (knows_still k f f' s.views id m m' at refl (omega arith) (omega arith) (omega arith) r.known)
            (omega arith),
        (
          record {
            view = refl;
            limit = omega arith;
            later = let a = known.starts in let b = shorter f.history v.seen known.begins in omega arith;
            fresh = let a = total_at (drew n) s.views id m at in let e = d.drawn n in omega arith;
          },
          (refl, refl),
        ),
      )

  -- a step after which the seat knows the history and the durable number as they are now, and perhaps of a halt
  learning : (k : Opening V) (s : Moment V E) (r : Rule k s) (id : ℕ) (m : Mind V E) (words' : List ℕ) (durable stop halted : ℕ) → get_elem? s.views id ≡ some m → r.figures.durable ≤ durable → r.figures.stop ≤ stop → (0 < r.figures.stop → durable ≤ r.figures.durable)
      → ((j : ℕ) → get_elem? words' (j + 2) ≡ get_elem? s.words (j + 2)) → Spelled k (record r.figures { next = r.figures.next; durable = durable; stop = stop }) words' (length s.homes) → Lives m.view
      → m.view.halted ≤ halted → halted ≤ stop → stop + m.view.halted ≤ r.figures.stop + halted
      → Rule k record { words = words'; homes = s.homes; views = set s.views id (untold (knowing r.figures.history durable halted m.view)) } × Learns law m.told m.view (knowing r.figures.history durable halted m.view)
  learning k s r id m words' durable stop halted at up halts over same spelled lives more less some_know = let f : Figures E = r.figures in let v : View V E = m.view in let known = r.each_seat id m at in let w : View V E = knowing f.history durable halted v in
      let f' : Figures E = record f { next = f.next; durable = durable; stop = stop } in
      let still : Knows k f' words' s.homes m = knows_on k f f.next durable stop s.words words' s.homes m up halts over same known in let a = known.lasts in let b = known.stops in let whole = known.wholes in (
        quiet law at_home durable_of common_of grows k s r id m (untold w) words' f.next durable stop at (omega arith) up halts over same spelled refl refl (λ x. refl) refl
            record {
              starts = still.starts;
              wholes = still.wholes;
              firsts = still.firsts;
              begins = ([], sym (append-nil f.history));
              told = (f.history, refl);
              lasts = omega arith;
              stops = less;
              stays = λ _. omega arith;
              below = still.below;
              named = still.named;
              exact = still.exact;
              reached = still.reached;
              holds = every_map _ _ v.held (λ (h : Hold) o. record { word = o.word; taken = o.taken; floor = o.floor; drawn = o.drawn; whole = λ _. refl }) still.holds;
              lives = still.lives;
              gone = still.gone;
              placed = still.placed;
              idle = λ some none_left. let l = lives (omega arith) in absurd (omega arith);
            }
            (knows_me k f' s.views id (untold w) (below_length s.views id m at) (λ some. lives (omega arith)) refl)
            some_know,
        record {
          same = refl;
          seen = known.begins;
          told = known.told;
          sees = record { legal = r.lawful; placed = subst (λ (n : ℕ). Rattle.rep_ordered.specs.Views.Placed n f.history v.own v.joined) (sym known.starts) known.placed };
          still = λ some_hold. sym (seen_whole f s.words v.own v.seen v.held known.holds some_hold);
          durable = omega arith;
          halted = more;
          stays = λ halted. let c = known.stays halted in let d = over (omega arith) in omega arith;
          once = once_each k s r id m at;
          within = let d = r.dealt in let tickets = d.tickets in let many = d.many in let left = total_at allowance_of s.views id m at in omega arith;
          inside = every_map _ _ v.held (λ (h : Hold) o. known.reached h.station h.word o.word) known.holds;
        },
      )

  loads_by : (k : Opening V) (slots id : ℕ) (me : Mine V E) (i : ℕ) → Lives me.0.view → Allows (Rule k) slots id me i (λ n. n) (looked law (step slots i 0 0 none) me)
  loads_by k slots id me i lives s r _ at _ = let f : Figures E = r.figures in let m' : Mind V E = untold (knowing f.history f.durable me.0.view.halted me.0.view) in let known = r.each_seat id me.0 at in
      let t = learning k s r id me.0 s.words f.durable f.stop me.0.view.halted at (omega arith) (omega arith) (λ _. omega arith) (λ j. refl) r.spelled lives (omega arith) known.stops (omega arith) in
      (m', keeps, tt, subst (λ (ws : List ℕ). Rule k record { words = ws; homes = s.homes; views = set s.views id m' }) (sym (set-get_or s.words i 0)) t.0, ((t.1, (refl, refl)), refl))

  fronts_by : (k : Opening V) (slots id : ℕ) (me : Mine V E) → Lives me.0.view → Allows (Rule k) slots id me 1 (λ n. n) (fronted law (step slots 1 0 0 none) me)
  fronts_by k slots id me lives s r deep at little = let f : Figures E = r.figures in let sp = r.spelled in let m' : Mind V E = untold (knowing f.history f.durable f.stop me.0.view) in
      let known = r.each_seat id me.0 at in let knew = known.stops in let t = learning k s r id me.0 s.words f.durable f.stop f.stop at (omega arith) (omega arith) (λ _. omega arith) (λ j. refl) sp lives knew (omega arith) (omega arith) in
      let n : ℕ = get_or s.words 1 0 in let is : n ≡ f.durable + 2 ^ 63 * f.stop = get_or_is s.words 1 _ sp.durable_is in let low = sp.low in let bit = sp.stop_bit in (
        m',
        keeps,
        tt,
        subst (λ (ws : List ℕ). Rule k record { words = ws; homes = s.homes; views = set s.views id m' }) (sym (set-get_or s.words 1 0)) t.0,
        ((t.1, (refl, refl)), record { durable = omega arith; halted = omega arith; low = low; stop_bit = bit }, (λ told_none all. (knows_halt law at_home durable_of common_of k s r id me.0 at all, knows_whole law at_home durable_of common_of k s r id me.0 at all told_none))),
      )

  -- the second word is set
  front_set : (k : Opening V) (s : Moment V E) (r : Rule k s) (id : ℕ) (m : Mind V E) (y durable stop : ℕ) → get_elem? s.views id ≡ some m → r.figures.durable ≤ durable → r.figures.stop ≤ stop → (0 < r.figures.stop → durable ≤ r.figures.durable)
      → y ≡ durable + 2 ^ 63 * stop → durable ≤ 2 ^ 60 → stop ≤ 1 → durable ≤ r.figures.backed → Lives m.view
      → Rule k record { words = set s.words 1 y; homes = s.homes; views = set s.views id (untold (knowing r.figures.history durable stop m.view)) } × Learns law m.told m.view (knowing r.figures.history durable stop m.view)
  front_set k s r id m y durable stop at up halts over is low bit risen lives = let sp = r.spelled in let wide = sp.wide in let known = r.each_seat id m at in let knew = known.stops in
      learning k s r id m (set s.words 1 y) durable stop stop at up halts over (λ j. set_else s.words 1 (j + 2) y (λ e. omega arith)) record {
        wide = length-set s.words 1 y ∙ wide;
        next_is = set_else s.words 1 0 y (λ e. omega arith) ∙ sp.next_is;
        durable_is = set_here s.words 1 y (omega arith) ∙ ap some is;
        low = low;
        stop_bit = bit;
        backed_up = risen;
        covered = sp.covered;
        short = sp.short;
        small = sp.small;
      } lives (omega arith) (omega arith) (omega arith)

  raises_by : (k : Opening V) (slots id : ℕ) (me : Mine V E) (a : ℕ) → a ≤ 2 ^ 60 → a ≤ me.0.view.backed → Lives me.0.view → Allows (Rule k) slots id me 1 (λ n. max n a) (raised law (step slots 1 a 0 none) me)
  raises_by k slots id me a low saw lives s r _ at _ = let f : Figures E = r.figures in let sp = r.spelled in let v : View V E = me.0.view in let known = r.each_seat id me.0 at in let below = known.below in
      let n : ℕ = get_or s.words 1 0 in let is : n ≡ f.durable + 2 ^ 63 * f.stop = get_or_is s.words 1 _ sp.durable_is in let under = sp.low in let bit = sp.stop_bit in let backed = sp.backed_up in
      dite (ℕ_discrete f.stop 0)
      (λ run. let b : ℕ = max f.durable a in let t = front_set k s r id me.0 (max n a) b 0 at (omega arith) (omega arith) (λ stop. absurd (omega arith)) (omega arith) (omega arith) (omega arith) (omega arith) lives in
      (untold (knowing f.history b 0 v), keeps, tt, t.0, ((t.1, (refl, refl)), record { durable = omega arith; halted = omega arith; stop_bit = omega arith }, (λ _. omega arith), (λ all. let h = knows_halt law at_home durable_of common_of k s r id me.0 at all in omega arith))))
      (λ stop. let t = front_set k s r id me.0 (max n a) f.durable 1 at (omega arith) (omega arith) (λ _. omega arith) (omega arith) under (omega arith) backed lives in
      (untold (knowing f.history f.durable 1 v), keeps, tt, t.0, ((t.1, (refl, refl)), record { durable = omega arith; halted = omega arith; stop_bit = omega arith }, (λ none. absurd (omega arith)), (λ all. let h = knows_halt law at_home durable_of common_of k s r id me.0 at all in omega arith))))

  halts_by : (k : Opening V) (slots id : ℕ) (me : Mine V E) (bit : ℕ) → bit ≡ 2 ^ 63 → Lives me.0.view → Allows (Rule k) slots id me 1 (λ n. bit_or n bit) (stopped law (step slots 1 bit 0 none) me)
  halts_by k slots id me top is_top lives s r _ at _ = let f : Figures E = r.figures in let sp = r.spelled in let v : View V E = me.0.view in
      let n : ℕ = get_or s.words 1 0 in let is : n ≡ f.durable + 2 ^ 63 * f.stop = get_or_is s.words 1 _ sp.durable_is in let under = sp.low in let bit = sp.stop_bit in
      let t = front_set k s r id me.0 (bit_or n top) f.durable 1 at (omega arith) bit (λ _. omega arith) ((λ i. bit_or (is i) (is_top i)) ∙ halted_word f.durable f.stop (omega arith) bit) under (omega arith) sp.backed_up lives in
      (untold (knowing f.history f.durable 1 v), keeps, tt, t.0, ((t.1, (refl, refl)), refl))

-- What the caller says of a lock speaks of its first values, which each seat knows.
module _ {V E : Type 0} (legal : List V → List E → Type 0) (at_home : List V → ℕ → ℕ → ℕ → List E → ℕ → V → Type 0) (durable_of common_of : V → ℕ) where
  abbrev pub RuleOf : Opening V → State (Option V) (Mind V E) → Type 0
  RuleOf k = Kept (legal (first_of k)) (at_home (first_of k)) durable_of common_of k

  -- what a step tells of the lock's first values, it tells of those that the seat knows
  pub as_first : (k : Opening V) (slots id : ℕ) (me : Me (Option V) (Mind V E)) (i : ℕ) (up : ℕ → ℕ) (then : List V → ℕ → Me (Option V) (Mind V E) → Type 0)
      → Allows (RuleOf k) slots id me i up (then (first_of k)) → Allows (RuleOf k) slots id me i up (then me.0.view.first)
  as_first k slots id me i up then allows s r deep at small = let t = allows s r deep at small in let known = r.each_seat id me.0 at in
      (t.0, t.1, t.2, t.3, subst (λ (fs : List V). then fs (get_or s.words i 0) (t.0, carried_after me.1 t.1)) (sym known.firsts) t.4)

  module _ (grows : (first : List V) (station number given durable later : ℕ) (history more : List E) (x : V) → at_home first station number given history durable x → durable ≤ later → at_home first station number given (history ++ more) later x) where
    pub loads : (k : Opening V) (slots id : ℕ) (me : Me (Option V) (Mind V E)) (i : ℕ) → Lives me.0.view → Allows (RuleOf k) slots id me i (λ n. n) (looked (legal me.0.view.first) (step slots i 0 0 none) me)
    loads k slots id me i lives = as_first k slots id me i (λ n. n) (λ fs. looked (legal fs) (step slots i 0 0 none) me) (loads_by (legal (first_of k)) (at_home (first_of k)) durable_of common_of (grows (first_of k)) k slots id me i lives)

    pub fronts : (k : Opening V) (slots id : ℕ) (me : Me (Option V) (Mind V E)) → Lives me.0.view → Allows (RuleOf k) slots id me 1 (λ n. n) (fronted (legal me.0.view.first) (step slots 1 0 0 none) me)
    fronts k slots id me lives = as_first k slots id me 1 (λ n. n) (λ fs. fronted (legal fs) (step slots 1 0 0 none) me) (fronts_by (legal (first_of k)) (at_home (first_of k)) durable_of common_of (grows (first_of k)) k slots id me lives)

    pub raises : (k : Opening V) (slots id : ℕ) (me : Me (Option V) (Mind V E)) (a : ℕ) → a ≤ 2 ^ 60 → a ≤ me.0.view.backed → Lives me.0.view → Allows (RuleOf k) slots id me 1 (λ n. max n a) (raised (legal me.0.view.first) (step slots 1 a 0 none) me)
    raises k slots id me a low saw lives = as_first k slots id me 1 (λ n. max n a) (λ fs. raised (legal fs) (step slots 1 a 0 none) me) (raises_by (legal (first_of k)) (at_home (first_of k)) durable_of common_of (grows (first_of k)) k slots id me a low saw lives)

    pub halts : (k : Opening V) (slots id : ℕ) (me : Me (Option V) (Mind V E)) (bit : ℕ) → bit ≡ 2 ^ 63 → Lives me.0.view → Allows (RuleOf k) slots id me 1 (λ n. bit_or n bit) (stopped (legal me.0.view.first) (step slots 1 bit 0 none) me)
    halts k slots id me bit is_top lives = as_first k slots id me 1 (λ n. bit_or n bit) (λ fs. stopped (legal fs) (step slots 1 bit 0 none) me) (halts_by (legal (first_of k)) (at_home (first_of k)) durable_of common_of (grows (first_of k)) k slots id me bit is_top lives)
