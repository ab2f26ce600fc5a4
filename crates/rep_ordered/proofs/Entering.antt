-- The steps on a station's word: entering it, and leaving it in one of three ways.
use Rattle.std.proofs.Common.{◌≡◌, ◌≢◌, ℕ, ◌+◌, ◌-◌, ◌*◌, ◌/◌, ◌%◌, ◌<◌, ◌≤◌, eqb, ◌⊎◌, Option, Some, List, [], ◌∷◌, ◌++◌, get_or, set, inl, inr, ⊎_elim, sym, refl, ap, ◌∙◌, subst, arith, length-set, eq-eqb, ne_eqb, if◌then◌else◌}
use Rattle.std.proofs.lemmas.List.{append-nil}
use mathlib.Core.Option as maybe
use mathlib.Core.Option.{some, none}
use mathlib.Core.Logic.{dite}
use native.Mathlib.Decide.{ℕ_discrete}
use lib.ListN.{get_elem?}
use lib.Seq.{set-get_or}
use prog.Atomic.{either}
use Rattle.atomic_table.specs.Table.{Me, step, keeps, takes, stepped, Allows, carried_after}
use Rattle.atomic_table.proofs.Lists.{set_here, set_else, set_again}
use Rattle.rep_ordered.specs.declared.view.Hold.{Hold}
use Rattle.rep_ordered.specs.declared.view.Mind.{Mind}
use Rattle.rep_ordered.specs.declared.view.View.{View}
use Rattle.rep_ordered.specs.declared.rule.Opening.{Opening}
use Rattle.rep_ordered.specs.Counts.{times, busy, gave}
use Rattle.rep_ordered.specs.Views.{StartsWith, Placed, hold, held_at, word_at, reach, names, backed_after, common_after, on, knowing, untold, Lives}
use Rattle.rep_ordered.specs.Rule.{Figures, Knows, Kept, first_of}
use Rattle.rep_ordered.specs.Steps.{Entered, tried}
use Rattle.rep_ordered.proofs.Shapes.{Moment, Mine}
use Rattle.rep_ordered.proofs.Sums.{total_at, every_away, get_or_there, below_length, reached_more, backed_here, backed_else, covered_after, common_here, common_else}
use Rattle.rep_ordered.proofs.Keeping.{seen_whole, knows_me}
use Rattle.rep_ordered.proofs.Moving.{after, gone_on, moved}
use Rattle.rep_ordered.proofs.Drawing.{RuleOf, as_first}

pub begins_more : {E : Type 0} (j : ℕ) (history more front : List E) → StartsWith history front → (j ≡ 0 → front ≡ history) → (j ≢ 0 → more ≡ []) → StartsWith (history ++ more) (front ++ more)
begins_more j history more front begins same empty = dite (ℕ_discrete j 0)
    (λ z. ([], ap (λ l. l ++ more) (sym (same z)) ∙ sym (append-nil (front ++ more))))
    (λ nz. let e = empty nz in (begins.0, ap (λ l. history ++ l) e ∙ (append-nil history ∙ (begins.1 ∙ ap (λ l. l ++ begins.0) (sym (append-nil front) ∙ ap (λ l. front ++ l) (sym e))))))

pub risen_up : (j d low high : ℕ) → low ≤ high → backed_after j d low ≤ backed_after j d high
risen_up j d low high up = dite (ℕ_discrete j 1)
    (λ e. let a = backed_here j d low e in let b = backed_here j d high e in let x : ℕ = backed_after j d low in let y : ℕ = backed_after j d high in let p : x ≡ d = a in let q : y ≡ d = b in let goal : x ≤ y = omega arith in goal)
    (λ n. let a = backed_else j d low n in let b = backed_else j d high n in let x : ℕ = backed_after j d low in let y : ℕ = backed_after j d high in let p : x ≡ low = a in let q : y ≡ high = b in let goal : x ≤ y = omega arith in goal)

pub risen_above : (j d low : ℕ) → (j ≡ 1 → low ≤ d) → low ≤ backed_after j d low
risen_above j d low up = dite (ℕ_discrete j 1)
    (λ e. let u = up e in let a = backed_here j d low e in let x : ℕ = backed_after j d low in let p : x ≡ d = a in let goal : low ≤ x = omega arith in goal)
    (λ n. let a = backed_else j d low n in let x : ℕ = backed_after j d low in let p : x ≡ low = a in let goal : low ≤ x = omega arith in goal)

-- what the value found names, where stations 1 and 2 name that number, is what is known of them after
pub common_found : (j seen known now : ℕ) → (0 < names j → seen ≡ now) → known ≤ now → common_after j seen known ≤ now
common_found j seen known now same low = dite (ℕ_discrete (names j) 0)
    (λ none. let a = common_else j seen known none in let x : ℕ = common_after j seen known in let p : x ≡ known = a in let goal : x ≤ now = omega arith in goal)
    (λ some_name. let up : 0 < names j = omega arith in let a = common_here j seen known up in let b = same up in let x : ℕ = common_after j seen known in let p : x ≡ seen = a in let goal : x ≤ now = omega arith in goal)

-- the station that was entered last is held at its word
pub word_on_top : (j w d : ℕ) (hs : List Hold) → word_at j (hold j w d ∷ hs) ≡ w
word_on_top j w d hs = subst (λ b. (if b then w else word_at j hs) ≡ w) (sym (eq-eqb j j refl)) refl

module _ {V E : Type 0} (law : List E → Type 0) (at_home : ℕ → ℕ → ℕ → List E → ℕ → V → Type 0) (durable_of common_of : V → ℕ) (grows : (station number given durable later : ℕ) (history more : List E) (x : V) → at_home station number given history durable x → durable ≤ later → at_home station number given (history ++ more) later x) where
  abbrev Rule : Opening V → Moment V E → Type 0
  Rule = Kept law at_home durable_of common_of

  abbrev entering : Figures E → ℕ → ℕ → ℕ → V → View V E → View V E
  entering f j n y x v = record (knowing f.history f.durable v.halted v) { backed = backed_after j (durable_of x) v.backed; common = common_after j (common_of x) v.common; reached = reach j n ∷ v.reached; held = hold j y (durable_of x) ∷ v.held }

  -- what a seat knows that has just entered the station j at the number n
  knows_entered : (k : Opening V) (f : Figures E) (words : List ℕ) (homes : List (maybe.Option (Option V))) (m : Mind V E) (j n y : ℕ) (x : V) → get_elem? words (j + 2) ≡ some (4 * n) → y / 4 ≡ n → y % 4 ≡ 1 ⊎ y % 4 ≡ 2 → (y % 4 ≡ 1 → 0 < times n m.view.own)
      → (j ≡ 1 → f.backed ≤ durable_of x) → (0 < names j → common_of x ≡ f.common)
      → on j m ≡ 0 → Lives m.view → Knows k f words homes m
      → Knows k (after f [] (backed_after j (durable_of x) f.backed) f.common) (set words (j + 2) y) (set homes j none) (untold (entering f j n y x m.view))
  knows_entered k f words homes m j n y x was same_turn kind drawn risen same apart lives known = let v : View V E = m.view in let d : ℕ = durable_of x in let whole = known.wholes in let all : f.history ≡ f.history ++ [] = sym (append-nil f.history) in record {
    starts = known.starts;
    wholes = known.wholes;
    firsts = known.firsts;
    begins = ([], refl);
    told = (f.history ++ [], refl);
    lasts = omega arith;
    stops = known.stops;
    stays = λ _. omega arith;
    below = risen_up j d v.backed f.backed known.below;
    named = common_found j (common_of x) v.common f.common same known.named;
    exact = λ holds. exact_now holds;
    reached = λ i z e. ⊎_elim
        (λ (t : (i + 2 ≡ j + 2) × (y ≡ z)). let o = known.reached i (4 * n) (ap (get_elem? words) t.0 ∙ was) in let is = t.1 in reached_more i j n (z / 4) v.reached (omega arith) (λ _. omega arith))
        (λ (t : (i + 2 ≢ j + 2) × (get_elem? words (i + 2) ≡ some z)). let o = known.reached i z t.1 in reached_more i j n (z / 4) v.reached o (λ e. absurd (t.0 (ap (λ (m : ℕ). m + 2) e))))
        (Rattle.atomic_table.proofs.Lists.at_set words (j + 2) (i + 2) y z e);
    holds = (
      record {
        word = set_here words (j + 2) y (below_length words (j + 2) (4 * n) was);
        taken = ⊎_elim (λ (e : y % 4 ≡ 1). omega arith) (λ (e : y % 4 ≡ 2). omega arith) kind;
        floor = λ one. let a = risen one in let e = backed_here j d f.backed one in let z : ℕ = backed_after j d f.backed in let p : z ≡ d = e in let goal : z ≤ d = omega arith in goal;
        drawn = λ ticket. subst (λ (m : ℕ). 0 < times m v.own) (sym same_turn) (drawn ticket);
        whole = λ _. all;
      },
      every_away _ _ j v.held apart
          (λ (h : Hold) away r. record {
            word = set_else words (j + 2) (h.station + 2) y (λ e. away (omega arith)) ∙ r.word;
            taken = r.taken;
            floor = λ one. let o = r.floor one in let e = backed_else j d f.backed (λ is. away (one ∙ sym is)) in let z : ℕ = backed_after j d f.backed in let p : z ≡ f.backed = e in let goal : z ≤ h.floor = omega arith in goal;
            drawn = r.drawn;
            whole = λ _. all;
          }) known.holds,
    );
    lives = λ _ some. lives (omega arith);
    gone = gone_on words homes (set homes j none) j (4 * n) y v.given_up was (omega arith) (λ i apart. set_else homes j i none apart) known.gone;
    placed = subst (λ l. Placed k.start l v.own v.joined) all known.placed;
    idle = λ some none_left. let l = lives (omega arith) in absurd (omega arith);
  }
    where
      exact_now : 0 < held_at 1 (hold j y (durable_of x) ∷ m.view.held) + held_at 2 (hold j y (durable_of x) ∷ m.view.held) → common_after j (common_of x) m.view.common ≡ f.common
      exact_now holds = dite (ℕ_discrete (names j) 0)
          (λ none. common_else j (common_of x) m.view.common none ∙ known.exact (omega arith))
          (λ some_name. let up : 0 < names j = omega arith in common_here j (common_of x) m.view.common up ∙ same up)

  -- nothing changes
  unmoved : (k : Opening V) (s : Moment V E) (id i y : ℕ) (me : Mine V E) → Rule k s → get_elem? s.views id ≡ some me.0 → get_or s.words i 0 ≡ y → Rule k (stepped s i y id me.1 me.0 keeps)
  unmoved k s id i y me r at is = subst (λ (z : List ℕ × List (Mind V E)). Rule k record { words = z.0; homes = s.homes; views = z.1 })
      (λ c. ((sym (set-get_or s.words i 0) ∙ ap (set s.words i) is) c, sym (set_again s.views id me.0 at) c)) r

  -- what the seat is told that has just entered
  told_entered : (k : Opening V) (s : Moment V E) (r : Rule k s) (id : ℕ) (m : Mind V E) (j n new kind : ℕ) (x : V) → get_elem? s.views id ≡ some m → get_elem? s.words (j + 2) ≡ some (4 * n) → new ≡ 4 * n + kind → (kind ≡ 1) ⊎ (kind ≡ 2) → on j m ≡ 0
      → at_home j n 0 r.figures.history r.figures.durable x → (j ≡ 1 → r.figures.backed ≤ durable_of x) → (0 < names j → common_of x ≡ r.figures.common)
      → Entered law at_home durable_of common_of j n kind m.view (entering r.figures j n new x m.view) x
  told_entered k s r id m j n new kind x at was shape kinds alone keeps_it backed_up same = let f : Figures E = r.figures in let v : View V E = m.view in let known = r.each_seat id m at in let sp = r.spelled in let here = r.each_station j (4 * n) was in let d : ℕ = durable_of x in
      let word_is : word_at j (hold j new d ∷ v.held) ≡ 4 * n + kind = word_on_top j new d v.held ∙ shape in
      let within = here.within in let dealt = r.dealt in let tickets = dealt.tickets in let small = sp.small in let first = here.begun in let starts = known.starts in record {
        view = ap (λ (z : ℕ). record (knowing f.history f.durable v.halted v) { backed = backed_after j d v.backed; common = common_after j (common_of x) v.common; reached = reach j n ∷ v.reached; held = hold j z d ∷ v.held }) shape;
        seen = known.begins;
        sees = record { legal = r.lawful; placed = subst (λ (i : ℕ). Placed i f.history v.own v.joined) (sym known.starts) known.placed };
        still = λ some_hold. sym (seen_whole f s.words v.own v.seen v.held known.holds some_hold);
        durable = known.lasts;
        halted = refl;
        stays = λ halted. let a = known.stays halted in let b = known.lasts in omega arith;
        keeps = keeps_it;
        backed = λ one. let a = backed_up one in let b = known.below in let c = sp.backed_up in (omega arith, omega arith);
        common = λ some_name. let a = same some_name in let b = known.named in (omega arith, λ holds. let c = known.exact holds in omega arith);
        covers = λ some_name. let a = same some_name in let b = sp.covered in let c = sp.backed_up in let e = sp.low in omega arith;
        begun = omega arith;
        limit = omega arith;
        turn = let a = known.reached j (4 * n) was in omega arith;
        word = word_is;
        now = ⊎_elim (λ (e : kind ≡ 1). let z : ℕ = word_at j (hold j new d ∷ v.held) in let p : z ≡ 4 * n + kind = word_is in let goal : z / 4 ≡ n = omega arith in goal)
            (λ (e : kind ≡ 2). let z : ℕ = word_at j (hold j new d ∷ v.held) in let p : z ≡ 4 * n + kind = word_is in let goal : z / 4 ≡ n = omega arith in goal) kinds;
        place = λ first. let a = here.counted first in let b = known.starts in omega arith;
        alone = alone;
      }

  enters_at : (k : Opening V) (slots id : ℕ) (me : Mine V E) (j old new n kind : ℕ) → j < slots → old ≡ 4 * n → new ≡ old + kind → (kind ≡ 1) ⊎ (kind ≡ 2) → (kind ≡ 1 → 0 < times n me.0.view.own) → Lives me.0.view
      → Allows (Rule k) slots id me (j + 2) (λ y. either (eqb y old) new y)
      (λ y m'. (y ≡ old → (x : V) × Entered law at_home durable_of common_of j n kind me.0.view m'.0.view x × (m'.0.told ≡ []) × (m'.1 ≡ (j, Some x) ∷ me.1)) × (y ≢ old → m' ≡ me))
  enters_at k slots id me j old new n kind inside spelled_old up kinds drawn lives s r deep at _ = let m : Mind V E = me.0 in let v : View V E = m.view in let y : ℕ = get_or s.words (j + 2) 0 in let f : Figures E = r.figures in let sp = r.spelled in let wide = sp.wide in dite (ℕ_discrete y old)
      (λ hit. let there : get_elem? s.words (j + 2) ≡ some y = get_or_there s.words (j + 2) (omega arith) in let was : get_elem? s.words (j + 2) ≡ some (4 * n) = there ∙ ap some (hit ∙ spelled_old) in
      let here = r.each_station j (4 * n) was in let known = r.each_seat id m at in
      let free : busy (4 * n) ≡ 0 = omega arith in let h = here.home free in let x : V = h.value in let d : ℕ = durable_of x in
      let mine = total_at (on j) s.views id m at in let counts = here.counts in let alone : on j m ≡ 0 = omega arith in
      let e' : ℕ = backed_after j d f.backed in
      let turn : new / 4 ≡ n = ⊎_elim (λ (e : kind ≡ 1). omega arith) (λ (e : kind ≡ 2). omega arith) kinds in
      let new_kinds : (new % 4 ≡ 1) ⊎ (new % 4 ≡ 2) = ⊎_elim (λ (e : kind ≡ 1). inl (omega arith)) (λ (e : kind ≡ 2). inr (omega arith)) kinds in
      let new_busy : busy new ≡ 1 = ⊎_elim (λ (e : kind ≡ 1). omega arith) (λ (e : kind ≡ 2). omega arith) kinds in
      let new_gave : gave new ≡ 0 = ⊎_elim (λ (e : kind ≡ 1). omega arith) (λ (e : kind ≡ 2). omega arith) kinds in
      let m' : Mind V E = untold (entering f j n new x v) in
      let within = here.within in let whole = known.wholes in
      let kept : Rule k record { words = set s.words (j + 2) new; homes = set s.homes j none; views = set s.views id m' } =
      moved law at_home durable_of common_of grows k s r id m m' j (4 * n) new [] e' f.common (set s.homes j none) at was (omega arith) (omega arith) (omega arith) (λ _. omega arith) (λ _. refl) (λ some_more. absurd (omega arith))
      (subst law (sym (append-nil f.history)) r.lawful)
      (risen_above j d f.backed h.backed) (backed_else j d f.backed)
      (covered_after j d f.backed f.common (λ one. let a = h.covers one in let b = h.common (omega arith) in omega arith) sp.covered)
      (omega arith) (inl refl)
      (λ i apart. set_else s.homes j i none apart) (length-set s.homes j none) refl refl (λ i apart. omega arith) (omega arith) (omega arith) (omega arith) (omega arith) (λ none_held. absurd (omega arith))
      (knows_entered k f s.words s.homes m j n new x was turn new_kinds (λ ticket. drawn (⊎_elim (λ (e : kind ≡ 1). e) (λ (e : kind ≡ 2). absurd {A = kind ≡ 1} (omega arith)) kinds)) h.backed h.common alone lives known)
      (knows_me k (after f [] e' f.common) s.views id m' (below_length s.views id m at) (λ some_number. lives (omega arith)) (sym (append-nil f.history))) in (
        m',
        takes j (Some x),
        h.there,
        subst (λ b. Rule k (stepped s (j + 2) (either b new y) id me.1 m' (takes j (Some x)))) (sym (eq-eqb y old hit)) kept,
        (
          (λ _. (
            x,
            told_entered k s r id m j n new kind x at was (omega arith) kinds alone
                (subst (λ (z : ℕ × ℕ). at_home j z.0 z.1 f.history f.durable x) (λ i. ((let q : 4 * n / 4 ≡ n = omega arith in q) i, (let q : gave (4 * n) ≡ 0 = omega arith in q) i)) h.keeps) h.backed h.common,
            refl,
            refl,
          )),
          (λ miss. absurd (miss hit)),
        ),
      ))
      (λ miss. (
        m,
        keeps,
        tt,
        subst (λ b. Rule k (stepped s (j + 2) (either b new y) id me.1 m keeps)) (sym (ne_eqb y old miss)) (unmoved k s id (j + 2) y me r at refl),
        ((λ hit. absurd (miss hit)), (λ _. refl)),
      ))

  enters_by : (k : Opening V) (slots id : ℕ) (me : Mine V E) (j old new n kind : ℕ) → j < slots → old ≡ 4 * n → new ≡ old + kind → (kind ≡ 1) ⊎ (kind ≡ 2) → (kind ≡ 1 → 0 < times n me.0.view.own) → Lives me.0.view
      → Allows (Rule k) slots id me (j + 2) (λ y. either (eqb y old) new y) (tried law at_home durable_of common_of kind (step slots (j + 2) old new none) me)
  enters_by k slots id me j old new n kind inside spelled_old up kinds drawn lives s r deep at small = let t = enters_at k slots id me j old new n kind inside spelled_old up kinds drawn lives s r deep at small in
      let a : j ≡ (j + 2) - 2 = omega arith in let b : n ≡ old / 4 = omega arith in
      (t.0, t.1, t.2, t.3, ((λ hit. let e = t.4.0 hit in subst (λ (z : ℕ × ℕ). (x : V) × Entered law at_home durable_of common_of z.0 z.1 kind me.0.view t.0.view x × (t.0.told ≡ []) × (carried_after me.1 t.1 ≡ (z.0, Some x) ∷ me.1)) (λ i. (a i, b i)) e), t.4.1))

module _ {V E : Type 0} (legal : List V → List E → Type 0) (at_home : List V → ℕ → ℕ → ℕ → List E → ℕ → V → Type 0) (durable_of common_of : V → ℕ) (grows : (first : List V) (station number given durable later : ℕ) (history more : List E) (x : V) → at_home first station number given history durable x → durable ≤ later → at_home first station number given (history ++ more) later x) where
  pub enters : (k : Opening V) (slots id : ℕ) (me : Me (Option V) (Mind V E)) (j old new n kind : ℕ) → j < slots → old ≡ 4 * n → new ≡ old + kind → (kind ≡ 1) ⊎ (kind ≡ 2) → (kind ≡ 1 → 0 < times n me.0.view.own) → Lives me.0.view
      → Allows (RuleOf legal at_home durable_of common_of k) slots id me (j + 2) (λ y. either (eqb y old) new y) (tried (legal me.0.view.first) (at_home me.0.view.first) durable_of common_of kind (step slots (j + 2) old new none) me)
  enters k slots id me j old new n kind inside spelled_old up kinds drawn lives = as_first legal at_home durable_of common_of k slots id me (j + 2) (λ y. either (eqb y old) new y) (λ fs. tried (legal fs) (at_home fs) durable_of common_of kind (step slots (j + 2) old new none) me)
      (enters_by (legal (first_of k)) (at_home (first_of k)) durable_of common_of (grows (first_of k)) k slots id me j old new n kind inside spelled_old up kinds drawn lives)
