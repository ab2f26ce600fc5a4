-- The steps by which a seat leaves a station: its slot is given back, and the word is changed.
use Rattle.std.proofs.Common.{◌≡◌, ◌≢◌, ℕ, ◌+◌, ◌-◌, ◌*◌, ◌/◌, ◌%◌, ◌^◌, ◌<◌, ◌≤◌, min, ◌⊎◌, Option, Some, None, List, [], ◌∷◌, ◌++◌, length, get_or, set, bit_or, inl, inr, ⊎_elim, sym, refl, ap, ◌∙◌, subst, arith, length-append, length-set}
use Rattle.std.specs.Prelude.{IsSome, IsNone}
use Rattle.std.proofs.lemmas.List.{append-nil}
use mathlib.Core.Option as maybe
use mathlib.Core.Option.{some, none}
use mathlib.Core.Logic.{dite}
use native.Mathlib.Decide.{ℕ_discrete}
use lib.ListN.{get_elem?}
use lib.Bits.{or_block, or_comm}
use Rattle.atomic_table.specs.Table.{Me, step, gives, rest, put_back, Allows}
use Rattle.atomic_table.proofs.Lists.{at_set, set_here, set_else}
use Rattle.rep_ordered.specs.declared.view.GivenUp.{GivenUp}
use Rattle.rep_ordered.specs.declared.view.Hold.{Hold}
use Rattle.rep_ordered.specs.declared.view.Mind.{Mind}
use Rattle.rep_ordered.specs.declared.view.View.{View}
use Rattle.rep_ordered.specs.declared.rule.Opening.{Opening}
use Rattle.rep_ordered.specs.Counts.{total, times, busy, gave}
use Rattle.rep_ordered.specs.Views.{abandoned_with, gone_at, Every, StartsWith, Names, held_at, reach, word_at, floor_at, except, grown, names, backed_after, common_after, on, without, Lives, Holds}
use Rattle.rep_ordered.specs.Rule.{Covers, Figures, Gone, HoldIsRight, Knows, Kept, first_of}
use Rattle.rep_ordered.specs.Steps.{abandons, left}
use Rattle.rep_ordered.proofs.Shapes.{Moment, Mine}
use Rattle.rep_ordered.proofs.Sums.{every_append, every_map, total_at, every_away, every_at, every_except, held_here, held_else, get_or_is, below_length, reached_more, backed_here, backed_else, covered_after, common_here, common_else}
use Rattle.rep_ordered.proofs.Owning.{entries_of, joined_with, joining_is, longer, placed_mine}
use Rattle.rep_ordered.proofs.Keeping.{knows_me, knows_still, held_once}
use Rattle.rep_ordered.proofs.Moving.{after, gone_on, nothing_more, moved}
use Rattle.rep_ordered.proofs.Drawing.{RuleOf}
use Rattle.rep_ordered.proofs.Entering.{begins_more, risen_up, risen_above}

pub given_up_word : (w a : ℕ) → a ≡ 3 → busy w ≡ 1 → (bit_or w a / 4 ≡ w / 4) × (busy (bit_or w a) ≡ 0) × (gave (bit_or w a) ≡ 1)
given_up_word w a three taken = let n : ℕ = w / 4 in let r : ℕ = w % 4 in
    let spelled : w ≡ n * 2 ^ 2 + r = omega arith in
    let low : bit_or r 3 ≡ 3 = dite (ℕ_discrete r 1) (λ e. ap (λ (z : ℕ). bit_or z 3) e) (λ ne. let e : r ≡ 2 = omega arith in ap (λ (z : ℕ). bit_or z 3) e) in
    let block = or_block 2 n 0 r 3 (omega arith) (omega arith) in
    let high : bit_or n 0 ≡ n = or_comm n 0 in
    let is : bit_or w a ≡ n * 2 ^ 2 + 3 = (λ i. bit_or (spelled i) (three i)) ∙ (block ∙ (λ i. high i * 2 ^ 2 + low i)) in
    let y : ℕ = bit_or w a in let p : y ≡ n * 4 + 3 = is in let b : y / 4 ≡ n = omega arith in let d : busy y ≡ 0 = omega arith in let e : gave y ≡ 1 = omega arith in (b, d, e)

pub grown_is : {E : Type 0} (seen : List E) (entry : Option E) → grown seen entry ≡ seen ++ entries_of entry
grown_is seen None = sym (append-nil seen)
grown_is seen (Some e) = refl

pub entries_one : {E : Type 0} (entry : Option E) → IsSome entry → length (entries_of entry) ≡ 1
entries_one None h = cc
entries_one (Some e) h = refl

pub entries_none : {E : Type 0} (entry : Option E) → IsNone entry → entries_of entry ≡ []
entries_none None h = refl
entries_none (Some e) h = cc

-- entries join at station 0 alone
pub first_with : {E : Type 0} (j : ℕ) (entry : Option E) → (j ≢ 0 → entries_of entry ≡ []) → 0 < length (entries_of entry) → j ≡ 0
first_with j entry kept some_more = dite (ℕ_discrete j 0) (λ z. z) (λ nz. let l : length (entries_of entry) ≡ 0 = ap length (kept nz) in absurd (omega arith))

-- who leaves one of stations 1 and 2, and holds each once, lowers the number that they name by nothing, and changes it only if it holds both
named_up : (j c known now a b : ℕ) → (0 < names j → (known ≤ c) × (a + b ≤ 1 → c ≡ known)) → (0 < names j → known ≡ now) → a ≤ 1 → b ≤ 1
    → (now ≤ common_after j c now) × ((common_after j c now ≡ now) ⊎ ((0 < a) × (0 < b)))
named_up j c known now a b given exact one_a one_b = dite (ℕ_discrete (names j) 0)
    (λ none. let e = common_else j c now none in let x : ℕ = common_after j c now in let p : x ≡ now = e in ((let goal : now ≤ x = omega arith in goal), inl p))
    (λ some_name. let up : 0 < names j = omega arith in let e = common_here j c now up in let g = given up in let low = g.0 in let same = exact up in let x : ℕ = common_after j c now in let p : x ≡ c = e in (
      (let goal : now ≤ x = omega arith in goal),
      dite (ℕ_discrete (a + b) 2)
          (λ two. inr (omega arith, omega arith))
          (λ not. let q = g.1 (omega arith) in inl (let goal : x ≡ now = omega arith in goal)),
    ))

-- a seat that has left the station knows the number still, where it holds the other one
named_still : (j c known now : ℕ) → (names j ≡ 0 → known ≡ now) → common_after j c known ≡ common_after j c now
named_still j c known now same = dite (ℕ_discrete (names j) 0)
    (λ none. common_else j c known none ∙ (same none ∙ sym (common_else j c now none)))
    (λ some_name. let up : 0 < names j = omega arith in common_here j c known up ∙ sym (common_here j c now up))

-- and never knows of a higher one
named_low : (j c known now : ℕ) → known ≤ now → common_after j c known ≤ common_after j c now
named_low j c known now low = let x : ℕ = common_after j c known in let y : ℕ = common_after j c now in dite (ℕ_discrete (names j) 0)
    (λ none. let a : x ≡ known = common_else j c known none in let b : y ≡ now = common_else j c now none in let goal : x ≤ y = omega arith in goal)
    (λ some_name. let up : 0 < names j = omega arith in let a : x ≡ c = common_here j c known up in let b : y ≡ c = common_here j c now up in let goal : x ≤ y = omega arith in goal)

module _ {V E : Type 0} (law : List E → Type 0) (at_home : ℕ → ℕ → ℕ → List E → ℕ → V → Type 0) (durable_of common_of : V → ℕ) where
  -- What is asked of a seat that leaves the station j, whose turn is then at n, given up where g is 1: `up` says what becomes of the word, and x is the value that it gives back.
  pub record Departing (j n g : ℕ) (up : ℕ → ℕ) (entry : Option E) (x : V) (v : View V E) : Type 0 where
    pub holds : Holds v j
    pub moves : word_at j v.held / 4 ≤ 2 ^ 60 + 1 → busy (word_at j v.held) ≡ 1 → (up (word_at j v.held) / 4 ≡ n) × (busy (up (word_at j v.held)) ≡ 0) × (gave (up (word_at j v.held)) ≡ g)
    pub forth : word_at j v.held / 4 ≤ n
    pub ticket : word_at j v.held % 4 ≡ 1 → n ≤ word_at j v.held / 4 + 1
    pub side : word_at j v.held % 4 ≢ 1 → n ≡ word_at j v.held / 4
    pub counted : j ≡ 0 → length (entries_of entry) + word_at j v.held / 4 ≡ n
    pub kept : j ≢ 0 → entries_of entry ≡ []
    pub mine : 0 < length (entries_of entry) → (length (entries_of entry) ≡ 1) × (word_at j v.held % 4 ≡ 1)
    pub halted : g ≤ v.halted
    pub legal : 0 < length (entries_of entry) → law (grown v.seen entry)
    pub meets : at_home j n g (grown v.seen entry) v.durable x
    pub floor : j ≡ 1 → floor_at j v.held ≤ durable_of x
    pub common : 0 < names j → Names v (common_of x)
    pub covered : j ≡ 1 → Covers durable_of common_of x
    pub lives : Lives v

  -- the same where nothing joins the history, and the turn stays at its number
  pub departs_silently : (j g : ℕ) (up : ℕ → ℕ) (x : V) (v : View V E) → Holds v j → (let w : ℕ = word_at j v.held in w / 4 ≤ 2 ^ 60 + 1 → busy w ≡ 1 → (up w / 4 ≡ w / 4) × (busy (up w) ≡ 0) × (gave (up w) ≡ g)) → g ≤ v.halted → at_home j (word_at j v.held / 4) g v.seen v.durable x
      → (j ≡ 1 → floor_at j v.held ≤ durable_of x) → (0 < names j → Names v (common_of x)) → (j ≡ 1 → Covers durable_of common_of x) → Lives v → Departing j (word_at j v.held / 4) g up None x v
  departs_silently j g up x v holds moves halted meets floor common covered lives = record {
    holds = holds;
    moves = moves;
    forth = omega arith;
    ticket = λ _. omega arith;
    side = λ _. refl;
    counted = λ _. omega arith;
    kept = λ _. refl;
    mine = λ some_more. absurd (omega arith);
    halted = halted;
    legal = λ some_more. absurd (omega arith);
    meets = meets;
    floor = floor;
    common = common;
    covered = covered;
    lives = lives;
  }

module _ {V E : Type 0} (law : List E → Type 0) (at_home : ℕ → ℕ → ℕ → List E → ℕ → V → Type 0) (durable_of common_of : V → ℕ) (grows : (station number given durable later : ℕ) (history more : List E) (x : V) → at_home station number given history durable x → durable ≤ later → at_home station number given (history ++ more) later x) where
  abbrev Rule : Opening V → Moment V E → Type 0
  Rule = Kept law at_home durable_of common_of

  -- the view of a seat that has left the station j, with its turn at n
  abbrev leaving : ℕ → ℕ → ℕ → ℕ → List E → List (GivenUp V) → View V E → View V E
  leaving j n d c more lost v = record v { seen = v.seen ++ more; joined = joined_with more (word_at j v.held / 4) v.joined; backed = backed_after j d v.backed; common = common_after j c v.common; reached = reach j n ∷ v.reached; held = except j v.held; given_up = lost ++ v.given_up }

  -- what a seat knows that has just left the station j, whose word was x, with its turn at n
  knows_left : (k : Opening V) (f : Figures E) (words : List ℕ) (homes homes' : List (maybe.Option (Option V))) (m : Mind V E) (j x y n d c : ℕ) (more : List E) (lost : List (GivenUp V)) → get_elem? words (j + 2) ≡ some x → word_at j m.view.held ≡ x → x / 4 ≤ n → y / 4 ≡ n
      → (j ≡ 0 → m.view.seen ≡ f.history) → (j ≢ 0 → more ≡ []) → held_at j (except j m.view.held) ≡ 0
      → (0 < length more → (k.start + length f.history ≡ x / 4) × (length more ≡ 1) × (0 < times (x / 4) m.view.own)) → gave x ≡ 0 → ((i : ℕ) → i ≢ j → get_elem? homes' i ≡ get_elem? homes i) → Every (Gone (set words (j + 2) y) homes') lost → Lives m.view → Knows k f words homes m
      → Knows k (after f more (backed_after j d f.backed) (common_after j c f.common)) (set words (j + 2) y) homes' (record m { view = leaving j n d c more lost m.view })
  knows_left k f words homes homes' m j x y n d c more lost was word up turn all kept apart mine here same_homes gone lives known = let v : View V E = m.view in let tail : List Hold = except j v.held in let whole = known.wholes in record {
    starts = known.starts;
    wholes = known.wholes;
    firsts = known.firsts;
    begins = begins_more j f.history more v.seen known.begins all kept;
    told = longer f.history more m.told known.told;
    lasts = known.lasts;
    stops = known.stops;
    stays = known.stays;
    below = risen_up j d v.backed f.backed known.below;
    named = named_low j c v.common f.common known.named;
    exact = λ holds. named_still j c v.common f.common (λ none. known.exact (exact_before none holds));
    reached = λ i z e. ⊎_elim
        (λ (t : (i + 2 ≡ j + 2) × (y ≡ z)). let o = known.reached i x (ap (get_elem? words) t.0 ∙ was) in let is = t.1 in reached_more i j n (z / 4) v.reached (omega arith) (λ _. omega arith))
        (λ (t : (i + 2 ≢ j + 2) × (get_elem? words (i + 2) ≡ some z)). let o = known.reached i z t.1 in reached_more i j n (z / 4) v.reached o (λ e. absurd (t.0 (ap (λ (m : ℕ). m + 2) e))))
        (at_set words (j + 2) (i + 2) y z e);
    holds = every_away _ _ j tail apart
        (λ (h : Hold) away r. record {
          word = set_else words (j + 2) (h.station + 2) y (λ e. away (omega arith)) ∙ r.word;
          taken = r.taken;
          floor = λ one. let o = r.floor one in let e = backed_else j d f.backed (λ is. away (one ∙ sym is)) in let z : ℕ = backed_after j d f.backed in let p : z ≡ f.backed = e in let goal : z ≤ h.floor = omega arith in goal;
          drawn = r.drawn;
          whole = λ first. ap (λ l. l ++ more) (r.whole first);
        }) (every_except (HoldIsRight f words v.own v.seen) j v.held known.holds);
    lives = λ _ some. lives (omega arith);
    gone = every_append _ lost v.given_up gone (gone_on words homes homes' j x y v.given_up was here same_homes known.gone);
    placed = subst (λ (t : ℕ). Rattle.rep_ordered.specs.Views.Placed k.start (f.history ++ more) v.own (joined_with more t v.joined)) (let a : x / 4 ≡ word_at j v.held / 4 = omega arith in a) (placed_mine k.start (x / 4) f.history more v.own v.joined mine known.placed);
    idle = known.idle;
  }
    where
      exact_before : names j ≡ 0 → 0 < held_at 1 (except j m.view.held) + held_at 2 (except j m.view.held) → 0 < held_at 1 m.view.held + held_at 2 m.view.held
      exact_before unnamed holds = let a = held_else 1 j m.view.held (λ e. omega arith) in let b = held_else 2 j m.view.held (λ e. omega arith) in omega arith

  departs_at : (k : Opening V) (slots id : ℕ) (me : Mine V E) (j n g : ℕ) (up : ℕ → ℕ) (entry : Option E) (x : V) (lost : List (GivenUp V)) → Every (λ (u : GivenUp V). (u.station ≡ j) × (u.value ≡ x) × (g ≡ 1)) lost → j < slots → me.1 ≡ (j, Some x) ∷ rest me.1 → Departing law at_home durable_of common_of j n g up entry x me.0.view
      → Allows (Rule k) slots id me (j + 2) up (λ y m'. (m'.0.view ≡ leaving j n (durable_of x) (common_of x) (entries_of entry) lost me.0.view) × (m'.0.told ≡ me.0.told) × (m'.1 ≡ rest me.1))
  departs_at k slots id me j n g up entry x lost lost_here inside carried p s r deep at _ =
      let m : Mind V E = me.0 in let v : View V E = m.view in let more : List E = entries_of entry in let f : Figures E = r.figures in let sp = r.spelled in let h : ℕ = word_at j v.held in let tail : List Hold = except j v.held in let known = r.each_seat id m at in
      let top = every_at (HoldIsRight f s.words v.own v.seen) j v.held p.holds known.holds in let was : get_elem? s.words (j + 2) ≡ some h = top.word in let here = r.each_station j h was in
      let is : get_or s.words (j + 2) 0 ≡ h = get_or_is s.words (j + 2) h was in let dealt = r.dealt in let tickets = dealt.tickets in let small = sp.small in let within = here.within in
      let taken : busy h ≡ 1 = top.taken in let y : ℕ = up h in let t = p.moves (omega arith) taken in let turn : y / 4 ≡ n = t.0 in let free : busy y ≡ 0 = t.1 in let gone : gave y ≡ g = t.2 in
      let counts = here.counts in let mine = total_at (on j) s.views id m at in let some_hold : 0 < held_at j v.held = p.holds in
      let split : on j m ≡ 1 + held_at j tail = held_here j v.held p.holds in
      let apart : held_at j tail ≡ 0 = omega arith in let alone : total (on j) s.views ≡ on j m = omega arith in
      let d : ℕ = durable_of x in let c : ℕ = common_of x in let e' : ℕ = backed_after j d f.backed in let c' : ℕ = common_after j c f.common in
      let m' : Mind V E = record m { view = leaving j n d c more lost v } in
      let forth : h / 4 ≤ n = p.forth in
      let below : n ≤ f.next = dite (ℕ_discrete (h % 4) 1)
      (λ one_more. let a = p.ticket one_more in let drawn = top.drawn one_more in let t = total_at (λ (u : Mind V E). times (h / 4) u.view.own) s.views id m at in let e = dealt.drawn (h / 4) in omega arith)
      (λ not. let a = p.side not in omega arith) in
      let all : j ≡ 0 → v.seen ≡ f.history = top.whole in
      let begins : StartsWith (f.history ++ more) (v.seen ++ more) = begins_more j f.history more v.seen known.begins all p.kept in
      let grew : grown v.seen entry ≡ v.seen ++ more = grown_is v.seen entry in
      let at_first : 0 < length more → j ≡ 0 = first_with j entry p.kept in
      let joins : 0 < length more → (length more ≡ 1) × (0 < times (h / 4) v.own) = (λ some_more. let q = p.mine some_more in (q.0, top.drawn q.1)) in
      let lawful : law (f.history ++ more) = dite (ℕ_discrete (length more) 0)
      (λ none_more. subst law (sym (nothing_more f.history more (no_entries entry none_more))) r.lawful)
      (λ some_more. subst law (grew ∙ ap (λ l. l ++ more) (all (at_first (omega arith)))) (p.legal (omega arith))) in
      let two = named_up j c v.common f.common (on 1 m) (on 2 m) p.common (λ some_name. known.exact (holds_named j some_name v.held some_hold)) (held_once law at_home durable_of common_of k s r id m at 1) (held_once law at_home durable_of common_of k s r id m at 2) in
      let raised : f.common ≤ c' = two.0 in let was_covered = sp.covered in
      let covers : min e' (2 ^ 60) ≤ c' = covered_after j d f.backed c' (λ one. let a = p.covered one in let b : c' ≡ c = common_here j c f.common (omega arith) in omega arith) (omega arith) in
      let wide = sp.wide in let stops = known.stops in let halted : g ≤ v.halted = p.halted in
      let kept_rule : Rule k record { words = set s.words (j + 2) y; homes = set s.homes j (some (Some x)); views = set s.views id m' } =
      moved law at_home durable_of common_of grows k s r id m m' j h y more e' c' (set s.homes j (some (Some x))) at was (omega arith) (omega arith) (omega arith) (λ z. let c = p.counted z in omega arith) p.kept joins lawful
      (risen_above j d f.backed (λ one. let a = top.floor one in let b = p.floor one in omega arith)) (backed_else j d f.backed)
      covers
      two.0 two.1
      (λ i other. set_else s.homes j i (some (Some x)) other) (length-set s.homes j (some (Some x))) refl refl
      (λ i other. held_else i j v.held other)
      alone (omega arith) (omega arith) (omega arith)
      (λ _. record {
        value = x;
        there = set_here s.homes j (some (Some x)) (omega arith);
        keeps = subst (λ (z : ℕ × ℕ). at_home j z.0 z.1 (f.history ++ more) f.durable x) (λ i. (sym turn i, sym gone i)) (subst (λ l. at_home j n g l f.durable x) (sym begins.1) (grows j n g v.durable f.durable (v.seen ++ more) begins.0 x (subst (λ l. at_home j n g l v.durable x) grew p.meets) known.lasts));
        backed = λ one. let a = backed_here j d f.backed one in let z : ℕ = e' in let q : z ≡ d = a in let goal : z ≤ durable_of x = omega arith in goal;
        covers = p.covered;
        common = λ some_name. sym (common_here j c f.common some_name);
      })
      (knows_left k f s.words s.homes (set s.homes j (some (Some x))) m j h y n d c more lost was refl forth turn all p.kept apart (λ some_more. let q = joins some_more in (here.counted (at_first some_more), q.0, q.1)) (omega arith) (λ i other. set_else s.homes j i (some (Some x)) other)
      (every_map _ _ lost (λ (u : GivenUp V) q. record {
        word = y;
        there = ap (λ (z : ℕ). get_elem? (set s.words (j + 2) y) (z + 2)) q.0 ∙ set_here s.words (j + 2) y (below_length s.words (j + 2) h was);
        gone = gone ∙ q.2;
        home = ap (λ (z : ℕ). get_elem? (set s.homes j (some (Some x))) z) q.0 ∙ (set_here s.homes j (some (Some x)) (omega arith) ∙ ap (λ (z : V). some (some (Some z))) (sym q.1));
      }) lost_here) p.lives known)
      (dite (ℕ_discrete j 0)
      (λ z. knows_me k (after f more e' c') s.views id m' (below_length s.views id m at) (λ some_number. let whole = known.wholes in p.lives (omega arith)) (ap (λ l. l ++ more) (all z)))
      (λ nz. knows_still k f (after f more e' c') s.views id m m' at (ap length (nothing_more f.history more (p.kept nz))) refl (omega (arith, length-append v.seen more)) (omega arith) r.known)) in (
        m',
        gives,
        tt,
        subst (λ (z : List ℕ × List (maybe.Option (Option V))). Rule k record { words = z.0; homes = z.1; views = set s.views id m' })
            (λ i. (set s.words (j + 2) (up (sym is i)), sym (ap (put_back s.homes) carried) i)) kept_rule,
        (refl, refl, refl),
      )
    where
      no_entries : (entry : Option E) → length (entries_of entry) ≡ 0 → entries_of entry ≡ []
      no_entries None none_more = refl
      no_entries (Some e) none_more = absurd (omega arith)

      holds_named : (j : ℕ) → 0 < names j → (held : List Hold) → 0 < held_at j held → 0 < held_at 1 held + held_at 2 held
      holds_named j some_name held some_hold = dite (ℕ_discrete j 1)
          (λ e. let h : held_at j held ≡ held_at 1 held = ap (λ (z : ℕ). held_at z held) e in omega arith)
          (λ ne. let two : j ≡ 2 = omega arith in let h : held_at j held ≡ held_at 2 held = ap (λ (z : ℕ). held_at z held) two in omega arith)

  departs : (k : Opening V) (slots id : ℕ) (me : Mine V E) (j n g a : ℕ) (up : ℕ → ℕ) (entry : Option E) (x : V) → j < slots → me.1 ≡ (j, Some x) ∷ rest me.1 → Departing law at_home durable_of common_of j n g up entry x me.0.view
      → Allows (Rule k) slots id me (j + 2) up (left entry (durable_of x) (common_of x) n (step slots (j + 2) a 0 none) me)
  departs k slots id me j n g a up entry x inside carried p s r deep at small =
      let v : View V E = me.0.view in let same = grown_is v.seen entry in let joins = joining_is entry (word_at j v.held / 4) v.joined in
      let t = departs_at k slots id me j n g up entry x [] tt inside carried p s r deep at small in let b : j ≡ (j + 2) - 2 = omega arith in
      (t.0, t.1, t.2, t.3, (subst (λ (z : ℕ). t.0.view ≡ without entry z n (durable_of x) (common_of x) v) b (t.4.0 ∙ (λ i. record v { seen = sym same i; joined = sym joins i; backed = backed_after j (durable_of x) v.backed; common = common_after j (common_of x) v.common; reached = reach j n ∷ v.reached; held = except j v.held })), t.4.1, t.4.2))

  abandons_by : (k : Opening V) (slots id : ℕ) (me : Mine V E) (j n a : ℕ) (up : ℕ → ℕ) (x : V) → j < slots → me.1 ≡ (j, Some x) ∷ rest me.1 → Departing law at_home durable_of common_of j n 1 up None x me.0.view
      → Allows (Rule k) slots id me (j + 2) up (abandons (x ∷ []) (durable_of x) (common_of x) n (step slots (j + 2) a 0 none) me)
  abandons_by k slots id me j n a up x inside carried p s r deep at small =
      let v : View V E = me.0.view in let same : v.seen ≡ v.seen ++ [] = sym (append-nil v.seen) in
      let t = departs_at k slots id me j n 1 up None x (gone_at j x ∷ []) ((refl, refl, refl), tt) inside carried p s r deep at small in let b : j ≡ (j + 2) - 2 = omega arith in
      (t.0, t.1, t.2, t.3, (subst (λ (z : ℕ). t.0.view ≡ abandoned_with z (x ∷ []) (without None z n (durable_of x) (common_of x) v)) b (t.4.0 ∙ (λ i. record v { seen = sym same i; joined = v.joined; backed = backed_after j (durable_of x) v.backed; common = common_after j (common_of x) v.common; reached = reach j n ∷ v.reached; held = except j v.held; given_up = gone_at j x ∷ v.given_up })), t.4.1, t.4.2))

module _ {V E : Type 0} (legal : List V → List E → Type 0) (at_home : List V → ℕ → ℕ → ℕ → List E → ℕ → V → Type 0) (durable_of common_of : V → ℕ) (grows : (first : List V) (station number given durable later : ℕ) (history more : List E) (x : V) → at_home first station number given history durable x → durable ≤ later → at_home first station number given (history ++ more) later x) where
  pub leaves : (k : Opening V) (slots id : ℕ) (me : Me (Option V) (Mind V E)) (j n n' g d c a : ℕ) (up : ℕ → ℕ) (entry entry' : Option E) (x : V) (v : View V E) → entry' ≡ entry → d ≡ durable_of x → c ≡ common_of x → n' ≡ n → me.0.view ≡ v
      → Departing (legal v.first) (at_home v.first) durable_of common_of j n g up entry x v → j < slots → me.1 ≡ (j, Some x) ∷ rest me.1
      → Allows (RuleOf legal at_home durable_of common_of k) slots id me (j + 2) up (left entry' d c n' (step slots (j + 2) a 0 none) me)
  leaves k slots id me j n n' g d c a up entry entry' x v joins durable common number is departing inside carried s r deep at small =
      let p = subst (λ (z : View V E). Departing (legal z.first) (at_home z.first) durable_of common_of j n g up entry x z) (sym is) departing in
      let q = subst (λ (fs : List V). Departing (legal fs) (at_home fs) durable_of common_of j n g up entry x me.0.view) (r.each_seat id me.0 at).firsts p in
      subst (λ (z : Option E × ℕ × ℕ × ℕ). Allows (RuleOf legal at_home durable_of common_of k) slots id me (j + 2) up (left z.0 z.1 z.2 z.3 (step slots (j + 2) a 0 none) me)) (λ i. (sym joins i, sym durable i, sym common i, sym number i))
      (departs (legal (first_of k)) (at_home (first_of k)) durable_of common_of (grows (first_of k)) k slots id me j n g a up entry x inside carried q) s r deep at small

  pub gives_up : (k : Opening V) (slots id : ℕ) (me : Me (Option V) (Mind V E)) (j n n' d c a : ℕ) (up : ℕ → ℕ) (x : V) (xs : List V) (v : View V E) → xs ≡ x ∷ [] → d ≡ durable_of x → c ≡ common_of x → n' ≡ n → me.0.view ≡ v
      → Departing (legal v.first) (at_home v.first) durable_of common_of j n 1 up None x v → j < slots → me.1 ≡ (j, Some x) ∷ rest me.1
      → Allows (RuleOf legal at_home durable_of common_of k) slots id me (j + 2) up (abandons xs d c n' (step slots (j + 2) a 0 none) me)
  gives_up k slots id me j n n' d c a up x xs v values durable common number is departing inside carried s r deep at small =
      let p = subst (λ (z : View V E). Departing (legal z.first) (at_home z.first) durable_of common_of j n 1 up None x z) (sym is) departing in
      let q = subst (λ (fs : List V). Departing (legal fs) (at_home fs) durable_of common_of j n 1 up None x me.0.view) (r.each_seat id me.0 at).firsts p in
      subst (λ (z : List V × ℕ × ℕ × ℕ). Allows (RuleOf legal at_home durable_of common_of k) slots id me (j + 2) up (abandons z.0 z.1 z.2 z.3 (step slots (j + 2) a 0 none) me)) (λ i. (sym values i, sym durable i, sym common i, sym number i))
      (abandons_by (legal (first_of k)) (at_home (first_of k)) durable_of common_of (grows (first_of k)) k slots id me j n a up x inside carried q) s r deep at small
