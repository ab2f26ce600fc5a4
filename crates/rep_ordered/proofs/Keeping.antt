-- A step keeps the rule: the frames, each of which builds the rule once for a kind of change.
use Rattle.std.proofs.Common.{◌≡◌, ◌≢◌, ℕ, ◌+◌, ◌/◌, ◌<◌, ◌≤◌, Option, List, [], ◌∷◌, ◌++◌, length, set, ⊎_elim, sym, ap, ◌∙◌, subst, arith, length-append, length-set}
use Rattle.std.proofs.lemmas.List.{append-nil}
use Rattle.rep_types.proofs.Lists.{empty_by_length}
use mathlib.Core.Option as maybe
use mathlib.Core.Option.{some}
use mathlib.Core.Logic.{dite}
use native.Mathlib.Decide.{ℕ_discrete}
use lib.ListN.{get_elem?}
use Rattle.atomic_table.proofs.Lists.{at_set, set_here, set_else}
use Rattle.rep_ordered.specs.declared.view.GivenUp.{GivenUp}
use Rattle.rep_ordered.specs.declared.view.Hold.{Hold}
use Rattle.rep_ordered.specs.declared.view.Mind.{Mind}
use Rattle.rep_ordered.specs.declared.view.View.{View}
use Rattle.rep_ordered.specs.declared.rule.Opening.{Opening}
use Rattle.rep_ordered.specs.Counts.{total, times, once_below}
use Rattle.rep_ordered.specs.Views.{Every, HasAll, StartsWith, held_at, word_at, allowance_of, count_of, drew, on, halted_of, Placed}
use Rattle.rep_ordered.specs.Rule.{Figures, Spelled, Dealt, HoldIsRight, Knows, Known, Station, Kept}
use Rattle.rep_ordered.proofs.Shapes.{Moment, Homes}
use Rattle.rep_ordered.proofs.Sums.{total_at, total_set, total_two, total_only, every_at, every_map, below_length}

pub no_longer : {A : Type 0} (xs front : List A) → StartsWith xs front → length xs ≤ length front → xs ≡ front
no_longer xs front h l = go h.0 h.1 (let e : length xs ≡ length (front ++ h.0) = ap length h.1 in omega (arith, length-append front h.0))
  where
    go : {A : Type 0} {xs front : List A} (rest : List A) → xs ≡ front ++ rest → length rest ≡ 0 → xs ≡ front
    go {A} {xs} {front} [] e none_left = e ∙ append-nil front
    go (x ∷ rest) e none_left = absurd (omega arith)

-- who holds station 0 has seen the whole history
pub seen_whole : {E : Type 0} (f : Figures E) (words own : List ℕ) (seen : List E) (held : List Hold) → Every (HoldIsRight f words own seen) held → 0 < held_at 0 held → seen ≡ f.history
seen_whole f words own seen [] all some_hold = absurd (omega arith)
seen_whole f words own seen (h ∷ hs) all some_hold = dite (ℕ_discrete h.station 0) (λ e. all.0.whole e) (λ ne. seen_whole f words own seen hs all.1 (omega arith))

module _ {V E : Type 0} where
  pub deals : (k : Opening V) (next next' : ℕ) (views : List (Mind V E)) (id : ℕ) (v w : Mind V E) → get_elem? views id ≡ some v → Dealt k next views
      → next' + w.view.allowance ≡ next + v.view.allowance → next' + length v.view.own ≡ next + length w.view.own
      → ((x : ℕ) → times x w.view.own + once_below x next ≡ times x v.view.own + once_below x next') → Dealt k next' (set views id w)
  deals k next next' views id v w at d allowed counted drawn = let t = d.tickets in let m = d.many in record {
    tickets = let s = total_set allowance_of views id v w at in omega arith;
    many = let s = total_set count_of views id v w at in omega arith;
    drawn = λ x. let s = total_set (drew x) views id v w at in let e = d.drawn x in let n = drawn x in omega arith;
  }

  -- the seat that steps has seen the whole history
  pub knows_me : (k : Opening V) (f : Figures E) (views : List (Mind V E)) (id : ℕ) (w : Mind V E) → id < length views → (0 < k.whole → 0 < w.view.allowance + length w.view.own) → w.view.seen ≡ f.history → Known k f (set views id w)
  knows_me k f views id w inside lives all = record {
    seat = id;
    mind = w;
    there = set_here views id w inside;
    lives = lives;
    knows = let e : length w.view.seen ≡ length f.history = ap length all in omega arith;
  }

  -- the history stays, and the seat that steps has seen no less
  pub knows_still : (k : Opening V) (f f' : Figures E) (views : List (Mind V E)) (id : ℕ) (v w : Mind V E) → get_elem? views id ≡ some v → length f'.history ≡ length f.history
      → (v.view.allowance + length v.view.own ≡ w.view.allowance + length w.view.own) → length v.view.seen ≤ length w.view.seen → length v.told ≤ length w.told → Known k f views → Known k f' (set views id w)
  knows_still k f f' views id v w at same lives seen told known = dite (ℕ_discrete known.seat id)
      (λ e. let is : known.mind ≡ v = maybe.some-injective known.mind v (sym known.there ∙ (ap (get_elem? views) e ∙ at)) in
      let a : length known.mind.view.seen ≡ length v.view.seen = ap (λ (z : Mind V E). length z.view.seen) is in let b : length known.mind.told ≡ length v.told = ap (λ (z : Mind V E). length z.told) is in
      let c : known.mind.view.allowance + length known.mind.view.own ≡ v.view.allowance + length v.view.own = ap (λ (z : Mind V E). z.view.allowance + length z.view.own) is in let l = known.lives in let n = known.knows in record {
        seat = id;
        mind = w;
        there = set_here views id w (below_length views id v at);
        lives = λ some. let p = l some in omega arith;
        knows = omega arith;
      })
      (λ ne. let n = known.knows in record {
        seat = known.seat;
        mind = known.mind;
        there = set_else views id known.seat w ne ∙ known.there;
        lives = known.lives;
        knows = omega arith;
      })

  -- So many numbers may be drawn, and these were, by a seat with this view: they fit what it holds and what joined the history.
  pub record Draws (k : Opening V) (f : Figures E) (words : List ℕ) (view : View V E) (allowance : ℕ) (own : List ℕ) : Type 0 where
    pub holds : Every (HoldIsRight f words own view.seen) view.held
    pub lives : 0 < length view.held → 0 < k.whole → 0 < allowance + length own
    pub placed : Placed k.start f.history own view.joined
    pub idle : 0 < k.whole → allowance + length own ≡ 0 → view.halted ≡ 0

  -- what a seat knows stays so where only its numbers change
  pub knows_numbers : {k : Opening V} {f : Figures E} (words : List ℕ) (homes : List (maybe.Option (Option V))) (m : Mind V E) (allowance : ℕ) (own : List ℕ) → Draws k f words m.view allowance own
      → Knows k f words homes m → Knows k f words homes (record m { view = record (m.view) { allowance = allowance; own = own } })
  knows_numbers words homes m allowance own draws known = record {
    starts = known.starts;
    wholes = known.wholes;
    firsts = known.firsts;
    begins = known.begins;
    told = known.told;
    lasts = known.lasts;
    stops = known.stops;
    stays = known.stays;
    below = known.below;
    named = known.named;
    exact = known.exact;
    reached = known.reached;
    holds = draws.holds;
    lives = draws.lives;
    gone = known.gone;
    placed = draws.placed;
    idle = draws.idle;
  }

  -- where a word changes that is none of a station's, and the figures rise, what a seat knows stays so
  pub knows_on : (k : Opening V) (f : Figures E) (next durable stop : ℕ) (words words' : List ℕ) (homes : List (maybe.Option (Option V))) (v : Mind V E) → f.durable ≤ durable → f.stop ≤ stop → (0 < f.stop → durable ≤ f.durable)
      → ((j : ℕ) → get_elem? words' (j + 2) ≡ get_elem? words (j + 2)) → Knows k f words homes v → Knows k (record f { next = next; durable = durable; stop = stop }) words' homes v
  knows_on k f next durable stop words words' homes v up halts over same known = let a = known.lasts in let b = known.stops in record {
    starts = known.starts;
    wholes = known.wholes;
    firsts = known.firsts;
    begins = known.begins;
    told = known.told;
    lasts = omega arith;
    stops = omega arith;
    stays = λ halted. let c = known.stays halted in let d = over (omega arith) in omega arith;
    below = known.below;
    named = known.named;
    exact = known.exact;
    reached = λ j w e. known.reached j w (sym (same j) ∙ e);
    holds = every_map _ _ v.view.held (λ (h : Hold) r. record { word = same h.station ∙ r.word; taken = r.taken; floor = r.floor; drawn = r.drawn; whole = r.whole }) known.holds;
    lives = known.lives;
    gone = every_map _ _ v.view.given_up (λ (g : GivenUp V) o. record { word = o.word; there = same g.station ∙ o.there; gone = o.gone; home = o.home }) known.gone;
    placed = known.placed;
    idle = known.idle;
  }

module _ {V E : Type 0} (law : List E → Type 0) (at_home : ℕ → ℕ → ℕ → List E → ℕ → V → Type 0) (durable_of common_of : V → ℕ) where
  -- a station that a seat holds has one holder, and is held once
  pub one_holder : (k : Opening V) (s : Moment V E) (r : Kept law at_home durable_of common_of k s) (id : ℕ) (v : Mind V E) → get_elem? s.views id ≡ some v → (i : ℕ) → 0 < held_at i v.view.held → total (on i) s.views ≤ 1
  one_holder k s r id v at i some_hold = let known = r.each_seat id v at in let top = every_at (HoldIsRight r.figures s.words v.view.own v.view.seen) i v.view.held some_hold known.holds in
      let here = r.each_station i (word_at i v.view.held) top.word in let counts = here.counts in omega arith

  pub held_once : (k : Opening V) (s : Moment V E) (r : Kept law at_home durable_of common_of k s) (id : ℕ) (v : Mind V E) → get_elem? s.views id ≡ some v → (i : ℕ) → held_at i v.view.held ≤ 1
  held_once k s r id v at i = dite (ℕ_discrete (held_at i v.view.held) 0)
      (λ none_held. omega arith)
      (λ held. let a = one_holder k s r id v at i (omega arith) in let mine = total_at (on i) s.views id v at in omega arith)

  -- the others have nothing left, have drawn nothing, hold nothing, and know of no halt
  pub others_idle : (k : Opening V) (s : Moment V E) (r : Kept law at_home durable_of common_of k s) (id : ℕ) (v : Mind V E) → get_elem? s.views id ≡ some v → v.view.allowance + length v.view.own ≡ v.view.whole
      → (i : ℕ) (d : Mind V E) → i ≢ id → get_elem? s.views i ≡ some d → (0 < k.whole) × (d.view.allowance + length d.view.own ≡ 0) × (d.view.held ≡ []) × (d.view.halted ≡ 0)
  others_idle k s r id v at all i d apart there = let known = r.each_seat i d there in let mine = r.each_seat id v at in let wholes = mine.wholes in let dealt = r.dealt in let tickets = dealt.tickets in let many = dealt.many in
      let a = total_two allowance_of s.views id i v d (λ e. apart (sym e)) at there in let b = total_two count_of s.views id i v d (λ e. apart (sym e)) at there in
      let idle : d.view.allowance + length d.view.own ≡ 0 = omega arith in dite (ℕ_discrete k.whole 0)
      (λ z. let one_seat = r.lone z in let p = below_length s.views id v at in let q = below_length s.views i d there in absurd (apart (omega arith)))
      (λ nz. let some_number : 0 < k.whole = omega arith in (some_number, idle, empty_by_length d.view.held (dite (ℕ_discrete (length d.view.held) 0) (λ e. e) (λ ne. let l = known.lives (omega arith) some_number in absurd (omega arith))), known.idle some_number idle))

  -- a seat that has every number has seen the whole history
  pub knows_whole : (k : Opening V) (s : Moment V E) (r : Kept law at_home durable_of common_of k s) (id : ℕ) (m : Mind V E) → get_elem? s.views id ≡ some m → m.view.allowance + length m.view.own ≡ m.view.whole → m.told ≡ [] → r.figures.history ≡ m.view.seen
  knows_whole k s r id m at all told_none = let mine = r.each_seat id m at in let idle = others_idle k s r id m at all in let o = r.known in let knows = o.knows in let none_told : length m.told ≡ 0 = ap length told_none in dite (ℕ_discrete o.seat id)
      (λ same. let is : o.mind ≡ m = maybe.some-injective o.mind m (sym o.there ∙ (ap (get_elem? s.views) same ∙ at)) in
      let p : length o.mind.view.seen ≡ length m.view.seen = ap (λ (u : Mind V E). length u.view.seen) is in let q : length o.mind.told ≡ length m.told = ap (λ (u : Mind V E). length u.told) is in
      no_longer r.figures.history m.view.seen mine.begins (omega arith))
      (λ other. let t = idle o.seat o.mind other o.there in let l = o.lives t.0 in let e = t.1 in absurd (omega arith))

  -- and knows of every halt
  pub knows_halt : (k : Opening V) (s : Moment V E) (r : Kept law at_home durable_of common_of k s) (id : ℕ) (m : Mind V E) → get_elem? s.views id ≡ some m → HasAll m.view → r.figures.stop ≡ m.view.halted
  knows_halt k s r id m at all = let idle = others_idle k s r id m at all in let known = r.each_seat id m at in let stops = known.stops in let stopped = r.stopped in
      let halts : total halted_of s.views ≡ m.view.halted = total_only halted_of s.views id m at (λ i d apart there. (idle i d apart there).3) in omega arith

  -- a step of the seat id, whose view v becomes w
  pub rebuilt : (k : Opening V) (s : Moment V E) (r : Kept law at_home durable_of common_of k s) (id : ℕ) (v w : Mind V E) (words' : List ℕ) (homes' : Homes V) (f' : Figures E) → get_elem? s.views id ≡ some v
      → Spelled k f' words' (length homes')
      → f'.next + w.view.allowance ≡ r.figures.next + v.view.allowance → f'.next + length v.view.own ≡ r.figures.next + length w.view.own
      → ((x : ℕ) → times x w.view.own + once_below x r.figures.next ≡ times x v.view.own + once_below x f'.next)
      → ((j y c : ℕ) → get_elem? words' (j + 2) ≡ some y → c + on j v ≡ total (on j) s.views + on j w → Station law at_home durable_of common_of k f' homes' c j y)
      → Knows k f' words' homes' w
      → ((i : ℕ) (d : Mind V E) → i ≢ id → get_elem? s.views i ≡ some d → Knows k f' words' homes' d)
      → Known k f' (set s.views id w)
      → law f'.history
      → f'.stop + v.view.halted ≤ r.figures.stop + w.view.halted
      → Kept law at_home durable_of common_of k record { words = words'; homes = homes'; views = set s.views id w }
  rebuilt k s r id v w words' homes' f' at spelled allowed counted drawn stations mine others known lawful stopped = record {
    figures = f';
    spelled = spelled;
    dealt = deals k r.figures.next f'.next s.views id v w at r.dealt allowed counted drawn;
    each_station = λ j y e. stations j y _ e (total_set (on j) s.views id v w at);
    each_seat = λ i d e. ⊎_elim (λ (t : (i ≡ id) × (w ≡ d)). subst (Knows k f' words' homes') t.1 mine) (λ (t : (i ≢ id) × (get_elem? s.views i ≡ some d)). others i d t.0 t.1) (at_set s.views id i w d e);
    known = known;
    lone = λ none. length-set s.views id w ∙ r.lone none;
    lawful = lawful;
    stopped = let a = r.stopped in let b = total_set halted_of s.views id v w at in omega arith;
  }

  module _ (grows : (station number given durable later : ℕ) (history more : List E) (x : V) → at_home station number given history durable x → durable ≤ later → at_home station number given (history ++ more) later x) where
    later_home : (n j g durable later : ℕ) (history : List E) (x : V) → at_home j n g history durable x → durable ≤ later → at_home j n g history later x
    later_home n j g durable later history x h up = subst (λ l. at_home j n g l later x) (append-nil history) (grows j n g durable later history [] x h up)

    -- a step that changes no station: the figures rise
    pub quiet : (k : Opening V) (s : Moment V E) (r : Kept law at_home durable_of common_of k s) (id : ℕ) (v w : Mind V E) (words' : List ℕ) (next durable stop : ℕ) → get_elem? s.views id ≡ some v
        → r.figures.next ≤ next → r.figures.durable ≤ durable → r.figures.stop ≤ stop → (0 < r.figures.stop → durable ≤ r.figures.durable)
        → ((j : ℕ) → get_elem? words' (j + 2) ≡ get_elem? s.words (j + 2))
        → Spelled k (record r.figures { next = next; durable = durable; stop = stop }) words' (length s.homes)
        → next + w.view.allowance ≡ r.figures.next + v.view.allowance → next + length v.view.own ≡ r.figures.next + length w.view.own
        → ((x : ℕ) → times x w.view.own + once_below x r.figures.next ≡ times x v.view.own + once_below x next)
        → w.view.held ≡ v.view.held
        → Knows k (record r.figures { next = next; durable = durable; stop = stop }) words' s.homes w
        → Known k (record r.figures { next = next; durable = durable; stop = stop }) (set s.views id w)
        → stop + v.view.halted ≤ r.figures.stop + w.view.halted
        → Kept law at_home durable_of common_of k record { words = words'; homes = s.homes; views = set s.views id w }
    quiet k s r id v w words' next durable stop at drawn_up durable_up stop_up over same spelled allowed counted drawn held mine known stopped =
        let f : Figures E = r.figures in rebuilt k s r id v w words' s.homes (record f { next = next; durable = durable; stop = stop }) at spelled allowed counted drawn
        (λ j y c e t. let o = r.each_station j y (sym (same j) ∙ e) in let on_same : on j w ≡ on j v = ap (held_at j) held in let a = o.within in let b = o.counts in let g = o.gone in record {
          begun = o.begun;
          within = omega arith;
          counts = omega arith;
          counted = o.counted;
          gone = omega arith;
          home = λ free. let h = o.home free in record { value = h.value; there = h.there; keeps = later_home (y / 4) j _ f.durable durable f.history h.value h.keeps durable_up; backed = h.backed; covers = h.covers; common = h.common };
        })
        mine
        (λ i d _ e. knows_on k f next durable stop s.words words' s.homes d durable_up stop_up over same (r.each_seat i d e))
        known
        r.lawful
        stopped
