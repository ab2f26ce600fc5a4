-- Seats are split and joined.
use Rattle.std.proofs.Common.{◌≡◌, ◌-◌, ◌≢◌, ℕ, ◌+◌, ◌/◌, ◌<◌, ◌≤◌, max, Option, List, [], ◌∷◌, ◌++◌, length, set, ⊎_elim, sym, refl, ap, ◌∙◌, subst, arith, length-append, length-set}
use mathlib.Core.Option as maybe
use mathlib.Core.Option.{some, none}
use mathlib.Core.Logic.{dite}
use native.Mathlib.Decide.{ℕ_discrete}
use lib.ListN.{get_elem?}
use Rattle.atomic_table.specs.Table.{State, Splits, Joins}
use Rattle.atomic_table.proofs.Lists.{at_set, at_snoc, at_longer, set_here, set_else}
use Rattle.rep_ordered.specs.declared.view.Hold.{Hold}
use Rattle.rep_ordered.specs.declared.view.Mind.{Mind}
use Rattle.rep_ordered.specs.declared.view.View.{View}
use Rattle.rep_ordered.specs.declared.rule.Opening.{Opening}
use Rattle.rep_ordered.specs.Counts.{one}
use Rattle.rep_ordered.specs.Views.{held_at, allowance_of, count_of, drew, on, halted_of, spent, giving, given, both, untold}
use Rattle.rep_ordered.specs.Rule.{Figures, Known, Knows, Station, Kept}
use Rattle.rep_ordered.proofs.Keeping.{knows_numbers}
use Rattle.rep_ordered.proofs.Sums.{total_append, total_snoc, total_at, total_set, total_two, every_append, every_map, below_length, reached_both}
use Rattle.rep_ordered.proofs.Owning.{knows_nothing, placed_none, placed_both}

-- the greater of two that know of the halt and the durable number
stays_both : (durable a b c d : ℕ) → (0 < a → durable ≤ c) → (0 < b → durable ≤ d) → 0 < max a b → durable ≤ max c d
stays_both durable a b c d p q some_halt = dite (ℕ_discrete a 0) (λ none. let t = q (omega arith) in omega arith) (λ some. let t = p (omega arith) in omega arith)

module _ {V E : Type 0} where
  -- the one that knew the whole history goes on as this one, which has seen and was told as much, and may still act
  known_by : (k : Opening V) (f : Figures E) (views : List (Mind V E)) (id : ℕ) (b o u : Mind V E) → get_elem? views id ≡ some b → o ≡ u → (0 < k.whole → 0 < o.view.allowance + length o.view.own) → length f.history ≤ max (length o.view.seen) (length o.told)
      → length u.told ≤ max (length b.view.seen) (length b.told) → length u.view.seen ≤ max (length b.view.seen) (length b.told) → (0 < u.view.allowance + length u.view.own → 0 < b.view.allowance + length b.view.own) → Known k f views
  known_by k f views id b o u there is lives knows told seen count =
      let p : length o.view.seen ≡ length u.view.seen = ap (λ (z : Mind V E). length z.view.seen) is in let q : length o.told ≡ length u.told = ap (λ (z : Mind V E). length z.told) is in
      let c : o.view.allowance + length o.view.own ≡ u.view.allowance + length u.view.own = ap (λ (z : Mind V E). z.view.allowance + length z.view.own) is in
      record { seat = id; mind = b; there = there; lives = λ some_number. let g = lives some_number in count (omega arith); knows = omega arith }

module _ {V E : Type 0} (law : List E → Type 0) (at_home : ℕ → ℕ → ℕ → List E → ℕ → V → Type 0) (durable_of common_of : V → ℕ) where
  abbrev Rule : Opening V → State (Option V) (Mind V E) → Type 0
  Rule = Kept law at_home durable_of common_of

  -- a station stays as it is where as many hold it
  recounted : {k : Opening V} {f : Figures E} {homes : List (maybe.Option (Option V))} {j w before after : ℕ} → Station law at_home durable_of common_of k f homes before j w → before ≡ after → Station law at_home durable_of common_of k f homes after j w
  recounted {k} {f} {homes} {j} {w} o same = subst (λ (count : ℕ). Station law at_home durable_of common_of k f homes count j w) same o

  pub splits : (k : Opening V) (id : ℕ) (m : Mind V E) (give : ℕ) → 0 < give → give < m.view.allowance → Splits (Rule k) id m (record m { view = giving give m.view }) (untold (given give m.view))
  splits k id m give some_given less s r at = let f : Figures E = r.figures in let v : View V E = m.view in let d = r.dealt in let left : Mind V E = record m { view = giving give v } in let right : Mind V E = untold (given give v) in let vs : List (Mind V E) = set s.views id left in let known = r.each_seat id m at in
      let tickets = d.tickets in let many = d.many in let enough = total_at allowance_of s.views id m at in record {
        figures = f;
        spelled = r.spelled;
        dealt = record {
          tickets = let a = total_set allowance_of s.views id m left at in let b = total_snoc allowance_of vs right in omega arith;
          many = let a = total_set count_of s.views id m left at in let b = total_snoc count_of vs right in omega arith;
          drawn = λ x. let a = total_set (drew x) s.views id m left at in let b = total_snoc (drew x) vs right in let c = d.drawn x in omega arith;
        };
        each_station = λ j w e. let o = r.each_station j w e in let a = total_set (on j) s.views id m left at in let b = total_snoc (on j) vs right in recounted o (omega arith);
        each_seat = λ i u e. ⊎_elim
            (λ (here : get_elem? vs i ≡ some u). ⊎_elim
            (λ (t : (i ≡ id) × (left ≡ u)). subst (Knows k f s.words s.homes) t.1 (knows_numbers s.words s.homes m (v.allowance - give) v.own (record { holds = known.holds; lives = λ _ _. omega arith; placed = known.placed; idle = λ _ none_left. absurd (omega arith) }) known))
            (λ (t : (i ≢ id) × (get_elem? s.views i ≡ some u)). r.each_seat i u t.1) (at_set s.views id i left u here))
            (λ (is : right ≡ u). subst (Knows k f s.words s.homes) is record {
              starts = known.starts;
              wholes = known.wholes;
              firsts = known.firsts;
              begins = known.begins;
              told = (f.history, refl);
              lasts = known.lasts;
              stops = known.stops;
              stays = known.stays;
              below = known.below;
              named = known.named;
              exact = λ holds. absurd (omega arith);
              reached = known.reached;
              holds = tt;
              lives = λ held _. absurd (omega arith);
              gone = tt;
              placed = placed_none k.start f.history;
              idle = λ _ none_left. absurd (omega arith);
            }) (at_snoc vs right u i e);
        known = let o = r.known in dite (ℕ_discrete o.seat id)
            (λ same. known_by k f _ id left o.mind m (at_longer vs (right ∷ []) id left (set_here s.views id left (below_length s.views id m at))) (maybe.some-injective o.mind m (sym o.there ∙ (ap (get_elem? s.views) same ∙ at))) o.lives o.knows (omega arith) (omega arith) (λ some_number. omega arith))
            (λ other. record {
              seat = o.seat;
              mind = o.mind;
              there = at_longer vs (right ∷ []) o.seat o.mind (set_else s.views id o.seat left other ∙ o.there);
              lives = o.lives;
              knows = o.knows;
            });
        lone = λ empty. absurd (omega arith);
        lawful = r.lawful;
        stopped = let a = total_set halted_of s.views id m left at in let b = total_snoc halted_of vs right in let c = r.stopped in omega arith;
      }

  pub joins : (k : Opening V) (id : ℕ) (m : Mind V E) (other : ℕ) (n : Mind V E) (start whole : ℕ) (first : List V) → m.view.start ≡ start → m.view.whole ≡ whole → m.view.first ≡ first → m.told ≡ [] → n.told ≡ [] → n.view.held ≡ []
      → Joins (Rule k) id m other n (record { view = both m.view n.view; told = n.view.seen }) (untold (spent start whole first))
  joins k id m other n start whole first starts wholes firsts told_none other_told_none nothing s r at apart there' = let f : Figures E = r.figures in let d = r.dealt in let v : View V E = m.view in let w : View V E = n.view in
      let b : Mind V E = record { view = both v w; told = w.seen } in let z : Mind V E = untold (spent start whole first) in let vs : List (Mind V E) = set s.views id b in
      let there : get_elem? s.views other ≡ some n = sym (set_else s.views id other b apart) ∙ there' in let kv = r.each_seat id m at in let kw = r.each_seat other n there in
      let my_start = kv.starts in let my_whole = kv.wholes in
      let mine_after : get_elem? (set vs other z) id ≡ some b = set_else vs other id z (λ e. apart (sym e)) ∙ set_here s.views id b (below_length s.views id m at) in record {
        figures = f;
        spelled = r.spelled;
        dealt = record {
          tickets = let t = d.tickets in let x = total_set allowance_of s.views id m b at in let y = total_set allowance_of vs other n z there' in omega arith;
          many = let t = d.many in let x = total_set count_of s.views id m b at in let y = total_set count_of vs other n z there' in let l : length (v.own ++ w.own) ≡ length v.own + length w.own = length-append v.own w.own in omega arith;
          drawn = λ i. let t = d.drawn i in let x = total_set (drew i) s.views id m b at in let y = total_set (drew i) vs other n z there' in let l = total_append (one i) v.own w.own in omega arith;
        };
        each_station = λ j y e. let o = r.each_station j y e in let p = total_set (on j) s.views id m b at in let q = total_set (on j) vs other n z there' in let free : on j n ≡ 0 = ap (held_at j) nothing in recounted o (omega arith);
        each_seat = λ i u e. ⊎_elim
            (λ (t : (i ≡ other) × (z ≡ u)). subst (Knows k f s.words s.homes) t.1 (knows_nothing k f s.words s.homes start whole first 0 0 0 0 (omega arith) (omega arith) (sym firsts ∙ kv.firsts) (omega arith) (omega arith) (omega arith)))
            (λ (t : (i ≢ other) × (get_elem? vs i ≡ some u)). ⊎_elim
            (λ (q : (i ≡ id) × (b ≡ u)). subst (Knows k f s.words s.homes) q.1 record {
              starts = kv.starts;
              wholes = kv.wholes;
              firsts = kv.firsts;
              begins = kv.begins;
              told = kw.begins;
              lasts = let x = kv.lasts in let y = kw.lasts in omega arith;
              stops = let x = kv.stops in let y = kw.stops in omega arith;
              stays = stays_both f.durable v.halted w.halted v.durable w.durable kv.stays kw.stays;
              below = let x = kv.below in let y = kw.below in omega arith;
              named = let x = kv.named in let y = kw.named in omega arith;
              exact = λ holds. let x = kv.exact holds in let y = kw.named in omega arith;
              reached = λ j y there_now. reached_both j (y / 4) v.reached w.reached (kv.reached j y there_now) (kw.reached j y there_now);
              holds = every_map _ _ v.held (λ (h : Hold) o. record { word = o.word; taken = o.taken; floor = o.floor; drawn = λ ticket. let x = o.drawn ticket in let l = total_append (one (h.word / 4)) v.own w.own in omega arith; whole = o.whole }) kv.holds;
              lives = λ held some_number. let x = kv.lives held some_number in let l : length (v.own ++ w.own) ≡ length v.own + length w.own = length-append v.own w.own in omega arith;
              gone = every_append _ v.given_up w.given_up kv.gone kw.gone;
              placed = placed_both k.start f.history v.own w.own v.joined w.joined kv.placed kw.placed;
              idle = λ some none_left. let l : length (v.own ++ w.own) ≡ length v.own + length w.own = length-append v.own w.own in let x = kv.idle some (omega arith) in let y = kw.idle some (omega arith) in omega arith;
            })
            (λ (q : (i ≢ id) × (get_elem? s.views i ≡ some u)). r.each_seat i u q.1) (at_set s.views id i b u t.1))
            (at_set vs other i z u e);
        known = let o = r.known in let l : length (v.own ++ w.own) ≡ length v.own + length w.own = length-append v.own w.own in let n' = o.knows in
            let empty : length m.told ≡ 0 = ap length told_none in let other_empty : length n.told ≡ 0 = ap length other_told_none in dite (ℕ_discrete o.seat id)
            (λ same. known_by k f _ id b o.mind m mine_after (maybe.some-injective o.mind m (sym o.there ∙ (ap (get_elem? s.views) same ∙ at))) o.lives n' (omega arith) (omega arith) (λ some_number. omega arith))
            (λ not_me. dite (ℕ_discrete o.seat other)
            (λ same. known_by k f _ id b o.mind n mine_after (maybe.some-injective o.mind n (sym o.there ∙ (ap (get_elem? s.views) same ∙ there))) o.lives n' (omega arith) (omega arith) (λ some_number. omega arith))
            (λ not_other. record {
              seat = o.seat;
              mind = o.mind;
              there = set_else vs other o.seat z not_other ∙ (set_else s.views id o.seat b not_me ∙ o.there);
              lives = o.lives;
              knows = o.knows;
            }));
        lone = λ empty. length-set vs other z ∙ (length-set s.views id b ∙ r.lone empty);
        lawful = r.lawful;
        stopped = let x = total_set halted_of s.views id m b at in let y = total_set halted_of vs other n z there' in let c = r.stopped in let bit = (r.spelled).stop_bit in let two = total_two halted_of s.views id other m n (λ e. apart (sym e)) at there in omega arith;
      }
