-- A lock as it is made keeps the rule.
use Rattle.std.proofs.Common.{◌≡◌, ℕ, zero, suc, ◌+◌, ◌*◌, ◌/◌, ◌^◌, ◌<◌, ◌≤◌, min, Option, Some, None, List, [], ◌∷◌, map, length, replicate, sym, refl, ap, ◌∙◌, subst, arith}
use Rattle.std.specs.Prelude.{slice_get, IsSome}
use Rattle.std.proofs.lemmas.Option.{same_Some}
use mathlib.Core.Option.{some, some-injective, some-ne-none}
use lib.ListN.{get_elem?, length-map, length-replicate}
use Rattle.atomic_table.specs.Table.{opening}
use Rattle.rep_ordered.specs.declared.rule.Opening.{Opening}
use Rattle.rep_ordered.specs.Counts.{gave}
use Rattle.rep_ordered.specs.Views.{Every, names, opened, second_of, untold}
use Rattle.rep_ordered.specs.Rule.{Figures, Knows, Kept, first_of}
use Rattle.rep_ordered.specs.Ends.{AllCover, AllMeet, AllName}
use Rattle.rep_ordered.proofs.Owning.{knows_nothing}

later_word : (a b w : ℕ) (ws : List ℕ) (j : ℕ) → get_elem? (a ∷ b ∷ ws) (j + 2) ≡ some w → get_elem? ws j ≡ some w
later_word a b w ws j e = let up : j + 2 ≡ suc (suc j) = omega arith in sym (ap (get_elem? (a ∷ b ∷ ws)) up) ∙ e

in_replicate : (n x j w : ℕ) → get_elem? (replicate n x) j ≡ some w → (j < n) × (x ≡ w)
in_replicate zero x j w e = absurd (some-ne-none w (sym e))
in_replicate (suc n) x zero w e = (omega arith, some-injective x w e)
in_replicate (suc n) x (suc j) w e = let t = in_replicate n x j w e in let l = t.0 in (omega arith, t.1)

-- the value at j, in the three ways that it is read
at_values : {V : Type 0} (values : List V) (j : ℕ) → j < length values → (x : V) × (slice_get values j ≡ Some x) × (get_elem? (map some (map Some values)) j ≡ some (some (Some x)))
at_values [] j l = absurd (omega arith)
at_values (x ∷ xs) zero l = (x, refl, refl)
at_values (x ∷ xs) (suc j) l = at_values xs j (omega arith)

alone : {A : Type 0} (a b : A) (j : ℕ) → get_elem? (a ∷ []) j ≡ some b → (j ≡ 0) × (a ≡ b)
alone a b zero e = (refl, some-injective a b e)
alone a b (suc j) e = absurd (some-ne-none b (sym e))

module _ {V : Type 0} (durable_of common_of : V → ℕ) where
  -- the number that stations 1 and 2 name: without station 1 nobody names one, and it is the greatest
  abbrev shared : List V → ℕ
  shared values = second_of common_of (2 ^ 60) values

  all_share : (values : List V) → AllName common_of values → (j : ℕ) (x : V) → slice_get values j ≡ Some x → 0 < names j → common_of x ≡ shared values
  all_share [] named j x is some_name = absurd (let d : None ≡ Some x = is in cc)
  all_share (y ∷ []) named zero x is some_name = absurd (omega arith)
  all_share (y ∷ []) named (suc j) x is some_name = absurd (let d : None ≡ Some x = is in cc)
  all_share (y ∷ z ∷ zs) named j x is some_name = named.1 j x is some_name ∙ sym (named.1 1 z refl (omega arith))

  shared_covers : (durable : ℕ) (values : List V) → durable ≤ 2 ^ 60 → AllCover durable_of common_of values → min (second_of durable_of durable values) (2 ^ 60) ≤ shared values
  shared_covers durable [] low covered = omega arith
  shared_covers durable (y ∷ []) low covered = omega arith
  shared_covers durable (y ∷ z ∷ zs) low covered = covered 1 z refl refl

  known_share : (values : List V) → second_of common_of 0 values ≤ shared values
  known_share [] = omega arith
  known_share (y ∷ []) = omega arith
  known_share (y ∷ z ∷ zs) = omega arith

  backed_by : (durable : ℕ) (values : List V) → ((x : V) → slice_get values 1 ≡ Some x → durable ≤ durable_of x) → durable ≤ second_of durable_of durable values
  backed_by durable [] meet = omega arith
  backed_by durable (y ∷ []) meet = omega arith
  backed_by durable (y ∷ z ∷ zs) meet = meet z refl

  backs : (durable : ℕ) (values : List V) (j : ℕ) (x : V) → slice_get values j ≡ Some x → j ≡ 1 → second_of durable_of durable values ≤ durable_of x
  backs durable [] j x is one = absurd (let d : None ≡ Some x = is in cc)
  backs durable (y ∷ []) zero x is one = absurd (omega arith)
  backs durable (y ∷ []) (suc j) x is one = absurd (let d : None ≡ Some x = is in cc)
  backs durable (y ∷ z ∷ zs) j x is one = let same : z ≡ x = same_Some z x (sym (ap (slice_get (y ∷ z ∷ zs)) one) ∙ is) in let e = ap durable_of same in omega arith

module _ {V E : Type 0} (law : List E → Type 0) (at_home : ℕ → ℕ → ℕ → List E → ℕ → V → Type 0) (durable_of common_of : V → ℕ) where
  pub opens : (k : Opening V) (values : List V) (n : ℕ) → n ≡ length values → k.start + k.whole ≡ 2 ^ 60 + 1 → k.durable < k.start → k.start ≤ 2 ^ 60 + 1 → law [] → first_of k ≡ values → AllName common_of values → AllCover durable_of common_of values → AllMeet law at_home durable_of common_of k.start k.durable values
      → Kept law at_home durable_of common_of k (opening (k.start ∷ k.durable ∷ replicate n (4 * k.start)) (map Some values) (untold (opened durable_of common_of k.start k.whole (first_of k) k.durable)))
  opens k values n count wide low small lawful firsts named covered meet = let f : Figures E = record { history = []; next = k.start; durable = k.durable; stop = 0; backed = second_of durable_of k.durable values; common = shared durable_of common_of values } in
      let backed_too = ap (second_of durable_of k.durable) firsts in let common_too = ap (second_of common_of 0) firsts in let known = known_share durable_of common_of values in
      let lengths : length (map some (map Some values)) ≡ length values = length-map (map Some values) (λ (x : Option V). some x) ∙ length-map values (λ (x : V). Some x) in record {
        figures = f;
        spelled = record {
          wide = let e : length (replicate n (4 * k.start)) ≡ n = length-replicate n (4 * k.start) in omega arith;
          next_is = refl;
          durable_is = let e : k.durable ≡ k.durable + 2 ^ 63 * 0 = omega arith in ap some e;
          low = omega arith;
          stop_bit = omega arith;
          backed_up = backed_by durable_of common_of k.durable values (λ x is. (meet 1 x is).1 refl);
          covered = shared_covers durable_of common_of k.durable values (omega arith) covered;
          short = omega arith;
          small = omega arith;
        };
        dealt = record { tickets = omega arith; many = omega arith; drawn = λ x. omega arith };
        each_station = λ j w e. let t = in_replicate n (4 * k.start) j w (later_word k.start k.durable w (replicate n (4 * k.start)) j e) in let l = t.0 in let is = t.1 in let turn : k.start ≡ w / 4 = omega arith in let free : 0 ≡ gave w = omega arith in record {
          begun = omega arith;
          within = omega arith;
          counts = omega arith;
          counted = λ _. omega arith;
          gone = omega arith;
          home = λ _. let x = at_values values j (omega arith) in let m = meet j x.0 x.1 in record { value = x.0; there = x.2; keeps = subst (λ (z : ℕ × ℕ). at_home j z.0 z.1 [] k.durable x.0) (λ i. (turn i, free i)) m.0; backed = backs durable_of common_of k.durable values j x.0 x.1; covers = covered j x.0 x.1; common = all_share durable_of common_of values named j x.0 x.1 };
        };
        each_seat = λ i v e. subst (Knows k f (k.start ∷ k.durable ∷ replicate n (4 * k.start)) (map some (map Some values))) (alone _ v i e).1 (knows_nothing k f _ _ k.start k.whole (first_of k) k.whole k.durable (second_of durable_of k.durable (first_of k)) (second_of common_of 0 (first_of k)) refl refl refl (omega arith) (omega arith) (omega arith));
        known = record { seat = 0; mind = untold (opened durable_of common_of k.start k.whole (first_of k) k.durable); there = refl; lives = λ some_number. omega arith; knows = omega arith };
        lone = λ _. refl;
        lawful = lawful;
        stopped = omega arith;
      }

pub all_some : {V : Type 0} (values : List V) → Every IsSome (map Some values)
all_some [] = tt
all_some (x ∷ xs) = (refl, all_some xs)

abbrev value_or : {V : Type 0} → V → Option V → V
value_or d None = d
value_or d (Some x) = x

abbrev first_or : {V : Type 0} → Option V → List (Option V) → Option V
first_or d [] = d
first_or d (x ∷ xs) = x

abbrev others : {V : Type 0} → List V → List V
others [] = []
others (x ∷ xs) = xs

pub same_values : {V : Type 0} (xs ys : List V) → map Some xs ≡ map Some ys → xs ≡ ys
same_values [] [] e = refl
same_values [] (y ∷ ys) e = absurd (let d = ap length e in omega arith)
same_values (x ∷ xs) [] e = absurd (let d = ap length e in omega arith)
same_values (x ∷ xs) (y ∷ ys) e = let first = ap (λ l. value_or x (first_or None l)) e in let behind = same_values xs ys (ap others e) in λ i. first i ∷ behind i
