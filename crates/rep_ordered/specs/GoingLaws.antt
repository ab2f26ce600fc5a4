-- The laws of what calls make of a seat, for the proofs of clients.
use Rattle.std.proofs.Common.{◌≡◌, ℕ, zero, suc, ◌+◌, ◌*◌, ◌<◌, ◌≤◌, max, eqb, Option, Some, None, List, [], ◌∷◌, ◌++◌, length, if◌then◌else◌, eq-eqb, sym, refl, ap, ◌∙◌, subst, arith, length-append, append_assoc}
use Rattle.rep_ordered.specs.declared.view.Hold.{Hold}
use Rattle.rep_ordered.specs.declared.view.Reached.{Reached}
use Rattle.rep_ordered.specs.declared.view.View.{View}
use Rattle.rep_ordered.specs.Counts.{times}
use Rattle.rep_ordered.specs.Views.{StartsWith, Later, Sees, except, grown, hold, reach, reached_at, with_number, without, abandoned, giving, given, both}
use Rattle.rep_ordered.specs.Steps.{Entered, Learns}
use Rattle.rep_ordered.specs.Going.{Goes, Went, AllPassed}

-- ---- lists

pub append_nil : {A : Type 0} (l : List A) → l ++ [] ≡ l
append_nil [] = refl
append_nil (e ∷ es) = ap (λ z. e ∷ z) (append_nil es)

-- what begins with more begins with less
pub begins_on : {A : Type 0} (a b c : List A) → StartsWith b a → StartsWith c b → StartsWith c a
begins_on a b c p q = (p.0 ++ q.0, q.1 ∙ (ap (λ l. l ++ q.0) p.1 ∙ append_assoc a p.0 q.0))

pub begins_same : {A : Type 0} (a : List A) → StartsWith a a
begins_same a = ([], sym (append_nil a))

begins_grown : {E : Type 0} (seen : List E) (entry : Option E) → StartsWith (grown seen entry) seen
begins_grown seen None = begins_same seen
begins_grown seen (Some d) = (d ∷ [], refl)

pub times_append : (x : ℕ) (xs ys : List ℕ) → times x (xs ++ ys) ≡ times x xs + times x ys
times_append x [] ys = omega arith
times_append x (y ∷ xs) ys = let e = times_append x xs ys in omega arith

-- the only number of a list of one
pub times_one : (x t : ℕ) → 0 < times x (t ∷ []) → x ≡ t
times_one x t drawn = omega arith

pub reached_left : (j : ℕ) (rs ts : List Reached) → reached_at j rs ≤ reached_at j (rs ++ ts)
reached_left j [] ts = omega arith
reached_left j (r ∷ rs) ts = let s = reached_left j rs ts in let x : ℕ = if eqb j r.station then r.number else 0 in let y : ℕ = reached_at j rs in let z : ℕ = reached_at j (rs ++ ts) in let t : y ≤ z = s in let goal : max x y ≤ max x z = omega arith in goal

pub reached_right : (j : ℕ) (rs ts : List Reached) → reached_at j ts ≤ reached_at j (rs ++ ts)
reached_right j [] ts = omega arith
reached_right j (r ∷ rs) ts = let s = reached_right j rs ts in let x : ℕ = if eqb j r.station then r.number else 0 in let y : ℕ = reached_at j ts in let z : ℕ = reached_at j (rs ++ ts) in let t : y ≤ z = s in let goal : y ≤ max x z = omega arith in goal

-- a turn that was seen later
reached_up : (j i n : ℕ) (rs ts : List Reached) → ts ≡ reach i n ∷ rs → reached_at j rs ≤ reached_at j ts
reached_up j i n rs ts is = let x : ℕ = if eqb j i then n else 0 in let r : ℕ = reached_at j rs in let t : ℕ = reached_at j ts in let e : t ≡ max x r = ap (reached_at j) is in let goal : r ≤ t = omega arith in goal

-- the station that was entered last is left again
pub except_top : (j w d : ℕ) (hs : List Hold) → except j (hold j w d ∷ hs) ≡ hs
except_top j w d hs = subst (λ b. (if b then hs else hold j w d ∷ except j hs) ≡ hs) (sym (eq-eqb j j refl)) refl

module _ {V E : Type 0} where
  pub later_same : (v : View V E) → Later v v
  later_same v = record { same = refl; seen = begins_same v.seen; still = λ _. refl; durable = omega arith; halted = omega arith; stays = λ _. refl }

  -- ---- what a call makes of the view

  pub goes_same : (v : View V E) → Goes v v
  goes_same v = record { start = refl; whole = refl; first = refl; kept = refl; seen = begins_same v.seen; durable = omega arith; halted = omega arith; reached = λ j. omega arith }

  pub goes_on : (u v w : View V E) → Goes u v → Goes v w → Goes u w
  goes_on u v w a b = let d = a.durable in let e = b.durable in let f = a.halted in let h = b.halted in record {
    start = b.start ∙ a.start;
    whole = b.whole ∙ a.whole;
    first = b.first ∙ a.first;
    kept = b.kept ∙ a.kept;
    seen = begins_on u.seen v.seen w.seen a.seen b.seen;
    durable = omega arith;
    halted = omega arith;
    reached = λ j. let p = a.reached j in let q = b.reached j in omega arith;
  }

  -- a call that leaves the first number, the last, the first values and the count of numbers as they were
  goes_by : (v w u : View V E) → w ≡ u → (u.start ≡ v.start) × (u.whole ≡ v.whole) × (u.first ≡ v.first) × (u.allowance + length u.own ≡ v.allowance + length v.own) → StartsWith u.seen v.seen → v.durable ≤ u.durable → v.halted ≤ u.halted → ((j : ℕ) → reached_at j v.reached ≤ reached_at j u.reached) → Goes v w
  goes_by v w u is same seen durable halted reached = subst (Goes v) (sym is) record { start = same.0; whole = same.1; first = same.2; kept = same.3; seen = seen; durable = durable; halted = halted; reached = reached }

  pub goes_later : (v w : View V E) → Later v w → Goes v w
  goes_later v w l = goes_by v w _ l.same (refl, refl, refl, refl) l.seen l.durable l.halted (λ j. omega arith)

  pub goes_claimed : (v w : View V E) (number : ℕ) → w ≡ with_number number v → 0 < v.allowance → Goes v w
  goes_claimed v w number is some_left = goes_by v w _ is (refl, refl, refl, counted) (begins_same v.seen) (omega arith) (omega arith) (λ j. omega arith)
    where
      counted : (with_number number v).allowance + length (v.own ++ number ∷ []) ≡ v.allowance + length v.own
      counted = omega (arith, length-append v.own (number ∷ []))

  pub goes_left : (j n d c : ℕ) (entry : Option E) (v w : View V E) → w ≡ without entry j n d c v → Goes v w
  goes_left j n d c entry v w is = goes_by v w _ is (refl, refl, refl, refl) (begins_grown v.seen entry) (omega arith) (omega arith) (λ i. reached_up i j n v.reached _ refl)

  pub goes_gave_up : (j n d c : ℕ) (y : V) (v w : View V E) → w ≡ abandoned j y (without None j n d c v) → Goes v w
  goes_gave_up j n d c y v w is = goes_by v w _ is (refl, refl, refl, refl) (begins_same v.seen) (omega arith) (omega arith) (λ i. reached_up i j n v.reached _ refl)

  -- ---- the same of a seat that holds nothing at the end

  pub went_same : (v : View V E) → v.held ≡ [] → Went v v
  went_same v free = record { goes = goes_same v; free = free }

  pub went_on : (u v w : View V E) → Went u v → Went v w → Went u w
  went_on u v w a b = record { goes = goes_on u v w a.goes b.goes; free = b.free }

  pub went_later : (v w : View V E) → Later v w → v.held ≡ [] → Went v w
  went_later v w l free = record { goes = goes_later v w l; free = ap (λ (z : View V E). z.held) l.same ∙ free }

  pub went_claimed : (v w : View V E) (number : ℕ) → w ≡ with_number number v → v.held ≡ [] → 0 < v.allowance → Went v w
  went_claimed v w number is free some_left = record { goes = goes_claimed v w number is some_left; free = ap (λ (z : View V E). z.held) is ∙ free }

  -- ---- what the seat drew has passed

  pub passed_still : (j : ℕ) (v w : View V E) → reached_at j v.reached ≤ reached_at j w.reached → w.own ≡ v.own → AllPassed j v → AllPassed j w
  passed_still j v w up own passed x drawn = let drawn_before : times x w.own ≡ times x v.own = ap (times x) own in let p = passed x (omega arith) in omega arith

  pub passed_more : (j : ℕ) (v w : View V E) (number : ℕ) → reached_at j v.reached ≤ reached_at j w.reached → w.own ≡ v.own ++ number ∷ [] → number < reached_at j w.reached → AllPassed j v → AllPassed j w
  passed_more j v w number up own here passed x drawn = go (times x v.own) refl
    where
      go : (t : ℕ) → t ≡ times x v.own → x < reached_at j w.reached
      go zero e = let s = times_append x v.own (number ∷ []) in let counted : times x w.own ≡ times x (v.own ++ number ∷ []) = ap (times x) own in let is = times_one x number (omega arith) in omega arith
      go (suc t) e = let p = passed x (omega arith) in omega arith

  pub passed_joined : (j : ℕ) (v w u : View V E) → u.own ≡ v.own ++ w.own → u.reached ≡ v.reached ++ w.reached → AllPassed j v → AllPassed j w → AllPassed j u
  passed_joined j v w u own reached p q x drawn = let same : reached_at j u.reached ≡ reached_at j (v.reached ++ w.reached) = ap (reached_at j) reached in
      let l = reached_left j v.reached w.reached in let m = reached_right j v.reached w.reached in go (times x v.own) refl
    where
      go : (t : ℕ) → t ≡ times x v.own → x < reached_at j u.reached
      go zero e = let same : reached_at j u.reached ≡ reached_at j (v.reached ++ w.reached) = ap (reached_at j) reached in let m = reached_right j v.reached w.reached in
          let s = times_append x v.own w.own in let counted : times x u.own ≡ times x (v.own ++ w.own) = ap (times x) own in let o = q x (omega arith) in omega arith
      go (suc t) e = let same : reached_at j u.reached ≡ reached_at j (v.reached ++ w.reached) = ap (reached_at j) reached in let l = reached_left j v.reached w.reached in let o = p x (omega arith) in omega arith

module _ {V E : Type 0} (law : List E → Type 0) where
  -- what the seat sees after it has left without an entry is what it saw before
  pub sees_left : (j n d c : ℕ) (l u : View V E) → Sees law l → u ≡ without None j n d c l → Sees law u
  sees_left j n d c l u sees left = subst (Sees law) (sym left) record { legal = sees.legal; placed = sees.placed }

module _ {V E : Type 0} (law : List E → Type 0) where
  -- a seat was split in two, both went on, and the one took the other in
  pub goes_shared : (give : ℕ) (v a b a' b' u : View V E) → give ≤ v.allowance → a ≡ giving give v → b ≡ given give v → Goes a a' → Goes b b' → Learns law b'.seen (both a' b') u → Goes v u × (u.held ≡ a'.held)
  goes_shared give v a b a' b' u less split gave first second joined = let is = joined.same in let d = first.durable in let d1 = ap (λ (z : View V E). z.durable) split in let d2 = joined.durable in let h = first.halted in let h1 = ap (λ (z : View V E). z.halted) split in let h2 = joined.halted in (
    record {
      start = ap (λ (z : View V E). z.start) is ∙ (first.start ∙ ap (λ (z : View V E). z.start) split);
      whole = ap (λ (z : View V E). z.whole) is ∙ (first.whole ∙ ap (λ (z : View V E). z.whole) split);
      first = ap (λ (z : View V E). z.first) is ∙ (first.first ∙ ap (λ (z : View V E). z.first) split);
      kept = ap (λ (z : View V E). z.allowance + length z.own) is ∙ counted;
      seen = begins_on v.seen a'.seen u.seen (subst (λ (z : View V E). StartsWith a'.seen z.seen) split first.seen) joined.seen;
      durable = omega arith;
      halted = omega arith;
      reached = λ j. let p = first.reached j in let q = ap (λ (z : View V E). reached_at j z.reached) split in let l = reached_left j a'.reached b'.reached in let e = ap (λ (z : View V E). reached_at j z.reached) is in omega arith;
    },
    ap (λ (z : View V E). z.held) is,
  )
    where
      counted : (a'.allowance + b'.allowance) + length (a'.own ++ b'.own) ≡ v.allowance + length v.own
      counted = let p = first.kept in let q = second.kept in let s = ap (λ (z : View V E). z.allowance + length z.own) split in let t = ap (λ (z : View V E). z.allowance + length z.own) gave in omega (arith, length-append a'.own b'.own)

module _ {V E : Type 0} (law : List E → Type 0) (at_home : ℕ → ℕ → ℕ → List E → ℕ → V → Type 0) (durable_of common_of : V → ℕ) where
  pub goes_entered : (j number kind : ℕ) (v w : View V E) (x : V) → Entered law at_home durable_of common_of j number kind v w x → Goes v w
  goes_entered j number kind v w x e = goes_by v w _ e.view (refl, refl, refl, refl) e.seen e.durable (let h = e.halted in omega arith) (λ i. reached_up i j number v.reached _ refl)

  held_through : (j number kind : ℕ) (v w l : View V E) (x : V) → Entered law at_home durable_of common_of j number kind v w x → Later w l → except j l.held ≡ v.held
  held_through j number kind v w l x e later = ap (λ (z : View V E). except j z.held) later.same ∙ (ap (λ (z : View V E). except j z.held) e.view ∙ except_top j (4 * number + kind) (durable_of x) v.held)

  -- a station was entered, something was perhaps learnt, and the station was left
  pub goes_through : (j number kind n d c : ℕ) (entry : Option E) (v w l u : View V E) (x : V) → Entered law at_home durable_of common_of j number kind v w x → Later w l → u ≡ without entry j n d c l → Goes v u × (u.held ≡ v.held)
  goes_through j number kind n d c entry v w l u x e later left = (
    goes_on v w u (goes_entered j number kind v w x e) (goes_on w l u (goes_later w l later) (goes_left j n d c entry l u left)),
    ap (λ (z : View V E). z.held) left ∙ held_through j number kind v w l x e later,
  )

  -- it was given up
  pub goes_gone : (j number kind n d c : ℕ) (y : V) (v w l u : View V E) (x : V) → Entered law at_home durable_of common_of j number kind v w x → Later w l → u ≡ abandoned j y (without None j n d c l) → Goes v u × (u.held ≡ v.held)
  goes_gone j number kind n d c y v w l u x e later left = (
    goes_on v w u (goes_entered j number kind v w x e) (goes_on w l u (goes_later w l later) (goes_gave_up j n d c y l u left)),
    ap (λ (z : View V E). z.held) left ∙ held_through j number kind v w l x e later,
  )

  pub went_through : (j number kind n d c : ℕ) (entry : Option E) (v w l u : View V E) (x : V) → v.held ≡ [] → Entered law at_home durable_of common_of j number kind v w x → Later w l → u ≡ without entry j n d c l → Went v u
  went_through j number kind n d c entry v w l u x free e later left = let t = goes_through j number kind n d c entry v w l u x e later left in record { goes = t.0; free = t.1 ∙ free }

  pub went_gone : (j number kind n d c : ℕ) (y : V) (v w l u : View V E) (x : V) → v.held ≡ [] → Entered law at_home durable_of common_of j number kind v w x → Later w l → u ≡ abandoned j y (without None j n d c l) → Went v u
  went_gone j number kind n d c y v w l u x free e later left = let t = goes_gone j number kind n d c y v w l u x e later left in record { goes = t.0; free = t.1 ∙ free }
