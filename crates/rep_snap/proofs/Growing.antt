-- The laws of histories and of peeks.
use Rattle.std.proofs.Common.{◌≡◌, ◌∙◌, refl, sym, ap, ℕ, zero, suc, ◌<◌, ◌≤◌, Bool, true, false, nat_lt, List, [], ◌∷◌, ◌++◌, Option, None, Some, Result, Ok, Err, arith}
use mathlib.Core.Logic.{dite}
use mathlib.Core.List.{IsPrefix}
use native.Mathlib.Decide.{ℕ_discrete}
use Rattle.std.proofs.lemmas.Bool.Decides.{nat_tests}
use Rattle.rep_types.specs.declared.refusal.Refusal.{Refusal}
use Rattle.rep_versions.specs.Versions.{Version}
use Rattle.rep_snap.specs.declared.change.Pair.{Pair}
use Rattle.rep_snap.specs.declared.change.Change.{Change}
use Rattle.rep_snap.specs.declared.peek.Peek.{Peek}
use Rattle.rep_snap.specs.declared.peek.Peek.TheVariants.{Value, Absent, Cold}
use Rattle.rep_snap.specs.Lists.{published, front_of, Ascends, IsNewestWrite, IsFound, Answers}
use Rattle.rep_snap.specs.Laws.{HistoriesGrow, PeeksHaveOneAnswer}
use Rattle.rep_snap.proofs.Lists.{oldest-all, published-all, published-append, published-publish, published-prune, front-more, oldest-more, written-more, front_above}

beginning : (xs ys : List Change) → IsPrefix xs ys → IsPrefix (published xs) (published ys)
beginning xs ys p = (published p.0, sym (published-append xs p.0) ∙ ap published p.1)

higher : (start : ℕ) (pairs more : List Pair) → Ascends start (pairs ++ more) → front_of start pairs ≤ front_of start (pairs ++ more)
higher start [] more h = front_above start more h
higher start (p ∷ pairs) more h = higher p.seqno pairs more h.1

pub grow : HistoriesGrow
grow = record { publish = published-publish; several = published-all; prune = published-prune; front = front-more; oldest = oldest-more; stays = oldest-all; beginning = beginning; higher = higher; row = written-more }

module _ (f : ℕ → Option Version) (s : ℕ) where
  clash : (m n : ℕ) (v u : Version) → IsNewestWrite f s m v → IsNewestWrite f s n u → m < n → ⊥
  clash m n v u h k lt = let none : Some u ≡ None = sym k.stands ∙ h.none_above n lt k.within in cc none

  apart : (m n : ℕ) (v u : Version) → IsNewestWrite f s m v → IsNewestWrite f s n u → (m ≡ n → ⊥) → (b : Bool) → nat_lt m n ≡ b → ⊥
  apart m n v u h k other true is = clash m n v u h k (grind (arith, nat_tests, is))
  apart m n v u h k other false is = clash n m u v k h (let le : n ≤ m = grind (arith, nat_tests, is) in omega (arith, le, other))

  -- one version is the newest
  one_newest : (m n : ℕ) (v u : Version) → IsNewestWrite f s m v → IsNewestWrite f s n u → v ≡ u
  one_newest m n v u h k = dite (ℕ_discrete m n)
      (λ same. let both : Some v ≡ Some u = sym h.stands ∙ ap f same ∙ k.stands in cc both)
      (λ other. absurd (apart m n v u h k other (nat_lt m n) refl))

  -- and then the row is not cold
  not_cold : (m : ℕ) (v : Version) → IsNewestWrite f s m v → ((n : ℕ) → n ≤ s → f n ≡ None) → ⊥
  not_cold m v h cold = let none : Some v ≡ None = sym h.stands ∙ cold m h.within in cc none

  one_row : (a b : Peek) → IsFound f s a → IsFound f s b → a ≡ b
  one_row (Value v) (Value u) h k = let same = one_newest h.0 k.0 (Some v) (Some u) h.1 k.1 in ap Value (cc same)
  one_row (Value v) Absent h k = absurd (let same = one_newest h.0 k.0 (Some v) None h.1 k.1 in cc same)
  one_row (Value v) Cold h k = absurd (not_cold h.0 (Some v) h.1 k)
  one_row Absent (Value u) h k = absurd (let same = one_newest h.0 k.0 None (Some u) h.1 k.1 in cc same)
  one_row Absent Absent h k = refl
  one_row Absent Cold h k = absurd (not_cold h.0 None h.1 k)
  one_row Cold (Value u) h k = absurd (not_cold k.0 (Some u) k.1 h)
  one_row Cold Absent h k = absurd (not_cold k.0 None k.1 h)
  one_row Cold Cold h k = refl

one_answer : (front oldest : ℕ) (f : ℕ → Option Version) (s : ℕ) (a b : Result Peek Refusal) → Answers front oldest f s a → Answers front oldest f s b → a ≡ b
one_answer front oldest f s (Ok p) (Ok q) h k = ap Ok (one_row f s p q h.1 k.1)
one_answer front oldest f s (Ok p) (Err e) h k = absurd (let none : None ≡ Some e = sym h.0 ∙ k in cc none)
one_answer front oldest f s (Err e) (Ok q) h k = absurd (let none : None ≡ Some e = sym k.0 ∙ h in cc none)
one_answer front oldest f s (Err e) (Err d) h k = let both : Some e ≡ Some d = sym h ∙ k in ap Err (cc both)

-- what the write at the snapshot made the row, if there is one
at_the_snapshot : (f : ℕ → Option Version) (s : ℕ) (v : Version) → f s ≡ Some v → IsNewestWrite f s s v
at_the_snapshot f s v stands = record { stands = stands; within = omega arith; none_above = λ n lt le. absurd (omega (arith, lt, le)) }

found_at : (f : ℕ → Option Version) (s : ℕ) (v : Version) → f s ≡ Some v → (peek : Peek) × IsFound f s peek
found_at f s (Some bytes) stands = (Value bytes, (s, at_the_snapshot f s (Some bytes) stands))
found_at f s None stands = (Absent, (s, at_the_snapshot f s None stands))

later_newest : (f : ℕ → Option Version) (s m : ℕ) (v : Version) → f (suc s) ≡ None → IsNewestWrite f s m v → IsNewestWrite f (suc s) m v
later_newest f s m v none h = record {
  stands = h.stands;
  within = let le = h.within in omega (arith, le);
  none_above = λ n lt le. dite (ℕ_discrete n (suc s)) (λ (same : n ≡ suc s). ap f same ∙ none) (λ other. h.none_above n lt (omega (arith, le, other)));
}

-- a snapshot later, where nothing is written
found_later : (f : ℕ → Option Version) (s : ℕ) (peek : Peek) → f (suc s) ≡ None → IsFound f s peek → IsFound f (suc s) peek
found_later f s (Value v) none h = (h.0, later_newest f s h.0 (Some v) none h.1)
found_later f s Absent none h = (h.0, later_newest f s h.0 None none h.1)
found_later f s Cold none h = λ m le. dite (ℕ_discrete m (suc s)) (λ (same : m ≡ suc s). ap f same ∙ none) (λ other. h m (omega (arith, le, other)))

first_found : (f : ℕ → Option Version) (o : Option Version) → f 0 ≡ o → (peek : Peek) × IsFound f 0 peek
first_found f (Some v) is = found_at f 0 v is
first_found f None is = (Cold, λ m le. let first : m ≡ 0 = omega (arith, le) in ap f first ∙ is)

next_found : (f : ℕ → Option Version) (s : ℕ) (o : Option Version) → f (suc s) ≡ o → ((peek : Peek) × IsFound f s peek) → (peek : Peek) × IsFound f (suc s) peek
next_found f s (Some v) is before = found_at f (suc s) v is
next_found f s None is before = (before.0, found_later f s before.0 is before.1)

some_found : (f : ℕ → Option Version) (s : ℕ) → (peek : Peek) × IsFound f s peek
some_found f zero = first_found f (f 0) refl
some_found f (suc s) = next_found f s (f (suc s)) refl (some_found f s)

pub one : PeeksHaveOneAnswer
one = record { found = some_found; row = one_row; answer = one_answer }
