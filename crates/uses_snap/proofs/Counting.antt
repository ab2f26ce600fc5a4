-- A list of numbers has at each seqno what it put.
use Rattle.std.proofs.Common.{◌≡◌, ◌∙◌, refl, sym, ap, subst, ℕ, zero, suc, ◌+◌, ◌<◌, ◌≤◌, Bool, true, false, ◌==◌, nat_le, nat_lt, if◌then◌else◌, List, [], ◌∷◌, ◌++◌, length, length-append, Option, None, Some, Result, Ok, Err, inl, inr, ⊎_elim, arith}
use mathlib.Core.Logic.{dite}
use mathlib.Core.List.{IsPrefix}
use native.Mathlib.Decide.{ℕ_discrete}
use Rattle.std.proofs.lemmas.Bool.Decides.{nat_tests}
use Rattle.rep_types.specs.declared.value.Write.{Write}
use Rattle.rep_types.specs.declared.refusal.Refusal.{Refusal}
use Rattle.rep_types.specs.declared.refusal.Refusal.TheVariants.{Closed, NotYet, TooOld}
use Rattle.rep_versions.specs.Versions.{Version}
use Rattle.rep_snap.specs.declared.change.Pair.{Pair}
use Rattle.rep_snap.specs.declared.change.Change.{Change}
use Rattle.rep_snap.specs.declared.peek.Peek.{Peek}
use Rattle.rep_snap.specs.declared.peek.Peek.TheVariants.{Value}
use Rattle.rep_snap.specs.Lists.{published, front_of, oldest_of, pair_of, written, left, IsFound, refused, Answers}
use Rattle.rep_snap.specs.Views.{Watching, Listing, IsPublish}
use Rattle.rep_snap.specs.Looks.{Looked, IsPeek}
use Rattle.rep_snap.specs.Laws.{HistoriesGrow, PeeksHaveOneAnswer}
use Rattle.uses_snap.specs.Counting.{the_row, number_at, pair_at, counted, FindsTheNumber}

here : (n s : ℕ) (o : Option Version) → n ≡ s → (b : Bool) → (n == s) ≡ b → (if b then Some (Some (number_at n)) else o) ≡ Some (Some (number_at s))
here n s o same true is = ap (λ k. Some (Some (number_at k))) same
here n s o same false is = absurd (grind (arith, nat_tests, is, same))

past : (n s : ℕ) (m o : Option Version) → (n ≡ s → ⊥) → (b : Bool) → (n == s) ≡ b → (if b then m else o) ≡ o
past n s m o other true is = absurd (other (grind (arith, nat_tests, is)))
past n s m o other false is = refl

pub counted_at : HistoriesGrow → (n s : ℕ) → 0 < s → s ≤ n → written (counted n) the_row s ≡ Some (Some (number_at s))
counted_at laws zero s some le = absurd (omega arith)
counted_at laws (suc n) s some le = dite (ℕ_discrete (suc n) s)
    (λ same. laws.row (counted n) (pair_at (suc n)) the_row s ∙ here (suc n) s _ same ((suc n) == s) refl)
    (λ other. laws.row (counted n) (pair_at (suc n)) the_row s ∙ past (suc n) s _ _ other ((suc n) == s) refl ∙ counted_at laws n s some (omega (arith, other)))

pub front_counted : HistoriesGrow → (n : ℕ) → front_of 0 (counted n) ≡ n
front_counted laws zero = refl
front_counted laws (suc n) = laws.front 0 (counted n) (pair_at (suc n))

-- what is told has no more pairs
pub shorter : HistoriesGrow → (xs ys : List Change) → IsPrefix xs ys → length (published xs) ≤ length (published ys)
shorter laws xs ys p =
    let rest = laws.beginning xs ys p in
    let whole : length (published ys) ≡ length (published xs) + length rest.0 = ap length (sym rest.1) ∙ length-append (published xs) rest.0 in
    omega (arith, whole)

module _ (laws : PeeksHaveOneAnswer) (f : ℕ → Option Version) (s : ℕ) (bytes : List ℕ) (stands : f s ≡ Some (Some bytes)) where
  -- the newest write at most at s is the one at s
  found_here : (peek : Peek) → IsFound f s peek → peek ≡ Value bytes
  found_here peek h = laws.row f s peek (Value bytes) h (s, record { stands = stands; within = omega arith; none_above = λ n lt le. absurd (omega (arith, lt, le)) })

left_at : (oldest s : ℕ) (pairs : List Pair) (o : Option Version) → oldest < s → written pairs the_row s ≡ o → left oldest pairs the_row s ≡ o
left_at oldest s pairs o lt is = let above : nat_le s oldest ≡ false = grind (arith, nat_tests, lt) in ap (λ b. if b then None else written pairs the_row s) above ∙ is

below_oldest : (s oldest : ℕ) (e : Refusal) (b : Bool) → nat_lt s oldest ≡ b → (if b then Some (TooOld oldest) else None) ≡ Some e → s < oldest
below_oldest s oldest e true is h = grind (arith, nat_tests, is)
below_oldest s oldest e false is h = absurd (cc h)

pub not_above : (front oldest s : ℕ) (e : Refusal) → s ≤ front → refused front oldest s ≡ Some e → s < oldest
not_above front oldest s e le h =
    let within : nat_lt front s ≡ false = grind (arith, nat_tests, le) in
    below_oldest s oldest e _ refl (sym (ap (λ b. if b then Some (NotYet front) else (if nat_lt s oldest then Some (TooOld oldest) else None)) within) ∙ h)

module _ (laws : HistoriesGrow) (answers : PeeksHaveOneAnswer) {A : Type 0} (shut : Watching A → Type 0) (w : Watching A) (s n : ℕ) (some : 0 < s) (le : s ≤ n) (start : w.start ≡ 0) (list : published w.seen ≡ counted n) where
  finds : (answer : Result Peek Refusal) → Answers (front_of w.start (published w.seen)) (oldest_of w.start w.seen) (left (oldest_of w.start w.seen) (published w.seen) the_row) s answer
      → FindsTheNumber shut w s answer
  finds (Ok peek) h = λ lt. found_here answers _ s (number_at s) (left_at (oldest_of w.start w.seen) s (published w.seen) _ lt (ap (λ l. written l the_row s) list ∙ counted_at laws n s some le)) peek h.1
  finds (Err e) h = let front : front_of w.start (published w.seen) ≡ n = ap (λ k. front_of k (published w.seen)) start ∙ ap (front_of 0) list ∙ front_counted laws n in
      inr (not_above (front_of w.start (published w.seen)) (oldest_of w.start w.seen) s e (omega (arith, front, le)) h)

abbrev Allows : {A : Type 0} → A → ℕ → List Pair → Type 0
Allows basis start pairs = pairs ≡ counted (length pairs)

-- a reader that was told of the snapshot peeks it
pub peeked : HistoriesGrow → PeeksHaveOneAnswer → {A : Type 0} (shut : Watching A → Type 0) (v w : Watching A) (s : ℕ) (answer : Result Peek Refusal) → 0 < s → s ≤ length (published v.told) → v.start ≡ 0
    → IsPeek Allows shut v the_row s w answer → FindsTheNumber shut w s answer
peeked laws answers shut v w s answer some le start h = ⊎_elim
    (λ (closed : (answer ≡ Err Closed) × (w ≡ v) × shut v). subst (FindsTheNumber shut w s) (sym closed.0) (inl (refl, subst shut (sym closed.1) closed.2)))
    (λ (seen : Looked Allows v w × Answers (front_of w.start (published w.seen)) (oldest_of w.start w.seen) (left (oldest_of w.start w.seen) (published w.seen) the_row) s answer).
    let more = shorter laws v.told w.seen seen.0.told in
    finds laws answers shut w s (length (published w.seen)) some (omega (arith, le, more)) (ap (λ (t : Watching _). t.start) seen.0.same ∙ start) seen.0.allowed answer seen.1) h

-- one more number
length_counted : (n : ℕ) → length (counted n) ≡ n
length_counted zero = refl
length_counted (suc n) = length-append (counted n) (pair_at (suc n) ∷ []) ∙ (let rest = length_counted n in omega (arith, rest))

pub one_more : (n : ℕ) (pairs : List Pair) (pair : Pair) → pairs ≡ counted n → pair ≡ pair_at (n + 1) → pairs ++ pair ∷ [] ≡ counted (n + 1)
one_more n pairs pair list is = let next : n + 1 ≡ suc n = omega arith in
    ap (λ l. l ++ pair ∷ []) list ∙ ap (λ p. counted n ++ p ∷ []) (is ∙ ap pair_at next) ∙ ap counted (sym next)

pub still_allowed : (n : ℕ) (pairs : List Pair) (pair : Pair) → pairs ≡ counted n → pair ≡ pair_at (n + 1) → pairs ++ pair ∷ [] ≡ counted (length (pairs ++ pair ∷ []))
still_allowed n pairs pair list is = let more = one_more n pairs pair list is in
    more ∙ ap counted (sym (ap length more ∙ length_counted (n + 1)))

pub above : HistoriesGrow → (n start : ℕ) (pairs : List Pair) → start ≡ 0 → pairs ≡ counted n → front_of start pairs < n + 1
above laws n start pairs none list = let front : front_of start pairs ≡ n = ap (λ k. front_of k pairs) none ∙ ap (front_of 0) list ∙ front_counted laws n in omega (arith, front)

pub published_next : HistoriesGrow → {A : Type 0} (n : ℕ) (p q : Listing A) (r : Result (Unit {0}) Refusal) (u : Unit {0}) → r ≡ Ok u → (writes : List Write) → published p.list ≡ counted n
    → pair_of (n + 1) writes ≡ pair_at (n + 1) → IsPublish (n + 1) writes p q r → published q.list ≡ counted (n + 1)
published_next laws n p q r u ok writes list is h =
    let after = (subst (IsPublish (n + 1) writes p q) ok h).2 in
    ap (λ (t : Listing _). published t.list) after ∙ laws.publish p.list (pair_of (n + 1) writes) ∙ one_more n (published p.list) (pair_of (n + 1) writes) list is
