-- Lemmas on the size and the floor of an order: one more item, a front, and how the floor stands to the sizes.
use Rattle.std.proofs.Common.{◌≡◌, ℕ, zero, suc, ◌+◌, ◌-◌, ◌≤◌, List, [], ◌∷◌, ◌++◌, length, take, fold, max, true, refl, sym, ap, subst, ◌∙◌, arith}
use Rattle.std.proofs.lemmas.List.{take-take, take_all, take_at, length_push}
use Rattle.std.proofs.lemmas.List.Elements.{All-head, All-tail, All-take}
use Rattle.std.proofs.lemmas.List.Sums.{fold-append}
use Rattle.rep_types.specs.declared.item.Item.{Item}
use Rattle.rep_types.specs.declared.item.Item.TheVariants.{WriteSet, SetWindow}
use Rattle.rep_types.specs.declared.item.SetWindow.{SetWindow as Change}
use Rattle.rep_types.specs.declared.reach.Reach.{Reach}
use Rattle.rep_types.specs.Settings.{Setting}
use Rattle.rep_types.specs.Items.{is_write_set, AreWriteSets}
use Rattle.rep_types.specs.Reaches.{resized, size, floor, reach, reach_after}

-- write sets leave the size as it was
resized-write_set : (before : ℕ) (i : Item) → is_write_set i ≡ true → resized before i ≡ before
resized-write_set before (WriteSet w) is = refl
resized-write_set before (SetWindow c) is = absurd cc

fold_resized-write_sets : (before : ℕ) (L : List Item) → AreWriteSets L → fold resized before L ≡ before
fold_resized-write_sets before [] are = refl
fold_resized-write_sets before (i ∷ L) are =
    ap (λ (s : ℕ). fold resized s L) (resized-write_set before i (All-head (λ (j : Item). is_write_set j ≡ true) i L are))
    ∙ fold_resized-write_sets before L (All-tail (λ (j : Item). is_write_set j ≡ true) i L are)

-- where no item changes the size, it is that of the parameters
pub size-write_sets : (p : Setting) (L : List Item) → AreWriteSets L → size p L ≡ p.window
size-write_sets p L are = fold_resized-write_sets p.window L are

-- else it is that of the last change
pub size-last : (p : Setting) (L M : List Item) (c : Change) → AreWriteSets M → size p (L ++ SetWindow c ∷ M) ≡ c.size
size-last p L M c are = fold-append resized p.window L (SetWindow c ∷ M) ∙ fold_resized-write_sets c.size M are

-- one more item
pub size_push : (p : Setting) (L : List Item) (i : Item) → size p (L ++ i ∷ []) ≡ resized (size p L) i
size_push p L i = fold-append resized p.window L (i ∷ [])

-- the floor after one more item is raised from the one before it
pub floor_next : (p : Setting) (L : List Item) (n : ℕ) → floor p L (n + 1) ≡ max (floor p L n) (n + 1 + 1 - size p (take (n + 1) L))
floor_next p L n =
    let one : suc n ≡ n + 1 = omega arith in
    let P : ℕ → Type 0 = λ m. floor p L m ≡ max (floor p L n) (m + 1 - size p (take m L)) in
    subst P one refl

-- the floor never falls
rises_by : (p : Setting) (L : List Item) (m k : ℕ) → floor p L m ≤ floor p L (m + k)
rises_by p L m zero =
    let same : m + 0 ≡ m = omega arith in
    omega (arith, ap (floor p L) same)
rises_by p L m (suc k) =
    let next : m + suc k ≡ m + k + 1 = omega arith in
    omega (arith, rises_by p L m k, ap (floor p L) next, floor_next p L (m + k))

pub floor_rises : (p : Setting) (L : List Item) (m n : ℕ) → m ≤ n → floor p L m ≤ floor p L n
floor_rises p L m n below =
    let there : m + (n - m) ≡ n = omega arith in
    rw there at (rises_by p L m (n - m))

pub floor_first : (p : Setting) (L : List Item) (n : ℕ) → 1 ≤ floor p L n
floor_first p L n = floor_rises p L 0 n (omega arith)

-- at each position it is at least what the size there spans
spans_at : (p : Setting) (L : List Item) (m : ℕ) → 1 ≤ m → m + 1 ≤ floor p L m + size p (take m L)
spans_at p L zero pos = absurd (omega arith)
spans_at p L (suc m) pos = omega arith

pub floor_spans : (p : Setting) (L : List Item) (m n : ℕ) → 1 ≤ m → m ≤ n → m + 1 ≤ floor p L n + size p (take m L)
floor_spans p L m n pos below = omega (arith, spans_at p L m pos, floor_rises p L m n below)

-- and no number below it is
pub floor_least : (p : Setting) (L : List Item) (n bound : ℕ) → 1 ≤ bound → ((m : ℕ) → 1 ≤ m → m ≤ n → m + 1 ≤ bound + size p (take m L)) → floor p L n ≤ bound
floor_least p L zero bound pos spans = pos
floor_least p L (suc n) bound pos spans =
    omega (arith, floor_least p L n bound pos (λ m first last. spans m first (omega (arith, last))), spans (suc n) (omega arith) (omega arith))

-- where no item changes the size, the floor is what that size spans
pub floor-write_sets : (p : Setting) (L : List Item) (n : ℕ) → AreWriteSets L → floor p L n ≡ max 1 (n + 1 - p.window)
floor-write_sets p L zero are = omega arith
floor-write_sets p L (suc n) are =
    omega (arith, floor-write_sets p L n are, size-write_sets p (take (suc n) L) (All-take (λ (i : Item). is_write_set i ≡ true) (suc n) L are))

-- the floor at a position rests on the items up to there alone
pub floor_take : (p : Setting) (L : List Item) (k n : ℕ) → n ≤ k → floor p (take k L) n ≡ floor p L n
floor_take p L k zero below = refl
floor_take p L k (suc n) below =
    let front : take (suc n) (take k L) ≡ take (suc n) L = take-take (suc n) k L below in
    ap (λ (f : ℕ). max f (suc n + 1 - size p (take (suc n) (take k L)))) (floor_take p L k n (omega arith))
    ∙ ap (λ (K : List Item). max (floor p L n) (suc n + 1 - size p K)) front

-- items behind an order leave its floor
pub floor_append : (p : Setting) (L M : List Item) → floor p (L ++ M) (length L) ≡ floor p L (length L)
floor_append p L M =
    sym (floor_take p (L ++ M) (length L) (length L) (omega arith)) ∙ ap (λ (K : List Item). floor p K (length L)) (take_at L M (length L) refl)

-- the floor after one more item
pub floor_push : (p : Setting) (L : List Item) (i : Item) →
    floor p (L ++ i ∷ []) (length (L ++ i ∷ [])) ≡ max (floor p L (length L)) (length L + 1 + 1 - resized (size p L) i)
floor_push p L i =
    let more : List Item = L ++ i ∷ [] in
    let n : ℕ = length L in
    let long : length more ≡ n + 1 = length_push L i in
    let whole : take (n + 1) more ≡ more = take_all (n + 1) more (omega arith) in
    let wide : size p (take (n + 1) more) ≡ resized (size p L) i = ap (size p) whole ∙ size_push p L i in
    ap (floor p more) long
    ∙ (floor_next p more n
    ∙ (ap (λ (f : ℕ). max f (n + 1 + 1 - size p (take (n + 1) more))) (floor_append p L (i ∷ []))
    ∙ ap (λ (s : ℕ). max (floor p L n) (n + 1 + 1 - s)) wide))

-- the reach goes on from itself as the order does
pub reach_push : (p : Setting) (L : List Item) (i : Item) → reach p (L ++ i ∷ []) ≡ reach_after (reach p L) (length L + 1) i
reach_push p L i =
    ap (λ (s : ℕ). made s (floor p (L ++ i ∷ []) (length (L ++ i ∷ [])))) (size_push p L i) ∙ ap (made (resized (size p L) i)) (floor_push p L i)
  where
    made : ℕ → ℕ → Reach
    made s f = record { size = s; floor = f }
