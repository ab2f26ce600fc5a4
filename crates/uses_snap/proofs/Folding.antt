-- What is found is the row of the fold over what was told.
use Rattle.std.proofs.Common.{◌≡◌, ◌∙◌, refl, sym, ap, subst, ℕ, ◌≤◌, Bool, true, false, nat_lt, if◌then◌else◌, List, ◌++◌, Option, None, Some, Result, Ok, Err, inl, inr, ⊎_elim, append_assoc, arith}
use mathlib.Core.List.{IsPrefix}
use Rattle.std.proofs.lemmas.Bool.Decides.{nat_tests}
use Rattle.rep_types.specs.declared.key.Key.{Key}
use Rattle.rep_types.specs.declared.refusal.Refusal.{Refusal}
use Rattle.rep_types.specs.declared.refusal.Refusal.TheVariants.{Closed, NotYet, TooOld}
use Rattle.rep_snap.specs.declared.change.Pair.{Pair}
use Rattle.rep_snap.specs.declared.change.Change.{Change}
use Rattle.rep_snap.specs.declared.peek.Peek.{Peek}
use Rattle.rep_snap.specs.Lists.{published, front_of, oldest_of, left, Ascends, Answers}
use Rattle.rep_snap.specs.Laws.{rows_at, row_over, HistoriesGrow, PeeksFollowTheFold}
use Rattle.rep_snap.specs.Views.{Watching}
use Rattle.rep_snap.specs.Looks.{Looked, IsPeek}
use Rattle.uses_snap.specs.Folding.{FindsTheRow}
use Rattle.uses_snap.proofs.Counting.{not_above}

-- a snapshot that is not refused is not below the oldest one
not_below : (s oldest : ℕ) (b : Bool) → nat_lt s oldest ≡ b → (if b then Some (TooOld oldest) else None) ≡ None → oldest ≤ s
not_below s oldest true is h = absurd (cc h)
not_below s oldest false is h = grind (arith, nat_tests, is)

within : (front oldest s : ℕ) (b : Bool) → nat_lt front s ≡ b → (if b then Some (NotYet front) else (if nat_lt s oldest then Some (TooOld oldest) else None)) ≡ None → oldest ≤ s
within front oldest s true is h = absurd (cc h)
within front oldest s false is h = not_below s oldest _ refl h

-- the list that is found begins with the one that was told
begins : HistoriesGrow → (told more seen : List Change) → IsPrefix told more → IsPrefix more seen → IsPrefix (published told) (published seen)
begins laws told more seen p q =
    let first = laws.beginning told more p in
    let next = laws.beginning more seen q in
    (first.0 ++ next.0, sym (append_assoc (published told) first.0 next.0) ∙ (ap (λ l. l ++ next.0) first.1 ∙ next.1))

-- rows of the list that is found are those of these pairs, up to the snapshot
module _ (folds : PeeksFollowTheFold) {A : Type 0} (shut : Watching A → Type 0) (w : Watching A) (pairs : List Pair) (key : Key) (s : ℕ)
    (same : (content : Key → Option (List ℕ)) (n : ℕ) → n ≤ s → rows_at content (published w.seen) n ≡ rows_at content pairs n)
    (ascends : Ascends w.start (published w.seen)) (le : s ≤ front_of w.start (published w.seen)) where
  finds : (answer : Result Peek Refusal) → Answers (front_of w.start (published w.seen)) (oldest_of w.start w.seen) (left (oldest_of w.start w.seen) (published w.seen) key) s answer
      → FindsTheRow shut pairs key s w answer
  finds (Ok peek) h = λ content.
      let oldest = oldest_of w.start w.seen in
      let low : oldest ≤ s = within (front_of w.start (published w.seen)) oldest s _ refl h.0 in
      sym (ap (λ rows. rows key) (same content s (omega arith)))
      ∙ folds.row content w.start oldest s (published w.seen) key peek ascends low h.1
      ∙ ap (λ rows. row_over (rows key) peek) (same content oldest low)
  finds (Err e) h = inr (not_above (front_of w.start (published w.seen)) (oldest_of w.start w.seen) s e le h)

module _ (laws : HistoriesGrow) (folds : PeeksFollowTheFold) (start s : ℕ) (pairs more : List Pair) (begun : IsPrefix pairs more) (ascends : Ascends start more) (le : s ≤ front_of start pairs) where
  both : Ascends start (pairs ++ begun.0)
  both = subst (Ascends start) (sym begun.1) ascends

  -- a longer list has the same rows, up to the front of the shorter, and no lower front
  longer_same : (content : Key → Option (List ℕ)) (n : ℕ) → n ≤ s → rows_at content more n ≡ rows_at content pairs n
  longer_same content n low = ap (λ l. rows_at content l n) (sym begun.1) ∙ folds.front content start n pairs begun.0 both (omega (arith, le, low))

  higher : s ≤ front_of start more
  higher = let up = subst (λ l. front_of start pairs ≤ front_of start l) begun.1 (laws.higher start pairs begun.0 both) in omega (arith, up, le)

module _ (laws : HistoriesGrow) (folds : PeeksFollowTheFold) {A : Type 0} (allows : A → ℕ → List Pair → Type 0) (shut : Watching A → Type 0) (v w : Watching A) (told : List Change) (key : Key) (s : ℕ)
    (prefix : IsPrefix told v.told) (le : s ≤ front_of v.start (published told)) where
  begun : Looked allows v w → IsPrefix (published told) (published w.seen)
  begun seen = begins laws told v.told w.seen prefix seen.told

  low : Looked allows v w → s ≤ front_of w.start (published told)
  low seen = subst (λ n. s ≤ front_of n (published told)) (sym (ap (λ (t : Watching A). t.start) seen.same)) le

  over_pairs : (pairs : List Pair) (answer : Result Peek Refusal)
      → (Looked allows v w → (content : Key → Option (List ℕ)) (n : ℕ) → n ≤ s → rows_at content (published w.seen) n ≡ rows_at content pairs n)
      → IsPeek allows shut v key s w answer → FindsTheRow shut pairs key s w answer
  over_pairs pairs answer same h = ⊎_elim
      (λ (closed : (answer ≡ Err Closed) × (w ≡ v) × shut v). subst (FindsTheRow shut pairs key s w) (sym closed.0) (inl (refl, subst shut (sym closed.1) closed.2)))
      (λ (seen : Looked allows v w × Answers (front_of w.start (published w.seen)) (oldest_of w.start w.seen) (left (oldest_of w.start w.seen) (published w.seen) key) s answer).
      finds folds shut w pairs key s (same seen.0) seen.0.ascends
      (higher laws folds w.start s (published told) (published w.seen) (begun seen.0) seen.0.ascends (low seen.0)) answer seen.1) h

  -- of the list that was told
  pub peeked_row : (answer : Result Peek Refusal) → IsPeek allows shut v key s w answer → FindsTheRow shut (published told) key s w answer
  peeked_row answer h = over_pairs (published told) answer (λ seen. longer_same laws folds w.start s (published told) (published w.seen) (begun seen) seen.ascends (low seen)) h

  -- of a list that is allowed to go on so
  pub planned_row : (plan : List Pair) (answer : Result Peek Refusal) → (Looked allows v w → IsPrefix (published w.seen) plan) → Ascends v.start plan
      → IsPeek allows shut v key s w answer → FindsTheRow shut plan key s w answer
  planned_row plan answer rest ascends h = over_pairs plan answer (λ seen content n small. sym (longer_same laws folds w.start s (published w.seen) plan (rest seen)
      (subst (λ k. Ascends k plan) (sym (ap (λ (t : Watching A). t.start) seen.same)) ascends)
      (higher laws folds w.start s (published told) (published w.seen) (begun seen) seen.ascends (low seen)) content n small)) h
