-- What is published of items that come one after another, and what waits.
use Rattle.std.proofs.Common.{◌≡◌, ◌-◌, min, ℕ, zero, suc, ◌+◌, ◌<◌, ◌≤◌, List, [], ◌∷◌, ◌++◌, length, map, take, get_or, slice_get, Some, max, Result, Ok, Err, OnOk, refl, sym, ap, subst, ◌∙◌, append_assoc, length-append, arith}
use Rattle.std.proofs.lemmas.List.{take_more, take-map}
use Rattle.std.proofs.lemmas.Option.{slice_get_within, get_or_from_slice_get}
use Rattle.std.proofs.Math.Seq.{take-append_seam}
use Rattle.rep_types.specs.declared.refusal.Refusal.{Refusal}
use Rattle.rep_types.specs.declared.judged.Judged.{Judged}
use Rattle.rep_types.specs.Settings.{Setting}
use Rattle.rep_types.specs.Order.{State}
use Rattle.rep_cert.specs.Holdings.{Holding, Holdings}
use Rattle.rep_steps.specs.Nodes.{advanced}
use Rattle.rep_steps.specs.Images.{AreJudgedFrom}
use Rattle.rep_snap.specs.declared.change.Pair.{Pair}
use Rattle.rep_snap.specs.declared.change.Change.{Change}
use Rattle.rep_snap.specs.declared.change.Change.TheVariants.{Publish, Prune}
use Rattle.rep_snap.specs.Lists.{Ascends, front_of, oldest_of, published}
use Rattle.rep_snap.specs.Views.{Listing, AreChanges, IsChange}
use Rattle.rep_snap.specs.Laws.{HistoriesGrow}
use Rattle.rep_stations.specs.Judging.{start_of}
use Rattle.rep_node.specs.Publishing.{AreShown, Counts, shown, shown_of}

-- ---- what waits grows item by item

pub shown_both : (xs ys : List Judged) → shown (xs ++ ys) ≡ shown xs ++ shown ys
shown_both [] ys = refl
shown_both (x ∷ xs) ys = ap (λ l. shown_of x ∷ l) (shown_both xs ys)

pub shown_more : (waits waited : List Pair) (items : List Judged) (i : ℕ) (j : Judged) → waits ≡ waited ++ shown (take i items) → Some j ≡ slice_get items i → waits ++ shown_of j ∷ [] ≡ waited ++ shown (take (i + 1) items)
shown_more waits waited items i j so_far is =
    let within : i < length items = slice_get_within items i j (sym is) in
    let here : get_or items i j ≡ j = get_or_from_slice_get items i j j (sym is) in
    let longer : take (i + 1) items ≡ take i items ++ j ∷ [] = take_more items i j within ∙ ap (λ x. take i items ++ x ∷ []) here in
    ap (λ l. l ++ shown_of j ∷ []) so_far ∙ append_assoc waited (shown (take i items)) (shown_of j ∷ []) ∙ ap (λ l. waited ++ l) (sym (ap shown longer ∙ shown_both (take i items) (j ∷ [])))

-- ---- seqnos one after another

counts_judged : (p : Setting) (S : State) (js : List Judged) → AreJudgedFrom p S js → Counts S.position (shown js)
counts_judged p S [] h = tt
counts_judged p S (j ∷ js) h = (h.0, subst (λ n. Counts n (shown js)) (omega arith) (counts_judged p (advanced p S j) js h.2))

counts_behind : (n : ℕ) (xs ys : List Pair) → Counts n (xs ++ ys) → Counts (n + length xs) ys
counts_behind n [] ys h = subst (λ k. Counts k ys) (omega arith) h
counts_behind n (x ∷ xs) ys h = subst (λ k. Counts k ys) (omega arith) (counts_behind (n + 1) xs ys h.1)

counts_front : (n : ℕ) (xs ys : List Pair) → Counts n (xs ++ ys) → front_of n xs ≡ n + length xs
counts_front n [] ys h = omega arith
counts_front n (x ∷ xs) ys h = ap (λ k. front_of k xs) h.0 ∙ counts_front (n + 1) xs ys h.1 ∙ omega arith

counts_ascends : (n : ℕ) (xs ys : List Pair) → Counts n (xs ++ ys) → Ascends n xs
counts_ascends n [] ys h = tt
counts_ascends n (x ∷ xs) ys h = let next = h.0 in (omega (arith, next), subst (λ k. Ascends k xs) (sym h.0) (counts_ascends (n + 1) xs ys h.1))

judged_front : (p : Setting) (S : State) (k : ℕ) (js : List Judged) → AreJudgedFrom p S js → AreJudgedFrom p S (take k js)
judged_front p S zero js h = tt
judged_front p S (suc k) [] h = tt
judged_front p S (suc k) (j ∷ js) h = (h.0, h.1, judged_front p (advanced p S j) k js h.2)

counts : (c : Holding) (pairs : List Pair) → AreShown c pairs → Counts c.delivered pairs
counts c pairs h = subst (Counts c.delivered) (sym h.are) (counts_judged c.setting (start_of c) h.items h.legal)

-- what begins such a list is one
pub shown_front : (c : Holding) (xs ys : List Pair) → AreShown c (xs ++ ys) → AreShown c xs
shown_front c xs ys h = record {
  items = take (length xs) h.items;
  legal = judged_front c.setting (start_of c) (length xs) h.items h.legal;
  are = sym (take-append_seam xs ys) ∙ ap (take (length xs)) h.are ∙ take-map shown_of (length xs) h.items;
}

-- ---- what is due is the front of what waits

module _ (c : Holding) (start : ℕ) (begins : start ≡ c.delivered) (before due rest waited : List Pair) (all : AreShown c (before ++ waited)) (first : due ++ rest ≡ waited) where
  numbered : Counts start (before ++ waited)
  numbered = subst (λ k. Counts k (before ++ waited)) (sym begins) (counts c (before ++ waited) all)

  behind : Counts (start + length before) waited
  behind = counts_behind start before waited numbered

  pub due_above : Ascends (front_of start before) due
  due_above = subst (λ k. Ascends k due) (sym (counts_front start before waited numbered)) (counts_ascends (start + length before) due rest (subst (Counts (start + length before)) (sym first) behind))

  pub due_shown : AreShown c (before ++ due)
  due_shown = shown_front c (before ++ due) rest (subst (AreShown c) (ap (λ l. before ++ l) (sym first) ∙ sym (append_assoc before due rest)) all)

  pub due_reaches : (upto : ℕ) (after : List Pair) → after ≡ before ++ due → start + length before ≤ upto → upto ≤ start + length (before ++ waited)
      → ((n : ℕ) → Counts n waited → length due ≡ min (upto - n) (length waited)) → start + length after ≡ upto
  due_reaches upto after is low high size = let some = size (start + length before) behind in let new = ap length is ∙ length-append before due in let old = length-append before waited in omega (arith, some, new, old, low, high)

pub one_certifier : (certifiers : List Holdings) (c d : Holdings) → certifiers ≡ c ∷ [] → certifiers ≡ d ∷ [] → d ≡ c
one_certifier certifiers c d p q = cc (p, q)

-- ---- what a call of the publisher leaves of its list

pub after_publish : HistoriesGrow → {A : Type 0} (p q : Listing A) (r : Result (Unit {0}) Refusal) (v : Unit {0}) (pairs : List Pair) → r ≡ Ok v → AreChanges (map Publish pairs) p q r → published q.list ≡ published p.list ++ pairs
after_publish laws p q r v pairs ok h = ap (λ (t : Listing _). published t.list) (subst (AreChanges (map Publish pairs) p q) ok h).1 ∙ laws.several p.list pairs

-- the oldest snapshot is not below the start
pub oldest_least : (start : ℕ) (changes : List Change) → start ≤ oldest_of start changes
oldest_least start [] = omega arith
oldest_least start (Publish pair ∷ changes) = oldest_least start changes
oldest_least start (Prune c ∷ changes) = let more = oldest_least (max start c) changes in omega (arith, more)

-- a prune leaves what was published, and moves the oldest snapshot
pub prune_leaves : HistoriesGrow → {A : Type 0} (start base : ℕ) (p q : Listing A) (r : Result (Unit {0}) Refusal) → IsChange (Prune base) p q r → OnOk r ((published q.list ≡ published p.list) × (oldest_of start q.list ≡ max (oldest_of start p.list) base))
prune_leaves laws start base p q (Ok v) h = (ap (λ (t : Listing _). published t.list) h.1 ∙ laws.prune p.list base, ap (λ (t : Listing _). oldest_of start t.list) h.1 ∙ laws.oldest start p.list (Prune base))
prune_leaves laws start base p q (Err e) h = tt
