-- Lemmas on `history`: one more item, a first part, and the item at a place.
use Rattle.std.proofs.Common.{◌≡◌, ℕ, ◌+◌, ◌-◌, ◌<◌, ◌≤◌, List, [], ◌∷◌, ◌++◌, length, fold, take, drop, get_or, All, refl, sym, ap, ◌∙◌, ⊎_elim, arith}
use Rattle.std.proofs.lemmas.Bool.{cases_lt}
use Rattle.std.proofs.lemmas.List.{append-nil, append_assoc, map-append, take_more, take_all, take-take, take_at, length_push, get_or_push, get_or-take, get_or-drop, length-drop, length-take-le, take-append-drop}
use Rattle.std.proofs.lemmas.List.Sums.{fold-append}
use Rattle.rep_types.specs.declared.item.Item.{Item}
use Rattle.rep_types.specs.declared.judged.Judged.{Judged}
use Rattle.rep_types.specs.declared.verdict.Verdict.{Verdict}
use Rattle.rep_types.specs.Settings.{Setting}
use Rattle.rep_types.specs.Reaches.{floor}
use Rattle.rep_types.specs.Order.{Order, no_item, item, items_of, verdict_on, entries, joined, history, verdict}
use Rattle.rep_types.proofs.Reaches.{floor_take, floor_append}

-- the history of one more item is the history before it, joined by that item
pub history_push : (p : Setting) (L : Order) (i : Item) → history p (L ++ i ∷ []) ≡ joined p (history p L) i
history_push p L i = fold-append (joined p) [] L (i ∷ [])

-- joining the items of L makes a history longer by the length of L
pub length-fold_joined : (p : Setting) (h : List Judged) (L : Order) → length (fold (joined p) h L) ≡ length h + length L
length-fold_joined p h [] = omega arith
length-fold_joined p h (i ∷ L) = omega (arith, length-fold_joined p (joined p h i) L, length_push h)

-- a history has as many items as the order
pub length_history : (p : Setting) (L : Order) → length (history p L) ≡ length L
length_history p L = omega (arith, length-fold_joined p [] L)

-- joining the items of L joins them to those of the history
items-fold_joined : (p : Setting) (h : List Judged) (L : Order) → items_of (fold (joined p) h L) ≡ items_of h ++ L
items-fold_joined p h [] = sym (append-nil (items_of h))
items-fold_joined p h (i ∷ L) =
    items-fold_joined p (joined p h i) L ∙ (ap (λ (K : Order). K ++ L) (map-append (λ (j : Judged). j.item) h _) ∙ append_assoc (items_of h) (i ∷ []) L)

-- the items of a history are the order
pub items_history : (p : Setting) (L : Order) → items_of (history p L) ≡ L
items_history p L = items-fold_joined p [] L

-- joining more items leaves the history before them in front
pub take-fold_joined : (p : Setting) (h : List Judged) (L : Order) → take (length h) (fold (joined p) h L) ≡ h
take-fold_joined p h [] = take_all (length h) h (omega arith)
take-fold_joined p h (i ∷ L) =
    let j : Judged = record { seqno = length h + 1; item = i; verdict = verdict_on p (floor p (items_of h) (length h)) (length h + 1) (entries h) i } in
    let more : take (length (h ++ j ∷ [])) (fold (joined p) (h ++ j ∷ []) L) ≡ h ++ j ∷ [] = take-fold_joined p (h ++ j ∷ []) L in
    let less : length h ≤ length (h ++ j ∷ []) = omega (arith, length_push h j) in
    sym (take-take (length h) (length (h ++ j ∷ [])) (fold (joined p) (h ++ j ∷ []) L) less) ∙ (ap (take (length h)) more ∙ take_at h (j ∷ []) (length h) refl)

-- the first k items of a history are the history of the first k items
pub take_history : (p : Setting) (L : Order) (k : ℕ) → take k (history p L) ≡ history p (take k L)
take_history p L k = ⊎_elim (λ h. within h) past (cases_lt k (length L))
  where
    within : k < length L → take k (history p L) ≡ history p (take k L)
    within h =
        let split : history p L ≡ fold (joined p) (history p (take k L)) (drop k L) =
        sym (ap (history p) (take-append-drop k L)) ∙ fold-append (joined p) [] (take k L) (drop k L) in
        let long : length (history p (take k L)) ≡ k = length_history p (take k L) ∙ length-take-le k L (omega arith) in
        let front : take (length (history p (take k L))) (fold (joined p) (history p (take k L)) (drop k L)) ≡ history p (take k L) =
        take-fold_joined p (history p (take k L)) (drop k L) in
        rw split (rw long at front)

    past : length L ≤ k → take k (history p L) ≡ history p (take k L)
    past h = take_all k (history p L) (omega (arith, length_history p L)) ∙ sym (ap (history p) (take_all k L h))

-- the item n of the order, with its seqno and its verdict
abbrev pub judged : Setting → Order → ℕ → Judged
judged p L n = record { seqno = n; item = item L n; verdict = verdict p L n }

-- the item that is joined to the history of an order
joined_history : (p : Setting) (L : Order) (i : Item) →
    joined p (history p L) i ≡
    history p L ++ (record { seqno = length L + 1; item = i; verdict = verdict_on p (floor p L (length L)) (length L + 1) (entries (history p L)) i }) ∷ []
joined_history p L i =
    let made : Order → ℕ → Judged = λ K n. record { seqno = n + 1; item = i; verdict = verdict_on p (floor p K n) (n + 1) (entries (history p L)) i } in
    ap (λ (K : Order). history p L ++ made K (length (history p L)) ∷ []) (items_history p L)
    ∙ ap (λ n. history p L ++ made L n ∷ []) (length_history p L)

-- one more item, in front of whose seqno stand n - 1 items
pub history_next : (p : Setting) (L : Order) (n : ℕ) → 0 < n → n ≤ length L → history p (take n L) ≡ history p (take (n - 1) L) ++ judged p L n ∷ []
history_next p L n pos h =
    let one : n - 1 + 1 ≡ n = omega arith in
    let front : Order = take (n - 1) L in
    let before : List Judged = history p front in
    let long : length front ≡ n - 1 = length-take-le (n - 1) L (omega arith) in
    let more : take n L ≡ front ++ item L n ∷ [] = rw one at (take_more L (n - 1) no_item (omega arith)) in
    let next : history p (take n L) ≡ joined p before (item L n) = ap (history p) more ∙ history_push p front (item L n) in
    let low : floor p front (n - 1) ≡ floor p L (n - 1) = floor_take p L (n - 1) (n - 1) (omega arith) in
    let made : ℕ → ℕ → Judged = λ lowest m. record { seqno = m; item = item L n; verdict = verdict_on p lowest m (entries before) (item L n) } in
    next
    ∙ (joined_history p front (item L n)
    ∙ (ap (λ k. before ++ made (floor p front k) (k + 1) ∷ []) long
    ∙ (ap (λ lowest. before ++ made lowest (n - 1 + 1) ∷ []) low ∙ ap (λ m. before ++ made (floor p L (n - 1)) m ∷ []) one)))

-- the history has at n - 1 the item n, with its seqno and its verdict
pub history_at : (p : Setting) (L : Order) (n : ℕ) (d : Judged) → 0 < n → n ≤ length L → get_or (history p L) (n - 1) d ≡ judged p L n
history_at p L n d pos h =
    let long : length (history p (take (n - 1) L)) ≡ n - 1 = length_history p (take (n - 1) L) ∙ length-take-le (n - 1) L (omega arith) in
    let place : get_or (history p (take (n - 1) L) ++ judged p L n ∷ []) (n - 1) d ≡ judged p L n = get_or_push (history p (take (n - 1) L)) (judged p L n) d (n - 1) long in
    let next : take n (history p L) ≡ history p (take (n - 1) L) ++ judged p L n ∷ [] = take_history p L n ∙ history_next p L n pos h in
    let here : get_or (take n (history p L)) (n - 1) d ≡ get_or (history p L) (n - 1) d = get_or-take n (history p L) (n - 1) d (omega arith) in
    sym here ∙ (ap (λ (xs : List Judged). get_or xs (n - 1) d) next ∙ place)

-- the same by the index from 0
pub history_at_index : (p : Setting) (L : Order) (i : ℕ) (d : Judged) → i < length L → get_or (history p L) i d ≡ judged p L (i + 1)
history_at_index p L i d h =
    let same : i + 1 - 1 ≡ i = omega arith in
    ap (λ k. get_or (history p L) k d) (sym same) ∙ history_at p L (i + 1) d (omega arith) (omega arith)

-- the verdict on the last item is what the items before it make of it
pub verdict_push : (p : Setting) (L : Order) (i : Item) →
    verdict p (L ++ i ∷ []) (length L + 1) ≡ verdict_on p (floor p L (length L)) (length L + 1) (entries (history p L)) i
verdict_push p L i =
    let same : length L + 1 - 1 ≡ length L = omega arith in
    let before : take (length L) (L ++ i ∷ []) ≡ L = take_at L (i ∷ []) (length L) refl in
    let own : get_or (L ++ i ∷ []) (length L) no_item ≡ i = get_or_push L i no_item (length L) refl in
    let low : floor p (L ++ i ∷ []) (length L) ≡ floor p L (length L) = floor_append p L (i ∷ []) in
    cc

-- an item of the first k items is the same in the whole order
pub item_take : (L : Order) (k n : ℕ) → 0 < n → n ≤ k → item (take k L) n ≡ item L n
item_take L k n pos h = get_or-take k L (n - 1) no_item (omega arith)

-- the verdict on an item of the first k items is the same in the whole order
pub verdict_take : (p : Setting) (L : Order) (k n : ℕ) → 0 < n → n ≤ k → verdict p (take k L) n ≡ verdict p L n
verdict_take p L k n pos h =
    let before : take (n - 1) (take k L) ≡ take (n - 1) L = take-take (n - 1) k L (omega arith) in
    let own : item (take k L) n ≡ item L n = item_take L k n pos h in
    let low : floor p (take k L) (n - 1) ≡ floor p L (n - 1) = floor_take p L k (n - 1) (omega arith) in
    cc

-- more items change no verdict before them
pub verdict_append : (p : Setting) (L M : Order) (n : ℕ) → 0 < n → n ≤ length L → verdict p (L ++ M) n ≡ verdict p L n
verdict_append p L M n pos h =
    let front : take (length L) (L ++ M) ≡ L = take_at L M (length L) refl in
    sym (verdict_take p (L ++ M) (length L) n pos h) ∙ ap (λ K. verdict p K n) front

-- one more item stands behind the history before it, with its seqno and its verdict in the longer order
pub history_push_judged : (p : Setting) (L : Order) (i : Item) →
    history p (L ++ i ∷ []) ≡ history p L ++ (record { seqno = length L + 1; item = i; verdict = verdict p (L ++ i ∷ []) (length L + 1) }) ∷ []
history_push_judged p L i =
    let told : Verdict → Judged = λ v. record { seqno = length L + 1; item = i; verdict = v } in
    history_push p L i ∙ (joined_history p L i ∙ ap (λ v. history p L ++ told v ∷ []) (sym (verdict_push p L i)))

-- the items of a history have the seqnos from 1 up to its length
pub seqnos_history : (p : Setting) (L : Order) → All (λ (j : Judged). (0 < j.seqno) × (j.seqno ≤ length L)) (history p L)
seqnos_history p L k d inside =
    let here : (get_or (history p L) k d).seqno ≡ k + 1 = ap (λ (j : Judged). j.seqno) (history_at_index p L k d (omega (arith, length_history p L))) in
    (omega arith, omega (arith, length_history p L))

-- the items of a history from place s on have a seqno above s
pub later_history : (p : Setting) (L : Order) (s : ℕ) → All (λ (j : Judged). s < j.seqno) (drop s (history p L))
later_history p L s k d inside =
    let long : length (drop s (history p L)) ≡ length L - s = length-drop s (history p L) ∙ ap (λ n. n - s) (length_history p L) in
    let here : get_or (drop s (history p L)) k d ≡ judged p L (s + k + 1) = get_or-drop s (history p L) k d ∙ history_at_index p L (s + k) d (omega arith) in
    let seqno : (get_or (drop s (history p L)) k d).seqno ≡ s + k + 1 = ap (λ (j : Judged). j.seqno) here in
    omega arith
