-- One more item under a scan of the order from its front.
use Rattle.std.proofs.Common.{◌≡◌, ℕ, ◌+◌, ◌<◌, Bool, true, false, cond, Some, List, [], ◌∷◌, ◌++◌, length, get_or, take, drop, nat_lt, ◌≤◌, All, arith, refl, ap, sym, ◌∙◌, append-nil}
use Rattle.std.specs.Prelude.{◌&&◌}
use Rattle.std.proofs.lemmas.List.{take_more, map-append, length-map, length-take, length-take-le, take-append-drop}
use Rattle.std.proofs.lemmas.List.Elements.{All-head, All-tail}
use Rattle.std.proofs.lemmas.Bool.{le-ltb}
use Rattle.rep_types.specs.Entries.{Entry}
use Rattle.rep_types.specs.declared.key.Key.{Key}
use Rattle.rep_types.specs.declared.value.Write.{Write}
use Rattle.rep_types.specs.declared.judged.Judged.{Judged}
use Rattle.rep_types.specs.Keys.{key_eq}
use Rattle.rep_types.specs.Transactions.{Transaction}
use Rattle.rep_types.specs.declared.reach.Reach.{Reach}
use Rattle.rep_types.specs.Settings.{Setting}
use Rattle.rep_types.specs.Items.{writes_of}
use Rattle.rep_types.specs.Reaches.{reach, reach_after}
use Rattle.rep_types.specs.Order.{Order, counts, is_kept, against, seqnos_against, greatest, entries, entry_of, items_of, latest, effects, row_in, overwritten, recent, history, window}
use Rattle.rep_types.proofs.Reaches.{reach_push}
use Rattle.rep_types.proofs.Histories.{take_history}
use Rattle.rep_types.proofs.Greatest.{greater, greatest_against-append, greatest_against_push}
use Rattle.rep_types.proofs.Windows.{entries-append, entries_push, seqnos_entries}
use Rattle.rep_types.proofs.Rows.{effects_push, row_in-append}

-- the items up to and with the one that is read
pub take_read : {A : Type 0} (xs : List A) (i : ℕ) (x : A) → x ≡ get_or xs i x → i < length xs → take (i + 1) xs ≡ take i xs ++ x ∷ []
take_read xs i x read within = take_more xs i x within ∙ ap (λ y. take i xs ++ y ∷ []) (sym read)

-- one more item, whose seqno may be the greatest that stands against w
pub greatest_seqno_push : (w : Transaction) (h : List Judged) (j : Judged) →
    greatest (seqnos_against w (entries (h ++ j ∷ []))) ≡
    cond (is_kept j && against w (entry_of j)) (greater (greatest (seqnos_against w (entries h))) (Some j.seqno)) (greatest (seqnos_against w (entries h)))
greatest_seqno_push w h j = rw entries_push (by_test (is_kept j))
  where
    by_test : (b : Bool) →
        greatest (seqnos_against w (entries h ++ cond b (entry_of j ∷ []) [])) ≡
        cond (b && against w (entry_of j)) (greater (greatest (seqnos_against w (entries h))) (Some j.seqno)) (greatest (seqnos_against w (entries h)))
    by_test true = greatest_against_push w (entries h) (entry_of j)
    by_test false = rw append-nil refl

-- the writes that one more item puts on top
pub row_push : (h : List Judged) (j : Judged) (key : Key) →
    row_in (effects (h ++ j ∷ [])) key ≡ cond (counts j) (overwritten (row_in (effects h) key) (latest (λ (write : Write). key_eq write.key key) (writes_of j.item))) (row_in (effects h) key)
row_push h j key = ap (λ writes. row_in writes key) (effects_push h j) ∙ (row_in-append (effects h) _ key ∙ by_test (counts j))
  where
    by_test : (b : Bool) → overwritten (row_in (effects h) key) (latest (λ (write : Write). key_eq write.key key) (cond b (writes_of j.item) []))
        ≡ cond b (overwritten (row_in (effects h) key) (latest (λ (write : Write). key_eq write.key key) (writes_of j.item))) (row_in (effects h) key)
    by_test true = refl
    by_test false = refl

-- the reach of the items up to and with the one that is read
pub reach_more : (p : Setting) (h : List Judged) (n : ℕ) (d : Judged) → n < length h →
    reach p (items_of (take (n + 1) h)) ≡ reach_after (reach p (items_of (take n h))) (n + 1) (get_or h n d).item
reach_more p h n d within =
    let front : List Judged = take n h in
    let next : items_of (take (n + 1) h) ≡ items_of front ++ (get_or h n d).item ∷ [] =
    ap items_of (take_more h n d within) ∙ map-append (λ (j : Judged). j.item) front (get_or h n d ∷ []) in
    let long : length (items_of front) ≡ n = length-map front (λ (j : Judged). j.item) ∙ length-take-le n h (omega arith) in
    ap (reach p) next ∙ (reach_push p (items_of front) (get_or h n d).item ∙ ap (λ k. reach_after (reach p (items_of front)) (k + 1) (get_or h n d).item) long)

-- the window of an order, by its items and its reach
pub window_from : (p : Setting) (L : Order) (h : List Judged) (r : Reach) → h ≡ history p L → r ≡ reach p L →
    (record { size = r.size; floor = r.floor; entries = recent r.floor (entries h) }) ≡ window p L
window_from p L h r same far = cc

-- items that a transaction had seen do not stand against it
none_of_seen : (w : Transaction) (s : ℕ) (es : List Entry) → s ≤ w.last_seen → All (λ (e : Entry). (0 < e.seqno) × (e.seqno ≤ s)) es → seqnos_against w es ≡ []
none_of_seen w s [] low seen = refl
none_of_seen w s (e ∷ es) low seen =
    let below : (0 < e.seqno) × (e.seqno ≤ s) = All-head (λ (f : Entry). (0 < f.seqno) × (f.seqno ≤ s)) e es seen in
    let rest : seqnos_against w es ≡ [] = none_of_seen w s es low (All-tail (λ (f : Entry). (0 < f.seqno) × (f.seqno ≤ s)) e es seen) in
    let not : nat_lt w.last_seen e.seqno ≡ false = le-ltb w.last_seen e.seqno (omega arith) in
    grind arith

-- so the greatest seqno against an item is that among the items which its transaction had not seen
pub greatest_unseen : (p : Setting) (L : Order) (w : Transaction) →
    greatest (seqnos_against w (entries (drop w.last_seen (history p L)))) ≡ greatest (seqnos_against w (entries (history p L)))
greatest_unseen p L w =
    let s : ℕ = w.last_seen in
    let front : List Judged = take s (history p L) in
    let back : List Judged = drop s (history p L) in
    let few : length (take s L) ≤ s = omega (arith, length-take s L) in
    let none : seqnos_against w (entries front) ≡ [] =
    ap (λ (h : List Judged). seqnos_against w (entries h)) (take_history p L s) ∙ none_of_seen w (length (take s L)) (entries (history p (take s L))) few (seqnos_entries p (take s L)) in
    sym
    (ap (λ (h : List Judged). greatest (seqnos_against w (entries h))) (sym (take-append-drop s (history p L)))
    ∙ (ap (λ (es : List Entry). greatest (seqnos_against w es)) (entries-append front back)
    ∙ (greatest_against-append w (entries front) (entries back) ∙ ap (λ (ns : List ℕ). greater (greatest ns) (greatest (seqnos_against w (entries back)))) none)))
