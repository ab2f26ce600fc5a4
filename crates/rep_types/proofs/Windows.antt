-- Lemmas on the committed items and the window: what certification needs of them.
use Rattle.std.proofs.Common.{◌≡◌, ℕ, ◌+◌, ◌-◌, ◌<◌, ◌≤◌, Bool, true, nat_le, List, [], ◌∷◌, ◌++◌, length, filter, max, All, refl, sym, ap, ◌∙◌, le_refl, arith}
use Rattle.std.proofs.lemmas.List.{map-append}
use Rattle.std.proofs.lemmas.List.Elements.{filter-append, filter_passes, All-head, All-tail, All-weaker, All-map, All-filter}
use Rattle.std.proofs.lemmas.Bool.{leb-true, le-leb}
use Rattle.std.proofs.lemmas.Bool.Decides.{nat_tests}
use Rattle.rep_types.specs.declared.item.Item.{Item}
use Rattle.rep_types.specs.declared.item.Item.TheVariants.{WriteSet, SetWindow}
use Rattle.rep_types.specs.declared.judged.Judged.{Judged}
use Rattle.rep_types.specs.declared.verdict.Verdict.{Verdict}
use Rattle.rep_types.specs.Transactions.{Transaction}
use Rattle.rep_types.specs.Settings.{Setting}
use Rattle.rep_types.specs.Entries.{Entry}
use Rattle.rep_types.specs.Windows.{Window}
use Rattle.rep_types.specs.Reaches.{resized, size, floor}
use Rattle.rep_types.specs.Order.{Order, seqnos_against, verdict_among, verdict_on, is_kept, entry_of, entry_in, entries, history, verdict, recent, window, judge, window_after}
use Rattle.rep_types.proofs.Reaches.{size_push, floor_push}
use Rattle.rep_types.proofs.Histories.{history_push_judged, verdict_push, seqnos_history}

-- the committed items of a joined list are those of its two parts
pub entries-append : (g h : List Judged) → entries (g ++ h) ≡ entries g ++ entries h
entries-append g h = simp (filter-append, map-append)

-- one more judged item: it is one more entry where it is a write set that committed
pub entries_push : (h : List Judged) (j : Judged) → entries (h ++ j ∷ []) ≡ entries h ++ entry_in j
entries_push h j = grind (arith, entries-append h (j ∷ []))

-- the entries from a floor on of a joined list are those of its two parts
pub recent-append : (lowest : ℕ) (es fs : List Entry) → recent lowest (es ++ fs) ≡ recent lowest es ++ recent lowest fs
recent-append lowest es fs = filter-append (λ (e : Entry). nat_le lowest e.seqno) es fs

-- what a lower floor drops, a higher one drops too
pub recent-recent : (low high : ℕ) → low ≤ high → (es : List Entry) → recent high (recent low es) ≡ recent high es
recent-recent low high h [] = refl
recent-recent low high h (e ∷ es) = grind (arith, nat_tests, recent-recent low high h es)

-- entries below what w had seen are not against it
pub against-recent : (lowest : ℕ) (w : Transaction) → lowest ≤ w.last_seen + 1 → (es : List Entry) → seqnos_against w (recent lowest es) ≡ seqnos_against w es
against-recent lowest w h [] = refl
against-recent lowest w h (e ∷ es) = grind (arith, nat_tests, against-recent lowest w h es)

-- entries below the floor of the verdict, or of an earlier one, don't change the verdict
pub verdict_among-recent : (p : Setting) (low lowest n : ℕ) (es : List Entry) (w : Transaction) → low ≤ lowest →
    verdict_among p lowest n (recent low es) w ≡ verdict_among p lowest n es w
verdict_among-recent p low lowest n es w h = grind (arith, nat_tests, against-recent low w)

-- so too of an item of either kind
pub verdict_on-recent : (p : Setting) (low lowest n : ℕ) (es : List Entry) (i : Item) → low ≤ lowest → verdict_on p lowest n (recent low es) i ≡ verdict_on p lowest n es i
verdict_on-recent p low lowest n es (WriteSet w) h = verdict_among-recent p low lowest n es w h
verdict_on-recent p low lowest n es (SetWindow c) h = refl

-- judging from the window is judging the whole order
pub judge_window : (p : Setting) (L : Order) (i : Item) → judge p (length L) (window p L) i ≡ verdict p (L ++ i ∷ []) (length L + 1)
judge_window p L i =
    let low : ℕ = floor p L (length L) in
    verdict_on-recent p low low (length L + 1) (entries (history p L)) i (le_refl low) ∙ sym (verdict_push p L i)

-- the entries of one more item: there is one more where it is a write set whose verdict is Commit
pub entries_history_push : (p : Setting) (L : Order) (i : Item) →
    entries (history p (L ++ i ∷ [])) ≡
    entries (history p L) ++ entry_in (record { seqno = length L + 1; item = i; verdict = verdict p (L ++ i ∷ []) (length L + 1) })
entries_history_push p L i = ap entries (history_push_judged p L i) ∙ entries_push (history p L) _

-- the window goes on from itself as the order does
pub window_push : (p : Setting) (L : Order) (i : Item) → window_after p (length L) (window p L) i ≡ window p (L ++ i ∷ [])
window_push p L i =
    let low : ℕ = floor p L (length L) in
    let span : ℕ = resized (size p L) i in
    let high : ℕ = max low (length L + 1 + 1 - span) in
    let es : List Entry = entries (history p L) in
    let more : List Entry = entries (history p (L ++ i ∷ [])) in
    let own : Verdict → List Entry = λ v. entry_in (record { seqno = length L + 1; item = i; verdict = v }) in
    let last : Verdict = verdict p (L ++ i ∷ []) (length L + 1) in
    let rises : low ≤ high = omega arith in
    let kept : recent high (recent low es ++ own last) ≡ recent high (es ++ own last) =
    recent-append high (recent low es) (own last) ∙ (ap (λ (fs : List Entry). fs ++ recent high (own last)) (recent-recent low high rises es) ∙ sym (recent-append high es (own last))) in
    ap (λ (v : Verdict). made span high (recent high (recent low es ++ own v))) (judge_window p L i)
    ∙ (ap (made span high) kept
    ∙ (ap (λ (fs : List Entry). made span high (recent high fs)) (sym (entries_history_push p L i))
    ∙ (ap (λ (f : ℕ). made span f (recent f more)) (sym (floor_push p L i))
    ∙ ap (λ (s : ℕ). made s (floor p (L ++ i ∷ []) (length (L ++ i ∷ []))) (recent (floor p (L ++ i ∷ []) (length (L ++ i ∷ []))) more)) (sym (size_push p L i)))))
  where
    made : ℕ → ℕ → List Entry → Window
    made s f fs = record { size = s; floor = f; entries = fs }

-- a filter keeps a list whose elements all pass
pub filter_all : {A : Type 0} (test : A → Bool) (xs : List A) → All (λ (x : A). test x ≡ true) xs → filter test xs ≡ xs
filter_all test [] pass = refl
filter_all {A} test (x ∷ xs) pass =
    let first : test x ≡ true = All-head (λ (y : A). test y ≡ true) x xs pass in
    let rest : filter test xs ≡ xs = filter_all test xs (All-tail (λ (y : A). test y ≡ true) x xs pass) in
    grind arith

-- where no entry is below the floor, all are kept
pub recent_all : (lowest : ℕ) (es : List Entry) → All (λ (e : Entry). lowest ≤ e.seqno) es → recent lowest es ≡ es
recent_all lowest es above =
    filter_all (λ (e : Entry). nat_le lowest e.seqno) es
    (All-weaker (λ (e : Entry). lowest ≤ e.seqno) (λ (e : Entry). nat_le lowest e.seqno ≡ true) (λ e h. le-leb lowest e.seqno h) es above)

-- no entry that is kept is below the floor
pub recent_above : (lowest : ℕ) (es : List Entry) → All (λ (e : Entry). lowest ≤ e.seqno) (recent lowest es)
recent_above lowest es =
    All-weaker (λ (e : Entry). nat_le lowest e.seqno ≡ true) (λ (e : Entry). lowest ≤ e.seqno) (λ e passes. leb-true lowest e.seqno passes) (recent lowest es)
    (filter_passes (λ (e : Entry). nat_le lowest e.seqno) es)

-- the committed write sets have seqnos from 1 up to the length of the order
pub seqnos_entries : (p : Setting) (L : Order) → All (λ (e : Entry). (0 < e.seqno) × (e.seqno ≤ length L)) (entries (history p L))
seqnos_entries p L =
    All-map (λ (e : Entry). (0 < e.seqno) × (e.seqno ≤ length L)) entry_of (filter is_kept (history p L))
    (All-filter is_kept (λ (j : Judged). (0 < j.seqno) × (j.seqno ≤ length L)) (history p L) (seqnos_history p L))
