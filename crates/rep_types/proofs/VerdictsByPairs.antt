-- Lemmas on the verdicts by pairs of items: the verdicts of an order are the one assignment that they allow.
use Rattle.std.proofs.Common.{◌≡◌, ◌≢◌, ℕ, zero, suc, ◌+◌, ◌-◌, ◌<◌, ◌≤◌, Bool, true, false, not, nat_lt, nat_le, if◌then◌else◌, List, length, filter, take, get_or, All, Contains, Option, None, Some, refl, sym, ap, subst, ◌∙◌, arith}
use Rattle.std.proofs.lemmas.Bool.{and_from, and_parts, both_ways, lt-ltb, ltb-true, ltb-false, leb-true, leb-false}
use Rattle.std.proofs.lemmas.List.{length-take-le}
use Rattle.std.proofs.lemmas.List.Elements.{All-weaker}
use Rattle.std.proofs.lemmas.List.Sums.{AllPass-from_list_all, list_all-from_AllPass}
use Rattle.rep_types.specs.declared.key.Key.{Key}
use Rattle.rep_types.specs.declared.item.Item.{Item}
use Rattle.rep_types.specs.declared.item.Item.TheVariants.{WriteSet, SetWindow}
use Rattle.rep_types.specs.declared.verdict.Verdict.{Verdict}
use Rattle.rep_types.specs.declared.verdict.Verdict.TheVariants.{Commit, Stale, Future, BadKey}
use Rattle.rep_types.specs.Transactions.{Transaction, named}
use Rattle.rep_types.specs.Items.{is_write_set, seen_by, written_by, named_by}
use Rattle.rep_types.specs.Reaches.{floor}
use Rattle.rep_types.specs.Settings.{Setting, IsRow, has_row}
use Rattle.rep_types.specs.Entries.{Entry}
use Rattle.rep_types.specs.Order.{Order, item, touches, in_schema, against, seqnos_against, greatest, conflict_with, verdict_on, entries, history, verdict}
use Rattle.rep_types.specs.Verdicts.{Meets, IsVerdictOn, AreVerdicts}
use Rattle.rep_types.specs.ByItems.{IsEntry}
use Rattle.rep_types.proofs.Members.{Contains-nothing, Contains-map, Contains-from_map, Contains-filter, Contains-from_filter}
use Rattle.rep_types.proofs.Greatest.{IsGreatest, IsGreatest-greatest}
use Rattle.rep_types.proofs.Committed.{Contains-entries, IsEntry-from_entries}
use Rattle.rep_types.proofs.Touches.{touches_from_common, common_from_touches}
use Rattle.rep_types.proofs.Histories.{item_take, verdict_take}

-- each key of an item that passes the test is a row of the schema
rows_from_in_schema : (p : Setting) (w : Transaction) → in_schema p w ≡ true → All (IsRow p.rows) (named w)
rows_from_in_schema p w known =
    All-weaker (λ (key : Key). has_row p.rows key ≡ true) (IsRow p.rows) (λ key passes. ltb-true key.row (get_or p.rows key.table 0) passes) (named w)
    (AllPass-from_list_all (has_row p.rows) (named w) known)

-- an item whose keys are rows of the schema passes the test
in_schema_from_rows : (p : Setting) (w : Transaction) → All (IsRow p.rows) (named w) → in_schema p w ≡ true
in_schema_from_rows p w rows =
    list_all-from_AllPass (has_row p.rows) (named w)
    (All-weaker (IsRow p.rows) (λ (key : Key). has_row p.rows key ≡ true) (λ key row. lt-ltb key.row (get_or p.rows key.table 0) row) (named w) rows)

-- two verdicts on an item are one, if they rest on assignments that agree on the items before it
same_verdict : (p : Setting) (L : Order) (u v : ℕ → Verdict) (n : ℕ) → ((k : ℕ) → 0 < k → k < n → u k ≡ v k) →
    (i : Item) (a b : Verdict) → IsVerdictOn p L u n i a → IsVerdictOn p L v n i b → a ≡ b
same_verdict p L u v n agree (WriteSet w) a b of_u of_v = grind arith
same_verdict p L u v n agree (SetWindow c) a b of_u of_v = of_u ∙ sym of_v

-- two assignments of verdicts agree on the items below a bound
only_below : (p : Setting) (L : Order) (u v : ℕ → Verdict) → AreVerdicts p L u → AreVerdicts p L v → (bound n : ℕ) → n < bound → 0 < n → n ≤ length L → u n ≡ v n
only_below p L u v of_u of_v zero n below pos inside = absurd (omega arith)
only_below p L u v of_u of_v (suc bound) n below pos inside =
    same_verdict p L u v n (λ k above before. only_below p L u v of_u of_v bound k (omega arith) above (omega arith))
    (item L n) (u n) (v n) (of_u n pos inside) (of_v n pos inside)

-- two assignments of verdicts agree on each item of the order
pub only_verdicts : (p : Setting) (L : Order) (u v : ℕ → Verdict) → AreVerdicts p L u → AreVerdicts p L v → (n : ℕ) → 0 < n → n ≤ length L → u n ≡ v n
only_verdicts p L u v of_u of_v n pos inside = only_below p L u v of_u of_v (n + 1) n (omega arith) pos inside

-- what the greatest seqno that certification finds, or none, says of the items that meet n
abbrev pub IsConflict : Setting → Order → ℕ → Option ℕ → Type 0
IsConflict p L n None = (k : ℕ) → Meets L k n → verdict p L k ≢ Commit
IsConflict p L n (Some m) = Meets L m n × (verdict p L m ≡ Commit) × ((k : ℕ) → m < k → Meets L k n → verdict p L k ≢ Commit)

-- the seqnos of the committed write sets before n that stand against w
abbrev seqnos_before : Setting → Order → ℕ → Transaction → List ℕ
seqnos_before p L n w = seqnos_against w (entries (history p (take (n - 1) L)))

-- there are n - 1 items before n
length_before : (L : Order) (n : ℕ) → 0 < n → n ≤ length L → length (take (n - 1) L) ≡ n - 1
length_before L n pos inside = length-take-le (n - 1) L (omega arith)

-- an item that writes a key is a write set
is_write_set-from_written : (i : Item) (key : Key) → Contains (written_by i) key → is_write_set i ≡ true
is_write_set-from_written (WriteSet w) key has = refl
is_write_set-from_written (SetWindow c) key has = absurd (Contains-nothing key has)

-- an item before n that meets n and committed has such a seqno
seqno_from_Meets : (p : Setting) (L : Order) (n k : ℕ) (w : Transaction) → item L n ≡ WriteSet w → 0 < n → n ≤ length L → Meets L k n → verdict p L k ≡ Commit →
    Contains (seqnos_before p L n w) k
seqno_from_Meets p L n k w is pos inside meets commit =
    let front : Order = take (n - 1) L in
    let unseen : w.last_seen < k = rw (← ap seen_by is) meets.unseen in
    let before : k < n = meets.before in
    let e : Entry = record { seqno = k; keys = written_by (item front k) } in
    let same : item front k ≡ item L k = item_take L (n - 1) k (omega arith) (omega arith) in
    let kind : is_write_set (item front k) ≡ true = ap is_write_set same ∙ is_write_set-from_written (item L k) meets.common.0 meets.common.1 in
    let there : Contains (entries (history p front)) e =
    Contains-entries p front k (omega arith) (omega (arith, length_before L n pos inside)) kind (verdict_take p L (n - 1) k (omega arith) (omega arith) ∙ commit) in
    let touch : touches (written_by (item front k)) (named w) ≡ true =
    ap (λ (i : Item). touches (written_by i) (named w)) same
    ∙ (ap (λ (i : Item). touches (written_by (item L k)) (named_by i)) (sym is) ∙ touches_from_common (written_by (item L k)) (named_by (item L n)) meets.common) in
    let passes : against w e ≡ true =
    and_from (nat_lt w.last_seen k) (touches (written_by (item front k)) (named w)) (lt-ltb w.last_seen k unseen) touch in
    Contains-map (λ (f : Entry). f.seqno) (filter (against w) (entries (history p front))) e
    (Contains-filter (against w) (entries (history p front)) e there passes)

-- and each such seqno is that of an item that meets n and committed
Meets-from_seqno : (p : Setting) (L : Order) (n k : ℕ) (w : Transaction) → item L n ≡ WriteSet w → 0 < n → n ≤ length L → Contains (seqnos_before p L n w) k →
    Meets L k n × (verdict p L k ≡ Commit)
Meets-from_seqno p L n k w of pos inside has =
    let front : Order = take (n - 1) L in
    let found : (e : Entry) × Contains (filter (against w) (entries (history p front))) e × (e.seqno ≡ k) =
    Contains-from_map (λ (f : Entry). f.seqno) (filter (against w) (entries (history p front))) k has in
    let e : Entry = found.0 in
    let kept : Contains (entries (history p front)) e × (against w e ≡ true) =
    Contains-from_filter (against w) (entries (history p front)) e found.1 in
    let is : IsEntry p front e = IsEntry-from_entries p front e kept.0 in
    let within : e.seqno ≤ n - 1 = omega (arith, is.committed.last, length_before L n pos inside) in
    let both : (nat_lt w.last_seen e.seqno ≡ true) × (touches e.keys (named w) ≡ true) =
    and_parts (nat_lt w.last_seen e.seqno) (touches e.keys (named w)) kept.1 in
    let keys : e.keys ≡ written_by (item L e.seqno) = is.keys ∙ ap written_by (item_take L (n - 1) e.seqno is.committed.first within) in
    let P : List Key → Type 0 = λ ks. touches ks (named w) ≡ true in
    let touch : touches (written_by (item L e.seqno)) (named_by (item L n)) ≡ true =
    ap (λ (i : Item). touches (written_by (item L e.seqno)) (named_by i)) of ∙ subst P keys both.1 in
    let later : w.last_seen < e.seqno = ltb-true w.last_seen e.seqno both.0 in
    let here : Meets L e.seqno n × (verdict p L e.seqno ≡ Commit) = (
      record {
        unseen = rw (ap seen_by of) later;
        before = omega (arith, within, is.committed.first);
        common = common_from_touches (written_by (item L e.seqno)) (named_by (item L n)) touch;
      },
      sym (verdict_take p L (n - 1) e.seqno is.committed.first within) ∙ is.committed.commit,
    ) in
    let Q : ℕ → Type 0 = λ m. Meets L m n × (verdict p L m ≡ Commit) in
    subst Q found.2 here

-- the greatest such seqno is that of the conflict, and where there is none, there is no conflict
IsConflict-from_greatest : (p : Setting) (L : Order) (n : ℕ) (w : Transaction) → item L n ≡ WriteSet w → 0 < n → n ≤ length L →
    (o : Option ℕ) → IsGreatest (seqnos_before p L n w) o → IsConflict p L n o
IsConflict-from_greatest p L n w is pos inside None none = λ k meets commit. none k (seqno_from_Meets p L n k w is pos inside meets commit)
IsConflict-from_greatest p L n w is pos inside (Some m) (has, most) =
    let found : Meets L m n × (verdict p L m ≡ Commit) = Meets-from_seqno p L n m w is pos inside has in
    (found.0, found.1, λ k above meets commit. absurd (omega (arith, above, most k (seqno_from_Meets p L n k w is pos inside meets commit))))

-- what certification finds among the committed write sets before n
IsConflict-greatest : (p : Setting) (L : Order) (n : ℕ) (w : Transaction) → item L n ≡ WriteSet w → 0 < n → n ≤ length L →
    IsConflict p L n (greatest (seqnos_before p L n w))
IsConflict-greatest p L n w is pos inside =
    IsConflict-from_greatest p L n w is pos inside (greatest (seqnos_before p L n w)) (IsGreatest-greatest (seqnos_before p L n w))

-- each line of the table says what the verdict by pairs says
IsVerdict-lines : (p : Setting) (L : Order) (n : ℕ) (w : Transaction) → (future known stale : Bool) → nat_le n w.last_seen ≡ future → in_schema p w ≡ known →
    nat_lt (w.last_seen + 1) (floor p L (n - 1)) ≡ stale → (o : Option ℕ) → IsConflict p L n o →
    IsVerdictOn p L (verdict p L) n (WriteSet w) (if future then Future else if not known then BadKey else if stale then Stale else conflict_with o)
IsVerdict-lines p L n w true known stale f k s o conflict = leb-true n w.last_seen f
IsVerdict-lines p L n w false false stale f k s o conflict = (leb-false n w.last_seen f, λ rows. both_ways (in_schema p w) k (in_schema_from_rows p w rows))
IsVerdict-lines p L n w false true true f k s o conflict =
    (leb-false n w.last_seen f, rows_from_in_schema p w k, ltb-true (w.last_seen + 1) (floor p L (n - 1)) s)
IsVerdict-lines p L n w false true false f k s None conflict =
    (record { past = leb-false n w.last_seen f; keys = rows_from_in_schema p w k; recent = ltb-false (w.last_seen + 1) (floor p L (n - 1)) s }, conflict)
IsVerdict-lines p L n w false true false f k s (Some m) conflict =
    (record { past = leb-false n w.last_seen f; keys = rows_from_in_schema p w k; recent = ltb-false (w.last_seen + 1) (floor p L (n - 1)) s }, conflict.0, conflict.1, conflict.2)

-- so the verdict on an item of either kind is as those words say
IsVerdictOn-verdict_on : (p : Setting) (L : Order) (n : ℕ) (i : Item) → item L n ≡ i → 0 < n → n ≤ length L →
    IsVerdictOn p L (verdict p L) n i (verdict_on p (floor p L (n - 1)) n (entries (history p (take (n - 1) L))) i)
IsVerdictOn-verdict_on p L n (SetWindow c) is pos inside = refl
IsVerdictOn-verdict_on p L n (WriteSet w) is pos inside =
    IsVerdict-lines p L n w (nat_le n w.last_seen) (in_schema p w) (nat_lt (w.last_seen + 1) (floor p L (n - 1))) refl refl refl
    (greatest (seqnos_before p L n w)) (IsConflict-greatest p L n w is pos inside)

-- the verdicts of an order are as the words by pairs say
pub AreVerdicts-verdict : (p : Setting) (L : Order) → AreVerdicts p L (verdict p L)
AreVerdicts-verdict p L n pos inside = IsVerdictOn-verdict_on p L n (item L n) refl pos inside
