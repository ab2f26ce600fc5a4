-- Windows that can be written go on as windows that can.
use Rattle.std.proofs.Common.{◌≡◌, ℕ, suc, ◌+◌, ◌-◌, ◌<◌, ◌≤◌, Bool, true, false, nat_le, max, List, [], ◌∷◌, ◌++◌, length, map, filter, None, All, inl, inr, refl, sym, ap, subst, ◌∙◌, append-nil, arith}
use Rattle.std.specs.Prelude.{if◌then◌else◌, not, nat_lt}
use Rattle.std.specs.List.{list_all, AllByRecursion}
use Rattle.std.specs.List.Sorted.{IsStrictlyIncreasing}
use Rattle.std.proofs.lemmas.Bool.{cond_both, leb-true, cases_lt}
use Rattle.std.proofs.lemmas.Bool.Decides.{nat_tests}
use Rattle.std.proofs.lemmas.List.{map-append, length-map, length_push, get_or_push, get_or_append_left}
use Rattle.std.proofs.lemmas.List.Folds.{list_all-append}
use Rattle.std.proofs.lemmas.List.Elements.{All-map, All-from_recursion, All-get_or}
use Rattle.std.proofs.lemmas.List.Kept.{IsStrictlyIncreasing-filter}
use Rattle.rep_types.specs.declared.limits.TheConstants.{MAX_WRITES}
use Rattle.rep_types.specs.declared.item.Item.{Item}
use Rattle.rep_types.specs.declared.item.Item.TheVariants.{WriteSet, SetWindow}
use Rattle.rep_types.specs.declared.verdict.Verdict.{Verdict}
use Rattle.rep_types.specs.declared.verdict.Verdict.TheVariants.{Stale, Future, BadKey}
use Rattle.rep_types.specs.Keys.{disorder}
use Rattle.rep_types.specs.Entries.{Entry}
use Rattle.rep_types.specs.Settings.{Setting, has_row, is_setting}
use Rattle.rep_types.specs.Transactions.{Transaction, written, key_of, IsWithinLimits}
use Rattle.rep_types.specs.Windows.{Window as Kept, fixed, is_window_size}
use Rattle.rep_types.specs.Reaches.{resized}
use Rattle.rep_types.specs.Order.{recent, judge, is_commit, in_schema, conflict_with, greatest, seqnos_against, entry_in, judged_next, window_after}
use Rattle.rep_layout.specs.Windows.{IsEntry, IsWindowAt, seqno_of}
use Rattle.rep_types.specs.Items.{IsWithin}
use Rattle.rep_types.proofs.Choices.{and_right}
use Rattle.rep_layout.specs.GoingOn.{WindowsGoOn}

-- ---- seqnos that ascend

-- one number more, above all
ascend_push : (xs : List ℕ) (y : ℕ) → IsStrictlyIncreasing xs → All (λ (x : ℕ). x < y) xs → IsStrictlyIncreasing (xs ++ y ∷ [])
ascend_push xs y up below k within =
    let long = length_push xs y in
    let low = get_or_append_left xs (y ∷ []) 0 k (omega (arith, within, long)) in
    elim (cases_lt (k + 1) (length xs)) [
      | inl inside ↦ rw (low, get_or_append_left xs (y ∷ []) 0 (k + 1) inside) (up k inside)
      | inr end ↦ rw (low, get_or_push xs y 0 (k + 1) (omega (arith, within, long, end))) (All-get_or (λ (x : ℕ). x < y) xs k 0 (omega (arith, within, long)) below)
    ]

-- the seqnos of the entries from a floor on
seqnos_recent : (lowest : ℕ) (es : List Entry) → map seqno_of (recent lowest es) ≡ filter (nat_le lowest) (map seqno_of es)
seqnos_recent lowest [] = refl
seqnos_recent lowest (e ∷ es) = grind (arith, seqnos_recent lowest es)

ascend_recent : (lowest : ℕ) (es : List Entry) → IsStrictlyIncreasing (map seqno_of es) → IsStrictlyIncreasing (map seqno_of (recent lowest es))
ascend_recent lowest es up = subst IsStrictlyIncreasing (sym (seqnos_recent lowest es)) (IsStrictlyIncreasing-filter (nat_le lowest) (map seqno_of es) up)

-- the first of them, and how many are behind it
spans : (p : Setting) (lowest position : ℕ) (e : Entry) (es : List Entry) → IsStrictlyIncreasing (map seqno_of (e ∷ es)) → AllByRecursion (IsEntry p lowest position) (e ∷ es) → e.seqno + length es ≤ position
spans p lowest position e [] up all = omega (arith, all.0.past)
spans p lowest position e (f ∷ es) up all =
    let first : e.seqno < f.seqno = up 0 (omega arith) in
    let rest = spans p lowest position f es (λ k lt. grind (arith, up (suc k), lt)) all.1 in
    omega (arith, first, rest)

-- there are no more of them than there are seqnos from the floor on
few_ascend : (p : Setting) (lowest position : ℕ) (es : List Entry) → IsStrictlyIncreasing (map seqno_of es) → AllByRecursion (IsEntry p lowest position) es → length es ≤ position + 1 - lowest
few_ascend p lowest position [] up all = omega arith
few_ascend p lowest position (e ∷ es) up all = let most = spans p lowest position e es up all in omega (arith, most, all.0.near)

-- ---- what a floor keeps of entries that came

-- what an entry of a window of the position is, but for the floor
record HasCome (p : Setting) (position : ℕ) (e : Entry) : Type 0 where
  past : e.seqno ≤ position
  some : 1 ≤ length e.keys
  few : length e.keys ≤ MAX_WRITES
  ascend : disorder e.keys ≡ None
  rows : list_all (has_row p.rows) e.keys ≡ true

near : (p : Setting) (lowest position : ℕ) (e : Entry) → HasCome p position e → nat_le lowest e.seqno ≡ true → IsEntry p lowest position e
near p lowest position e h kept = record { past = h.past; near = leb-true lowest e.seqno kept; some = h.some; few = h.few; ascend = h.ascend; rows = h.rows }

entries_near : (p : Setting) (lowest position : ℕ) (es : List Entry) → AllByRecursion (HasCome p position) es → AllByRecursion (IsEntry p lowest position) (recent lowest es)
entries_near p lowest position [] all = tt
entries_near p lowest position (e ∷ es) all =
    let rest = entries_near p lowest position es all.1 in
    cond_both (nat_le lowest e.seqno) (e ∷ recent lowest es) (recent lowest es) (AllByRecursion (IsEntry p lowest position)) (λ kept. (near p lowest position e all.0 kept, rest)) (λ out. rest)

-- so a floor makes a window of them
abbrev spanned : ℕ → ℕ → List Entry → Kept
spanned span lowest es = record { size = span; floor = lowest; entries = recent lowest es }

kept_is_window : (p : Setting) (span lowest position : ℕ) (es : List Entry) → is_window_size span ≡ true → max 1 (position + 1 - span) ≤ lowest → lowest ≤ max 1 position
    → IsStrictlyIncreasing (map seqno_of es) → AllByRecursion (HasCome p position) es → IsWindowAt p position (spanned span lowest es)
kept_is_window p span lowest position es size least most up all =
    let ascend = ascend_recent lowest es up in
    let entries = entries_near p lowest position es all in
    let few = few_ascend p lowest position (recent lowest es) ascend entries in
    record { size = size; least = least; most = most; few = omega (arith, few, least); ascend = ascend; entries = entries }

-- ---- one more item

come_later : (p : Setting) (lowest position later : ℕ) → position ≤ later → (es : List Entry) → AllByRecursion (IsEntry p lowest position) es → AllByRecursion (HasCome p later) es
come_later p lowest position later le [] all = tt
come_later p lowest position later le (e ∷ es) all = (
  record { past = omega (arith, le, all.0.past); some = all.0.some; few = all.0.few; ascend = all.0.ascend; rows = all.0.rows },
  come_later p lowest position later le es all.1,
)

below_next : (p : Setting) (lowest position : ℕ) (es : List Entry) → AllByRecursion (IsEntry p lowest position) es → AllByRecursion (λ (e : Entry). seqno_of e < position + 1) es
below_next p lowest position [] all = tt
below_next p lowest position (e ∷ es) all = (omega (arith, all.0.past), below_next p lowest position es all.1)

come_push : (p : Setting) (position : ℕ) (es : List Entry) (e : Entry) → AllByRecursion (HasCome p position) es → HasCome p position e → AllByRecursion (HasCome p position) (es ++ e ∷ [])
come_push p position [] e all h = (h, tt)
come_push p position (f ∷ es) e all h = (all.0, come_push p position es e all.1 h)

-- a write set that commits names rows of the schema alone
passes : (future known stale : Bool) (rest : Verdict) → is_commit (if future then Future else if not known then BadKey else if stale then Stale else rest) ≡ true → known ≡ true
passes true known stale rest e = absurd cc
passes false true stale rest e = refl
passes false false stale rest e = absurd cc

commits_inside : (p : Setting) (position : ℕ) (v : Kept) (w : Transaction) → is_commit (judge p position v (WriteSet w)) ≡ true → in_schema p w ≡ true
commits_inside p position v w e =
    passes (nat_le (position + 1) w.last_seen) (in_schema p w) (nat_lt (w.last_seen + 1) v.floor) (conflict_with (greatest (seqnos_against w v.entries))) e

writes_inside : (p : Setting) (w : Transaction) → in_schema p w ≡ true → list_all (has_row p.rows) (written w) ≡ true
writes_inside p w e = and_right (list_all (has_row p.rows) w.reads) (list_all (has_row p.rows) (written w)) (sym (list_all-append (has_row p.rows) w.reads (written w)) ∙ e)

-- the entry of the next write set, where it commits
abbrev own : ℕ → Transaction → Entry
own position w = record { seqno = position + 1; keys = written w }

own_has_come : (p : Setting) (position : ℕ) (v : Kept) (w : Transaction) → IsWithinLimits w → is_commit (judge p position v (WriteSet w)) ≡ true → HasCome p (position + 1) (own position w)
own_has_come p position v w limits commits =
    let long : length (written w) ≡ length w.writes = length-map w.writes key_of in
    record {
      past = omega arith;
      some = omega (arith, long, limits.some_write);
      few = omega (arith, long, limits.few_writes);
      ascend = limits.writes_ascend;
      rows = writes_inside p w (commits_inside p position v w commits);
    }

-- what stands in the next window before its floor is raised: entries that came, of seqnos that ascend
record Come (p : Setting) (position : ℕ) (es : List Entry) : Type 0 where
  ascend : IsStrictlyIncreasing (map seqno_of es)
  entries : AllByRecursion (HasCome p position) es

come_none : (p : Setting) (position : ℕ) (v : Kept) → IsWindowAt p position v → Come p (position + 1) (v.entries ++ [])
come_none p position v h =
    subst (Come p (position + 1)) (sym (append-nil v.entries)) (record { ascend = h.ascend; entries = come_later p v.floor position (position + 1) (omega arith) v.entries h.entries })

come_own : (p : Setting) (position : ℕ) (v : Kept) (w : Transaction) → IsWithinLimits w → IsWindowAt p position v → is_commit (judge p position v (WriteSet w)) ≡ true → Come p (position + 1) (v.entries ++ own position w ∷ [])
come_own p position v w limits h commits =
    let es : List Entry = v.entries in
    let below : All (λ (x : ℕ). x < position + 1) (map seqno_of es) =
    All-map (λ (x : ℕ). x < position + 1) seqno_of es (All-from_recursion (λ (e : Entry). seqno_of e < position + 1) es (below_next p v.floor position es h.entries)) in
    record {
      ascend = subst IsStrictlyIncreasing (sym (map-append seqno_of es (own position w ∷ []))) (ascend_push (map seqno_of es) (position + 1) h.ascend below);
      entries = come_push p (position + 1) es (own position w) (come_later p v.floor position (position + 1) (omega arith) es h.entries) (own_has_come p position v w limits commits);
    }

come_next : (p : Setting) (position : ℕ) (v : Kept) (i : Item) → IsWithin i → IsWindowAt p position v → Come p (position + 1) (v.entries ++ entry_in (judged_next p position v i))
come_next p position v (WriteSet w) within h =
    cond_both (is_commit (judge p position v (WriteSet w))) (own position w ∷ []) [] (λ (fs : List Entry). Come p (position + 1) (v.entries ++ fs))
    (λ commits. come_own p position v w within h commits) (λ other. come_none p position v h)
come_next p position v (SetWindow c) within h = come_none p position v h

-- the size after it is within the limits
size_next : (before : ℕ) (i : Item) → is_window_size before ≡ true → IsWithin i → is_window_size (resized before i) ≡ true
size_next before (WriteSet w) h within = h
size_next before (SetWindow c) h within = within

some_size : (size : ℕ) → is_window_size size ≡ true → 1 ≤ size
some_size size h = grind (arith, nat_tests)

is_next : (p : Setting) (position : ℕ) (v : Kept) (i : Item) → IsWithin i → IsWindowAt p position v → IsWindowAt p (position + 1) (window_after p position v i)
is_next p position v i within h =
    let span = resized v.size i in
    let size = size_next v.size i h.size within in
    let some = some_size span size in
    let come = come_next p position v i within h in
    kept_is_window p span (max v.floor (position + 1 + 1 - span)) (position + 1) (v.entries ++ entry_in (judged_next p position v i)) size (omega (arith, h.least)) (omega (arith, h.most, some)) come.ascend come.entries

-- the sizes of parameters are those of windows
setting_size : (p : Setting) → is_setting p ≡ true → is_window_size p.window ≡ true
setting_size p h = grind (arith, nat_tests)

is_first : (p : Setting) → is_setting p ≡ true → (position : ℕ) → IsWindowAt p position (fixed p.window position [])
is_first p h position =
    let size = setting_size p h in
    let some = some_size p.window size in
    record { size = size; least = omega arith; most = omega (arith, some); few = omega arith; ascend = λ k lt. absurd (omega (arith, lt)); entries = tt }

-- a write set leaves a window fixed that was so
is_same : (p : Setting) (position : ℕ) (v : Kept) (w : Transaction) → v ≡ fixed p.window position v.entries
    → window_after p position v (WriteSet w) ≡ fixed p.window (position + 1) (window_after p position v (WriteSet w)).entries
is_same p position v w is =
    let floor_is : v.floor ≡ max 1 (position + 1 - p.window) = ap (λ (u : Kept). u.floor) is in
    let size_is : v.size ≡ p.window = ap (λ (u : Kept). u.size) is in
    let low : max v.floor (position + 1 + 1 - v.size) ≡ max 1 (position + 1 + 1 - p.window) = omega (arith, floor_is, size_is) in
    let made : ℕ → ℕ → Kept = λ span least. record { size = span; floor = least; entries = (window_after p position v (WriteSet w)).entries } in
    ap (λ span. made span (max v.floor (position + 1 + 1 - v.size))) size_is ∙ ap (made p.window) low

pub go_on : WindowsGoOn
go_on = record {
  first = is_first;
  next = is_next;
  same = is_same;
  body = λ p number position v n q h. record { number = n; position = q; format = tt; kept = h };
  old = λ p number position v n q h is. record { number = n; position = q; format = is; kept = h };
}
