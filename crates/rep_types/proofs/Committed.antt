-- The entries of a history are those of the committed write sets.
use Rattle.std.proofs.Common.{◌≡◌, ℕ, zero, suc, ◌+◌, ◌-◌, ◌<◌, ◌≤◌, Bool, true, false, if◌then◌else◌, List, [], ◌∷◌, length, map, filter, get_or, Contains, refl, sym, ap, subst, ◌∙◌, arith}
use Rattle.std.proofs.lemmas.Bool.{and_from, and_parts}
use Rattle.rep_types.specs.declared.key.Key.{Key}
use Rattle.rep_types.specs.declared.judged.Judged.{Judged}
use Rattle.rep_types.specs.declared.verdict.Verdict.{Verdict}
use Rattle.rep_types.specs.declared.verdict.Verdict.TheVariants.{Commit}
use Rattle.rep_types.specs.Settings.{Setting}
use Rattle.rep_types.specs.Entries.{Entry}
use Rattle.rep_types.specs.Items.{is_write_set, written_by}
use Rattle.rep_types.specs.Order.{Order, item, is_commit, is_kept, entry_of, entries, history, verdict}
use Rattle.rep_types.specs.ByItems.{IsEntry, AscendBySeqno}
use Rattle.rep_types.proofs.Members.{Contains-map, Contains-from_map, Contains-filter, Contains-from_filter}
use Rattle.rep_types.proofs.Histories.{judged, length_history, history_at, history_at_index}

-- a verdict that counts is Commit
pub is_commit-true : (v : Verdict) → is_commit v ≡ true → v ≡ Commit
is_commit-true v h = grind arith

-- the item n stands in the history, with its seqno and its verdict
pub Contains-history : (p : Setting) (L : Order) (n : ℕ) → 0 < n → n ≤ length L → Contains (history p L) (judged p L n)
Contains-history p L n pos inside = (n - 1, omega (arith, length_history p L), history_at p L n (judged p L n) pos inside)

-- what stands in the history is an item of the order, with its seqno and its verdict
pub judged-from_history : (p : Setting) (L : Order) (j : Judged) → Contains (history p L) j → (n : ℕ) × (0 < n) × (n ≤ length L) × (j ≡ judged p L n)
judged-from_history p L j (i, inside, is) =
    let within : i < length L = omega (arith, inside, length_history p L) in
    (i + 1, omega arith, omega (arith, within), sym is ∙ history_at_index p L i j within)

-- a committed write set has an entry
pub Contains-entries : (p : Setting) (L : Order) (n : ℕ) → 0 < n → n ≤ length L → is_write_set (item L n) ≡ true → verdict p L n ≡ Commit →
    Contains (entries (history p L)) (record { seqno = n; keys = written_by (item L n) })
Contains-entries p L n pos inside kind commit =
    Contains-map entry_of (filter is_kept (history p L)) (judged p L n)
    (Contains-filter is_kept (history p L) (judged p L n) (Contains-history p L n pos inside)
    (and_from (is_write_set (item L n)) (is_commit (verdict p L n)) kind (ap is_commit commit)))

-- each entry is that of a committed write set
pub IsEntry-from_entries : (p : Setting) (L : Order) (e : Entry) → Contains (entries (history p L)) e → IsEntry p L e
IsEntry-from_entries p L e has =
    let found : (j : Judged) × Contains (filter is_kept (history p L)) j × (entry_of j ≡ e) = Contains-from_map entry_of (filter is_kept (history p L)) e has in
    let j : Judged = found.0 in
    let kept : Contains (history p L) j × (is_kept j ≡ true) = Contains-from_filter is_kept (history p L) j found.1 in
    let at : (n : ℕ) × (0 < n) × (n ≤ length L) × (j ≡ judged p L n) = judged-from_history p L j kept.0 in
    let P : Judged → Type 0 = λ x. is_kept x ≡ true in
    let Q : Judged → Type 0 = λ x. IsEntry p L (entry_of x) in
    let both : (is_write_set (item L at.0) ≡ true) × (is_commit (verdict p L at.0) ≡ true) =
    and_parts (is_write_set (item L at.0)) (is_commit (verdict p L at.0)) (subst P at.3 kept.1) in
    let is : IsEntry p L (entry_of (judged p L at.0)) =
    record { committed = record { first = at.1; last = at.2; commit = is_commit-true (verdict p L at.0) both.1 }; kind = both.0; keys = refl } in
    subst (IsEntry p L) found.2 (subst Q (sym at.3) is)

-- an entry of these keys
same_entry : (e : Entry) (ks : List Key) → e.keys ≡ ks → record { seqno = e.seqno; keys = ks } ≡ e
same_entry e ks is = ap (λ (keys : List Key). record { seqno = e.seqno; keys = keys }) (sym is)

-- the entry of a committed write set is there
pub entries_from_IsEntry : (p : Setting) (L : Order) (e : Entry) → IsEntry p L e → Contains (entries (history p L)) e
entries_from_IsEntry p L e is =
    let own : Entry = record { seqno = e.seqno; keys = written_by (item L e.seqno) } in
    let same : own ≡ e = same_entry e (written_by (item L e.seqno)) is.keys in
    subst (Contains (entries (history p L))) same (Contains-entries p L e.seqno is.committed.first is.committed.last is.kind is.committed.commit)

-- each seqno is above the bound, and below those behind it
abbrev pub AscendFrom : ℕ → List Entry → Type 0
AscendFrom low [] = Unit
AscendFrom low (e ∷ es) = (low ≤ e.seqno) × AscendFrom (e.seqno + 1) es

-- a lower bound does too
pub AscendFrom-lower : (low more : ℕ) (es : List Entry) → more ≤ low → AscendFrom low es → AscendFrom more es
AscendFrom-lower low more [] below a = tt
AscendFrom-lower low more (e ∷ es) below a = (omega (arith, a.0), a.1)

-- none is below the bound
AscendFrom-at : (low : ℕ) (es : List Entry) (k : ℕ) (d : Entry) → AscendFrom low es → k < length es → low ≤ (get_or es k d).seqno
AscendFrom-at low [] k d a inside = absurd (omega arith)
AscendFrom-at low (e ∷ es) zero d a inside = a.0
AscendFrom-at low (e ∷ es) (suc k) d a inside = omega (arith, a.0, AscendFrom-at (e.seqno + 1) es k d a.1 (omega arith))

-- so each is below those behind it
pub AscendBySeqno-from : (low : ℕ) (es : List Entry) → AscendFrom low es → AscendBySeqno es
AscendBySeqno-from low [] a i j d below inside = absurd (omega arith)
AscendBySeqno-from low (e ∷ es) a i zero d below inside = absurd (omega arith)
AscendBySeqno-from low (e ∷ es) a zero (suc j) d below inside = omega (arith, AscendFrom-at (e.seqno + 1) es j d a.1 (omega arith))
AscendBySeqno-from low (e ∷ es) a (suc i) (suc j) d below inside = AscendBySeqno-from (e.seqno + 1) es a.1 i j d (omega arith) (omega arith)

-- one entry in front, kept or left out
AscendFrom_cut : (b : Bool) (low : ℕ) (e : Entry) (es : List Entry) → low ≤ e.seqno → AscendFrom (e.seqno + 1) es → AscendFrom low (if b then e ∷ es else es)
AscendFrom_cut true low e es above rest = (above, rest)
AscendFrom_cut false low e es above rest = AscendFrom-lower (e.seqno + 1) low es (omega (arith, above)) rest

-- what a test keeps of them ascends too
pub AscendFrom-filter : (test : Entry → Bool) (low : ℕ) (es : List Entry) → AscendFrom low es → AscendFrom low (filter test es)
AscendFrom-filter test low [] a = tt
AscendFrom-filter test low (e ∷ es) a = AscendFrom_cut (test e) low e (filter test es) a.0 (AscendFrom-filter test (e.seqno + 1) es a.1)

-- the judged items have their places as seqnos, from the first on
abbrev HaveSeqnos : ℕ → List Judged → Type 0
HaveSeqnos n [] = Unit
HaveSeqnos n (j ∷ js) = (j.seqno ≡ n) × HaveSeqnos (n + 1) js

-- by their indices
HaveSeqnos-from : (n : ℕ) (js : List Judged) → ((i : ℕ) (d : Judged) → i < length js → (get_or js i d).seqno ≡ n + i) → HaveSeqnos n js
HaveSeqnos-from n [] at = tt
HaveSeqnos-from n (j ∷ js) at =
    (omega (arith, at zero j (omega arith)), HaveSeqnos-from (n + 1) js (λ i d inside. omega (arith, at (suc i) d (omega (arith, inside)))))

-- the entries of the write sets that commit ascend
AscendFrom-entries : (n : ℕ) (js : List Judged) → HaveSeqnos n js → AscendFrom n (entries js)
AscendFrom-entries n [] have = tt
AscendFrom-entries n (j ∷ js) have =
    let P : ℕ → Type 0 = λ m. AscendFrom m (entries js) in
    let next : n + 1 ≡ j.seqno + 1 = omega (arith, have.0) in
    entries_first (is_kept j) n j js (omega (arith, have.0)) (subst P next (AscendFrom-entries (n + 1) js have.1))
  where
    entries_first : (b : Bool) (low : ℕ) (j : Judged) (js : List Judged) → low ≤ j.seqno → AscendFrom (j.seqno + 1) (entries js) →
        AscendFrom low (map entry_of (if b then j ∷ filter is_kept js else filter is_kept js))
    entries_first true low j js above rest = (above, rest)
    entries_first false low j js above rest = AscendFrom-lower (j.seqno + 1) low (entries js) (omega (arith, above)) rest

-- the entries of an order ascend
pub AscendFrom-history : (p : Setting) (L : Order) → AscendFrom 1 (entries (history p L))
AscendFrom-history p L =
    AscendFrom-entries 1 (history p L)
    (HaveSeqnos-from 1 (history p L)
    (λ i d inside. ap (λ (j : Judged). j.seqno) (history_at_index p L i d (omega (arith, inside, length_history p L))) ∙ (let one : i + 1 ≡ 1 + i = omega arith in one)))
