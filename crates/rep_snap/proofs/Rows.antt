-- What is found of a row is what a plain fold over the pairs makes of it.
use Rattle.std.proofs.Common.{◌≡◌, ◌∙◌, refl, sym, ap, ℕ, ◌<◌, ◌≤◌, Bool, true, false, ◌==◌, nat_le, if◌then◌else◌, List, [], ◌∷◌, ◌++◌, fold, Option, None, Some, arith}
use Rattle.std.specs.Prelude.{unwrap_or}
use Rattle.std.specs.Option.{option_or}
use mathlib.Core.Logic.{dite}
use native.Mathlib.Decide.{ℕ_discrete}
use Rattle.std.proofs.lemmas.Bool.Decides.{nat_tests}
use Rattle.rep_types.specs.declared.key.Key.{Key}
use Rattle.rep_types.specs.declared.value.Write.{Write}
use Rattle.rep_types.specs.Keys.{key_eq}
use Rattle.rep_types.specs.Order.{latest, content_after, overwritten}
use Rattle.rep_versions.specs.Versions.{Version, overlaid}
use Rattle.rep_versions.specs.Following.{made_by}
use Rattle.rep_snap.specs.declared.change.Pair.{Pair}
use Rattle.rep_snap.specs.declared.peek.Peek.{Peek}
use Rattle.rep_snap.specs.declared.peek.Peek.TheVariants.{Value, Absent, Cold}
use Rattle.rep_snap.specs.Lists.{front_of, Ascends, written, written_by, left, IsNewestWrite, IsFound}
use Rattle.rep_snap.specs.Laws.{rows_at, row_over, PeeksFollowTheFold}

-- what a write makes of a row is its version, or else the row as it was
over_write : (row : Option (List ℕ)) (w : Option Write) → overwritten row w ≡ unwrap_or (overlaid None w) row
over_write row None = refl
over_write row (Some w) = refl

-- the fold of one row
abbrev row_at : Key → Option (List ℕ) → List Pair → ℕ → Option (List ℕ)
row_at key row pairs s = fold (λ r pair. if nat_le pair.seqno s then unwrap_or (made_by pair.writes.items key) r else r) row pairs

one_pair : (key : Key) (content : Key → Option (List ℕ)) (pair : Pair) (b : Bool)
    → (if b then content_after content pair.writes.items else content) key ≡ (if b then unwrap_or (made_by pair.writes.items key) (content key) else content key)
one_pair key content pair true = over_write (content key) (latest (λ (write : Write). key_eq write.key key) pair.writes.items)
one_pair key content pair false = refl

by_row : (key : Key) (content : Key → Option (List ℕ)) (pairs : List Pair) (s : ℕ) → rows_at content pairs s key ≡ row_at key (content key) pairs s
by_row key content [] s = refl
by_row key content (p ∷ pairs) s = by_row key (if nat_le p.seqno s then content_after content p.writes.items else content) pairs s
    ∙ ap (λ r. row_at key r pairs s) (one_pair key content p (nat_le p.seqno s))

-- pairs above the snapshot are passed over
passed : (key : Key) (below : ℕ) (pairs : List Pair) (s : ℕ) (row : Option (List ℕ)) → Ascends below pairs → s ≤ below → row_at key row pairs s ≡ row
passed key below [] s row h le = refl
passed key below (p ∷ pairs) s row h le =
    let lt = h.0 in
    let above : nat_le p.seqno s ≡ false = grind (arith, nat_tests, lt, le) in
    ap (λ b. row_at key (if b then unwrap_or (made_by p.writes.items key) row else row) pairs s) above ∙ passed key p.seqno pairs s row h.1 (omega (arith, lt, le))

rows_passed : (below : ℕ) (pairs : List Pair) (s : ℕ) (content : Key → Option (List ℕ)) → Ascends below pairs → s ≤ below → rows_at content pairs s ≡ content
rows_passed below [] s content h le = refl
rows_passed below (p ∷ pairs) s content h le =
    let lt = h.0 in
    let above : nat_le p.seqno s ≡ false = grind (arith, nat_tests, lt, le) in
    ap (λ b. rows_at (if b then content_after content p.writes.items else content) pairs s) above ∙ rows_passed p.seqno pairs s content h.1 (omega (arith, lt, le))

-- at and below where the pairs begin there is none
none_low : (below : ℕ) (pairs : List Pair) (n : ℕ) → Ascends below pairs → n ≤ below → latest (λ (pair : Pair). pair.seqno == n) pairs ≡ None
none_low below [] n h le = refl
none_low below (p ∷ pairs) n h le =
    let lt = h.0 in
    let apart : (p.seqno == n) ≡ false = grind (arith, nat_tests, lt, le) in
    ap (λ o. option_or o (if p.seqno == n then Some p else None)) (none_low p.seqno pairs n h.1 (omega (arith, lt, le))) ∙ ap (λ b. option_or None (if b then Some p else None)) apart

-- what the first pair wrote, at its seqno
first_wrote : (p : Pair) (pairs : List Pair) (key : Key) (n : ℕ) → Ascends p.seqno pairs → p.seqno ≡ n → written (p ∷ pairs) key n ≡ made_by p.writes.items key
first_wrote p pairs key n h same =
    let here : (p.seqno == n) ≡ true = grind (arith, nat_tests, same) in
    ap (λ o. written_by key (option_or o (if p.seqno == n then Some p else None))) (none_low p.seqno pairs n h (omega (arith, same)))
    ∙ ap (λ b. written_by key (option_or None (if b then Some p else None))) here

or_none : (o : Option Pair) → option_or o None ≡ o
or_none None = refl
or_none (Some p) = refl

-- and elsewhere it is what the others wrote
others_wrote : (p : Pair) (pairs : List Pair) (key : Key) (n : ℕ) → (p.seqno ≡ n → ⊥) → written (p ∷ pairs) key n ≡ written pairs key n
others_wrote p pairs key n other =
    let apart : (p.seqno == n) ≡ false = grind (arith, nat_tests, other) in
    ap (λ b. written_by key (option_or (latest (λ (pair : Pair). pair.seqno == n) pairs) (if b then Some p else None))) apart
    ∙ ap (written_by key) (or_none (latest (λ (pair : Pair). pair.seqno == n) pairs))

-- no pair behind the first writes the row in between, where none does
rest : (p : Pair) (pairs : List Pair) (key : Key) (m s : ℕ) → Ascends p.seqno pairs → ((n : ℕ) → m < n → n ≤ s → written (p ∷ pairs) key n ≡ None)
    → (n : ℕ) → m < n → n ≤ s → written pairs key n ≡ None
rest p pairs key m s h none n lt le = dite (ℕ_discrete p.seqno n)
    (λ same. ap (written_by key) (none_low p.seqno pairs n h (omega (arith, same))))
    (λ other. sym (others_wrote p pairs key n other) ∙ none n lt le)

-- what the first pair makes of the row at both snapshots
both : (p : Pair) (pairs : List Pair) (key : Key) (m s : ℕ) (row : Option (List ℕ)) → Ascends p.seqno pairs → m ≤ s → ((n : ℕ) → m < n → n ≤ s → written (p ∷ pairs) key n ≡ None)
    → (b c : Bool) → nat_le p.seqno s ≡ b → nat_le p.seqno m ≡ c
    → (if b then unwrap_or (made_by p.writes.items key) row else row) ≡ (if c then unwrap_or (made_by p.writes.items key) row else row)
both p pairs key m s row h le none true true i j = refl
both p pairs key m s row h le none false false i j = refl
both p pairs key m s row h le none false true i j = absurd (grind (arith, nat_tests, i, j, le))
both p pairs key m s row h le none true false i j =
    let above : m < p.seqno = grind (arith, nat_tests, j) in
    let within : p.seqno ≤ s = grind (arith, nat_tests, i) in
    ap (λ o. unwrap_or o row) (sym (first_wrote p pairs key p.seqno h refl) ∙ none p.seqno above within)

-- the row stays where no pair writes it
flat : (key : Key) (below : ℕ) (pairs : List Pair) (m s : ℕ) (row : Option (List ℕ)) → Ascends below pairs → m ≤ s → ((n : ℕ) → m < n → n ≤ s → written pairs key n ≡ None)
    → row_at key row pairs s ≡ row_at key row pairs m
flat key below [] m s row h le none = refl
flat key below (p ∷ pairs) m s row h le none =
    ap (λ r. row_at key r pairs s) (both p pairs key m s row h.1 le none _ _ refl refl)
    ∙ flat key p.seqno pairs m s (if nat_le p.seqno m then unwrap_or (made_by p.writes.items key) row else row) h.1 le (rest p pairs key m s h.1 none)

-- and is what a pair wrote at its seqno
wrote : (key : Key) (below : ℕ) (pairs : List Pair) (m : ℕ) (row : Option (List ℕ)) (v : Version) → Ascends below pairs → written pairs key m ≡ Some v → row_at key row pairs m ≡ v
wrote key below [] m row v h is = absurd (let none : None ≡ Some v = is in cc none)
wrote key below (p ∷ pairs) m row v h is = dite (ℕ_discrete p.seqno m)
    (λ same. let here : nat_le p.seqno m ≡ true = grind (arith, nat_tests, same) in
    ap (λ b. row_at key (if b then unwrap_or (made_by p.writes.items key) row else row) pairs m) here
    ∙ ap (λ o. row_at key (unwrap_or o row) pairs m) (sym (first_wrote p pairs key m h.1 same) ∙ is)
    ∙ passed key p.seqno pairs m v h.1 (omega (arith, same)))
    (λ other. wrote key p.seqno pairs m (if nat_le p.seqno m then unwrap_or (made_by p.writes.items key) row else row) v h.1 (sym (others_wrote p pairs key m other) ∙ is))

-- above the oldest snapshot what is left is what was written
kept_above : (oldest n : ℕ) (o : Option Version) → oldest < n → (if nat_le n oldest then None else o) ≡ o
kept_above oldest n o lt = let above : nat_le n oldest ≡ false = grind (arith, nat_tests, lt) in ap (λ b. if b then None else o) above

stands_above : (oldest m : ℕ) (o : Option Version) (v : Version) (b : Bool) → nat_le m oldest ≡ b → (if b then None else o) ≡ Some v → oldest < m
stands_above oldest m o v true is h = absurd (cc h)
stands_above oldest m o v false is h = grind (arith, nat_tests, is)

newest_row : (content : Key → Option (List ℕ)) (start oldest s : ℕ) (pairs : List Pair) (key : Key) (m : ℕ) (v : Version) → Ascends start pairs
    → IsNewestWrite (left oldest pairs key) s m v → rows_at content pairs s key ≡ v
newest_row content start oldest s pairs key m v h newest =
    let above : oldest < m = stands_above oldest m (written pairs key m) v _ refl newest.stands in
    by_row key content pairs s
    ∙ flat key start pairs m s (content key) h newest.within (λ n lt le. sym (kept_above oldest n (written pairs key n) (omega (arith, above, lt))) ∙ newest.none_above n lt le)
    ∙ wrote key start pairs m (content key) v h (sym (kept_above oldest m (written pairs key m) above) ∙ newest.stands)

fold_row : (content : Key → Option (List ℕ)) (start oldest s : ℕ) (pairs : List Pair) (key : Key) (peek : Peek) → Ascends start pairs → oldest ≤ s
    → IsFound (left oldest pairs key) s peek → rows_at content pairs s key ≡ row_over (rows_at content pairs oldest key) peek
fold_row content start oldest s pairs key (Value v) h le found = newest_row content start oldest s pairs key found.0 (Some v) h found.1
fold_row content start oldest s pairs key Absent h le found = newest_row content start oldest s pairs key found.0 None h found.1
fold_row content start oldest s pairs key Cold h le found =
    by_row key content pairs s
    ∙ flat key start pairs oldest s (content key) h le (λ n lt within. sym (kept_above oldest n (written pairs key n) lt) ∙ found n within)
    ∙ sym (by_row key content pairs oldest)

front_row : (content : Key → Option (List ℕ)) (start s : ℕ) (pairs more : List Pair) → Ascends start (pairs ++ more) → s ≤ front_of start pairs
    → rows_at content (pairs ++ more) s ≡ rows_at content pairs s
front_row content start s [] more h le = rows_passed start more s content h le
front_row content start s (p ∷ pairs) more h le = front_row (if nat_le p.seqno s then content_after content p.writes.items else content) p.seqno s pairs more h.1 le

pub follow : PeeksFollowTheFold
follow = record { row = fold_row; front = front_row }
