-- Where the rows of tables lie, table behind table: each has a place of its own.
use Rattle.std.proofs.Common.{◌≡◌, ◌≢◌, ℕ, suc, zero, ◌+◌, ◌<◌, ◌≤◌, max, Bool, true, false, ◌==◌, ◌||◌, if◌then◌else◌, List, [], ◌∷◌, ◌++◌, length, map, get_or, set, All, refl, sym, ap, subst, ◌∙◌, ⊎_elim, arith}
use Rattle.std.specs.List.{list_any, list_all, sum_by}
use Rattle.std.specs.Cmp.{both_ways as either_way}
use Rattle.std.proofs.lemmas.Bool.{cases_lt, ltb-true, lt-ltb, false_from_ne_true, both_ways, eqb-true, eq-eqb}
use Rattle.std.proofs.lemmas.Bool.Decides.{nat_tests}
use Rattle.std.proofs.Math.ListN.{length-set}
use Rattle.std.proofs.lemmas.List.{get_or_past, get_or-set_same, get_or-set_other, set-set, set-get_or}
use Rattle.std.proofs.lemmas.List.Folds.{list_any-append}
use Rattle.std.proofs.lemmas.List.Sums.{sum_by-cons}
use Rattle.std.proofs.lemmas.List.Elements.{All-cons, All-nil}
use Rattle.rep_types.specs.declared.key.Key.{Key}
use Rattle.rep_types.specs.Keys.{key_eq}
use Rattle.rep_types.specs.Entries.{Entry}
use Rattle.rep_types.specs.Settings.{has_row, IsRow}
use Rattle.rep_types.proofs.Touches.{key_eq-true, key_eq_refl}
use Rattle.rep_types.specs.declared.value.Write.{Write}
use Rattle.rep_types.specs.Transactions.{key_of}
use Rattle.rep_cert.proofs.LastWriters.{last_writer_push, key_at}
use Rattle.arrayvec.specs.ArrayVec.{ArrayVec}
use Rattle.rep_cert.specs.declared.writers.Former.{Former}
use Rattle.rep_cert.specs.declared.writers.LastWriters.{LastWriters}
use Rattle.rep_cert.specs.Writers.{IsLaidOut, HasPlace, place, is_placed, writer, last_writer, restored, starts_from}

-- how many rows all tables have
abbrev pub total : List ℕ → ℕ
total rows = sum_by (λ (count : ℕ). count) rows

-- there are as many starts as tables
pub length-starts_from : (start : ℕ) (rows : List ℕ) → length (starts_from start rows) ≡ length rows
length-starts_from start [] = refl
length-starts_from start (n ∷ rows) = omega (arith, length-starts_from (start + n) rows)

-- one more table
pub starts_from_push : (start : ℕ) (rows : List ℕ) (n : ℕ) → starts_from start (rows ++ n ∷ []) ≡ starts_from start rows ++ (start + total rows) ∷ []
starts_from_push start [] n = ap (λ (k : ℕ). k ∷ []) (omega arith)
starts_from_push start (m ∷ rows) n =
    let same : start + m + total rows ≡ start + total (m ∷ rows) = omega (arith, sum_by-cons (λ (count : ℕ). count) m rows) in
    ap (λ (ns : List ℕ). start ∷ ns) (starts_from_push (start + m) rows n ∙ ap (λ (k : ℕ). starts_from (start + m) rows ++ k ∷ []) same)

-- no table begins before the first
starts_above : (start : ℕ) (rows : List ℕ) (u : ℕ) → u < length rows → start ≤ get_or (starts_from start rows) u 0
starts_above start [] u h = absurd (omega arith)
starts_above start (n ∷ rows) zero h = omega arith
starts_above start (n ∷ rows) (suc u) h = omega (arith, starts_above (start + n) rows u (omega arith))

-- a table begins behind the rows of each one before it
starts_apart : (start : ℕ) (rows : List ℕ) (t u : ℕ) → t < u → u < length rows → get_or (starts_from start rows) t 0 + get_or rows t 0 ≤ get_or (starts_from start rows) u 0
starts_apart start [] t u before h = absurd (omega arith)
starts_apart start (n ∷ rows) t zero before h = absurd (omega arith)
starts_apart start (n ∷ rows) zero (suc u) before h = starts_above (start + n) rows u (omega arith)
starts_apart start (n ∷ rows) (suc t) (suc u) before h = starts_apart (start + n) rows t u (omega arith) (omega arith)

-- all rows lie before the end of all tables
starts_within : (start : ℕ) (rows : List ℕ) (t : ℕ) → t < length rows → get_or (starts_from start rows) t 0 + get_or rows t 0 ≤ start + total rows
starts_within start [] t h = absurd (omega arith)
starts_within start (n ∷ rows) zero h = omega (arith, sum_by-cons (λ (count : ℕ). count) n rows)
starts_within start (n ∷ rows) (suc t) h = omega (arith, starts_within (start + n) rows t (omega arith), sum_by-cons (λ (count : ℕ). count) n rows)

-- a row's table is there
table_inside : (rows : List ℕ) (key : Key) → IsRow rows key → key.table < length rows
table_inside rows key row = ⊎_elim (λ h. h) (λ past. absurd (omega (arith, get_or_past rows key.table 0 past))) (cases_lt key.table (length rows))

-- each row has a place
pub HasPlace-row : (rows starts seqnos : List ℕ) (key : Key) → IsLaidOut rows starts seqnos → IsRow rows key → HasPlace starts seqnos key
HasPlace-row rows starts seqnos key laid row =
    let inside : key.table < length rows = table_inside rows key row in
    rw (laid.tables)
    (record {
      table = omega (arith, length-starts_from 0 rows);
      row = omega (arith, starts_within 0 rows key.table inside, laid.size);
    })

-- two rows with one place are one row
pub place_apart : (rows starts seqnos : List ℕ) (a b : Key) → IsLaidOut rows starts seqnos → IsRow rows a → IsRow rows b → place starts a ≡ place starts b → a ≡ b
place_apart rows starts seqnos a b laid row_a row_b same =
    let in_a : a.table < length rows = table_inside rows a row_a in
    let in_b : b.table < length rows = table_inside rows b row_b in
    let both : place (starts_from 0 rows) a ≡ place (starts_from 0 rows) b = rw laid.tables at same in
    let table : a.table ≡ b.table =
    ⊎_elim (λ less. absurd (omega (arith, starts_apart 0 rows a.table b.table less in_b)))
    (λ le. ⊎_elim (λ more. absurd (omega (arith, starts_apart 0 rows b.table a.table more in_a))) (λ ge. omega arith) (cases_lt b.table a.table)) (cases_lt a.table b.table) in
    let start : get_or (starts_from 0 rows) a.table 0 ≡ get_or (starts_from 0 rows) b.table 0 = ap (λ (t : ℕ). get_or (starts_from 0 rows) t 0) table in
    let row : a.row ≡ b.row = omega arith in
    key_eq-true a b (grind (arith, nat_tests))

-- places of rows are equal where the rows are
place_eq : (rows starts seqnos : List ℕ) (a b : Key) → IsLaidOut rows starts seqnos → IsRow rows a → IsRow rows b → (place starts a == place starts b) ≡ key_eq a b
place_eq rows starts seqnos a b laid row_a row_b =
    either_way (place starts a == place starts b) (key_eq a b)
    (λ same. subst (λ (k : Key). key_eq a k ≡ true) (place_apart rows starts seqnos a b laid row_a row_b (eqb-true (place starts a) (place starts b) same)) (key_eq_refl a))
    (λ same. eq-eqb (place starts a) (place starts b) (ap (place starts) (key_eq-true a b same)))

-- keys of rows all have places
pub HasPlace-all : (rows starts seqnos : List ℕ) (keys : List Key) → IsLaidOut rows starts seqnos → list_all (has_row rows) keys ≡ true → All (HasPlace starts seqnos) keys
HasPlace-all rows starts seqnos [] laid are_rows = All-nil (HasPlace starts seqnos)
HasPlace-all rows starts seqnos (key ∷ keys) laid are_rows =
    let first : has_row rows key ≡ true = grind arith in
    let rest : list_all (has_row rows) keys ≡ true = grind arith in
    All-cons (HasPlace starts seqnos) key keys (HasPlace-row rows starts seqnos key laid (ltb-true _ _ first)) (HasPlace-all rows starts seqnos keys laid rest)

-- whether one of these rows is at the place of a row is whether it is that row
pub is_placed_row : (rows starts seqnos : List ℕ) (keys : List Key) (key : Key) → IsLaidOut rows starts seqnos → IsRow rows key → list_all (has_row rows) keys ≡ true →
    is_placed starts keys (place starts key) ≡ list_any (λ (k : Key). key_eq k key) keys
is_placed_row rows starts seqnos [] key laid row are_rows = refl
is_placed_row rows starts seqnos (k ∷ keys) key laid row are_rows =
    let first : has_row rows k ≡ true = grind arith in
    let rest : list_all (has_row rows) keys ≡ true = grind arith in
    let same : (place starts k == place starts key) ≡ key_eq k key = place_eq rows starts seqnos k key laid (ltb-true _ _ first) row in
    let others : is_placed starts keys (place starts key) ≡ list_any (λ (j : Key). key_eq j key) keys = is_placed_row rows starts seqnos keys key laid row rest in
    grind arith

-- the numbers where one row's was raised
pub writer_raised : (rows starts seqnos : List ℕ) (k key : Key) (n at raised : ℕ) → IsLaidOut rows starts seqnos → IsRow rows k → IsRow rows key → at ≡ place starts k →
    raised ≡ max n (get_or seqnos at 0) → writer starts (set seqnos at raised) key ≡ max (writer starts seqnos key) (if key_eq k key then n else 0)
writer_raised rows starts seqnos k key n at raised laid row_k row at_is is = by_test (key_eq k key) refl
  where
    by_test : (b : Bool) → key_eq k key ≡ b → writer starts (set seqnos at raised) key ≡ max (writer starts seqnos key) (if key_eq k key then n else 0)
    by_test true same =
        let equal : k ≡ key = key_eq-true k key same in
        let here : place starts key ≡ at = ap (place starts) (sym equal) ∙ sym at_is in
        let inside : at < length seqnos = omega (arith, (HasPlace-row rows starts seqnos k laid row_k).row) in
        rw (same, here, get_or-set_same seqnos at raised 0 inside) (omega arith)
    by_test false other =
        let apart : place starts key ≢ at = λ at_it. both_ways (key_eq k key) other (sym (place_eq rows starts seqnos k key laid row_k row) ∙ eq-eqb (place starts k) (place starts key) (sym at_is ∙ sym at_it)) in
        rw (other, get_or-set_other seqnos at (place starts key) raised 0 apart) (omega arith)

-- a key that is no row is none of the rows
pub no_row : (rows : List ℕ) (k key : Key) → has_row rows k ≡ false → IsRow rows key → key_eq k key ≡ false
no_row rows k key none row =
    false_from_ne_true (key_eq k key) (λ same. both_ways (has_row rows k) none (lt-ltb _ _ (subst (IsRow rows) (sym (key_eq-true k key same)) row)))

-- the numbers with one more row written
pub noted_more : (starts new old : List ℕ) (keys : List Key) (key : Key) (seqno at : ℕ) → at ≡ place starts key → at < length new →
    ((i : ℕ) → i < length old → get_or new i 0 ≡ (if is_placed starts keys i then seqno else get_or old i 0)) →
    (i : ℕ) → i < length old → get_or (set new at seqno) i 0 ≡ (if is_placed starts (keys ++ key ∷ []) i then seqno else get_or old i 0)
noted_more starts new old keys key seqno at at_is inside noted i within = by_test (place starts key == i) refl
  where
    more : is_placed starts (keys ++ key ∷ []) i ≡ (is_placed starts keys i || ((place starts key == i) || false))
    more = list_any-append (λ (k : Key). place starts k == i) keys (key ∷ [])

    by_test : (b : Bool) → (place starts key == i) ≡ b → get_or (set new at seqno) i 0 ≡ (if is_placed starts (keys ++ key ∷ []) i then seqno else get_or old i 0)
    by_test true same =
        let here : i ≡ at = sym (eqb-true (place starts key) i same) ∙ sym at_is in
        rw (more, same, here, get_or-set_same new at seqno 0 inside) (grind arith)
    by_test false other =
        let apart : i ≢ at = λ at_it. both_ways (place starts key == i) other (eq-eqb (place starts key) i (sym at_is ∙ sym at_it)) in
        rw (more, other, get_or-set_other new at i seqno 0 apart) (grind (arith, noted i within))

-- what one more row had before is given back
pub restored_more : (former : List Former) (seqnos : List ℕ) (at n : ℕ) →
    restored (former ++ (record { place = at; seqno = get_or seqnos at 0 }) ∷ []) (set seqnos at n) ≡ restored former seqnos
restored_more [] seqnos at n = set-set seqnos at n (get_or seqnos at 0) ∙ set-get_or seqnos at 0
restored_more (f ∷ former) seqnos at n = ap (λ (ns : List ℕ). set ns f.place f.seqno) (restored_more former seqnos at n)

-- the last of the former numbers is given back first
pub restored_push : (former : List Former) (f : Former) (seqnos : List ℕ) → restored (former ++ f ∷ []) seqnos ≡ restored former (set seqnos f.place f.seqno)
restored_push [] f seqnos = refl
restored_push (g ∷ former) f seqnos = ap (λ (ns : List ℕ). set ns g.place g.seqno) (restored_push former f seqnos)

-- there are as many numbers after that
pub length-restored : (former : List Former) (seqnos : List ℕ) → length (restored former seqnos) ≡ length seqnos
length-restored [] seqnos = refl
length-restored (f ∷ former) seqnos = simp length-set (length-restored former seqnos)

-- one step of a loop over the keys of an entry: a key that is a row
pub raised_in : (rows starts seqnos old : List ℕ) (k : Key) (keys : List Key) (n at raised : ℕ) → IsLaidOut rows starts seqnos → has_row rows k ≡ true →
    at ≡ place starts k → raised ≡ max n (get_or seqnos at 0) →
    ((key : Key) → IsRow rows key → writer starts seqnos key ≡ max (writer starts old key) (last_writer key ((record { seqno = n; keys = keys }) ∷ []))) →
    (key : Key) → IsRow rows key → writer starts (set seqnos at raised) key ≡ max (writer starts old key) (last_writer key ((record { seqno = n; keys = keys ++ k ∷ [] }) ∷ []))
raised_in rows starts seqnos old k keys n at raised laid has at_is is so_far key row =
    let here : IsRow rows k = ltb-true _ _ has in
    omega (arith, writer_raised rows starts seqnos k key n at raised laid here row at_is is, last_writer_push key k n keys, so_far key row)

-- a key that is no row
pub raised_out : (rows starts seqnos old : List ℕ) (k : Key) (keys : List Key) (n : ℕ) → has_row rows k ≡ false →
    ((key : Key) → IsRow rows key → writer starts seqnos key ≡ max (writer starts old key) (last_writer key ((record { seqno = n; keys = keys }) ∷ []))) →
    (key : Key) → IsRow rows key → writer starts seqnos key ≡ max (writer starts old key) (last_writer key ((record { seqno = n; keys = keys ++ k ∷ [] }) ∷ []))
raised_out rows starts seqnos old k keys n none so_far key row =
    let other : key_eq k key ≡ false = no_row rows k key none row in
    let same : (if key_eq k key then n else 0) ≡ 0 = rw other refl in
    omega (arith, last_writer_push key k n keys, so_far key row)

-- the row of each write has a place, also where numbers were changed
pub HasPlace-write : (old self : LastWriters) (writes read : List Write) (i : ℕ) (write : Write) → self.starts ≡ old.starts → length self.seqnos.items ≡ length old.seqnos.items →
    read ≡ writes → All (HasPlace old.starts.items old.seqnos.items) (map key_of writes) → i < length read → write ≡ get_or read i write →
    HasPlace self.starts.items self.seqnos.items write.key
HasPlace-write old self writes read i write same size is places inside read_is =
    let all : All (HasPlace old.starts.items old.seqnos.items) (map key_of read) =
    subst (λ (ws : List Write). All (HasPlace old.starts.items old.seqnos.items) (map key_of ws)) (sym is) places in
    let has : HasPlace old.starts.items old.seqnos.items write.key = key_at (HasPlace old.starts.items old.seqnos.items) read i write all inside read_is in
    rw same (record { table = has.table; row = omega (arith, has.row) })

-- the numbers stay laid out where they are as many
pub IsLaidOut-same : (rows starts seqnos now_starts now_seqnos : List ℕ) → now_starts ≡ starts → length now_seqnos ≡ length seqnos → IsLaidOut rows starts seqnos →
    IsLaidOut rows now_starts now_seqnos
IsLaidOut-same rows starts seqnos now_starts now_seqnos same size laid = record { tables = same ∙ laid.tables; size = size ∙ laid.size }

-- what was read inside a list is what stands there
pub read_at : (xs : List ℕ) (i n : ℕ) → i < length xs → n ≡ get_or xs i n → n ≡ get_or xs i 0
read_at [] i n inside is = absurd (omega arith)
read_at (x ∷ xs) zero n inside is = is
read_at (x ∷ xs) (suc i) n inside is = read_at xs i n (omega arith) is

-- a key that is a row has a place, also where numbers were changed
pub HasPlace-key : (rows : List ℕ) (old self : LastWriters) (key : Key) → IsLaidOut rows old.starts.items old.seqnos.items → self.starts ≡ old.starts →
    length self.seqnos.items ≡ length old.seqnos.items → has_row rows key ≡ true → HasPlace self.starts.items self.seqnos.items key
HasPlace-key rows old self key laid same size has =
    HasPlace-row rows self.starts.items self.seqnos.items key
    (IsLaidOut-same rows old.starts.items old.seqnos.items self.starts.items self.seqnos.items (ap (λ (v : ArrayVec ℕ). v.items) same) size laid) (ltb-true _ _ has)

-- These last writers are those others after committed items in any order: each row of the schema has the latest of them.
pub record Raised (rows : List ℕ) (old self : LastWriters) (entries : List Entry) : Type 0 where
  pub starts : self.starts ≡ old.starts
  pub former : self.former ≡ old.former
  pub size : length self.seqnos.items ≡ length old.seqnos.items
  pub raised : (key : Key) → IsRow rows key → writer self.starts.items self.seqnos.items key ≡ max (writer old.starts.items old.seqnos.items key) (last_writer key entries)
