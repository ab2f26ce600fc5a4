-- What is digested tells each row.
use Rattle.std.proofs.Common.{◌≡◌, ◌⊎◌, inl, inr, ℕ, zero, suc, ◌+◌, ◌<◌, ◌≤◌, ◌^◌, List, [], ◌∷◌, ◌++◌, length, Option, Some, None, refl, sym, ap, subst, ◌∙◌, append_assoc, arith}
use Rattle.std.specs.Prelude.{slice_index}
use Rattle.std.specs.Int.{bytes_high_first}
use Rattle.std.specs.List.{AllByRecursion}
use Rattle.std.proofs.lemmas.List.Concat.{flat_map-cons}
use Rattle.byteorder.specs.Endian.{big_number}
use Rattle.byteorder.specs.Numbers.{big_number-reads_back, length-bytes_high_first}
use Rattle.rep_types.specs.declared.key.Key.{Key}
use Rattle.rep_types.specs.Settings.{IsRow}
use Rattle.rep_types.specs.Order.{State}
use Rattle.rep_sum.specs.Telling.{SumsTellStates}
use Rattle.rep_types.specs.Sums.{keys_from, keys_of_tables, keys_of, row_sum_bytes, rows_sum_bytes}
use Rattle.rep_types.proofs.Lists.{same_parts, same_first}

-- ---- bytes one behind another

-- a number in front
same_number : (n a b : ℕ) (x y : List ℕ) → a < 256 ^ n → b < 256 ^ n → bytes_high_first n a ++ x ≡ bytes_high_first n b ++ y → (a ≡ b) × (x ≡ y)
same_number n a b x y m k e =
    let parts = same_parts n (bytes_high_first n a) (bytes_high_first n b) x y (length-bytes_high_first n a) (length-bytes_high_first n b) e in
    (sym (big_number-reads_back n a x m) ∙ ap (big_number n) e ∙ big_number-reads_back n b y k, parts.1)

-- a value behind its length
same_value : (v w x y : List ℕ) → (length v ∷ v) ++ x ≡ (length w ∷ w) ++ y → (v ≡ w) × (x ≡ y)
same_value v w x y e =
    let heads = same_first (length v) (length w) (v ++ x) (w ++ y) e in
    same_parts (length w) v w x y heads.0 refl heads.1

-- ---- rows that ascend

abbrev at : ℕ → ℕ → Key
at table row = record { table = table; row = row }

abbrev IsAbove : Key → Key → Type 0
IsAbove a b = (a.table < b.table) ⊎ ((a.table ≡ b.table) × (a.row < b.row))

abbrev AreAbove : Key → List Key → Type 0
AreAbove a keys = AllByRecursion (IsAbove a) keys

-- Each is above the one before, and its number in its table is one of 4 bytes.
abbrev Ascend : List Key → Type 0
Ascend [] = Unit {0}
Ascend (key ∷ keys) = (key.row < 256 ^ 4) × AreAbove key keys × Ascend keys

both_above : (a : Key) (ks ls : List Key) → AreAbove a ks → AreAbove a ls → AreAbove a (ks ++ ls)
both_above a [] ls h k = k
both_above a (key ∷ ks) ls h k = (h.0, both_above a ks ls h.1 k)

rows_above : (a : Key) (table row n : ℕ) → ((r : ℕ) → row ≤ r → IsAbove a (at table r)) → AreAbove a (keys_from table row n)
rows_above a table row zero h = tt
rows_above a table row (suc n) h = (h row (omega arith), rows_above a table (suc row) n (λ r le. h r (omega (arith, le))))

tables_above : (a : Key) (table : ℕ) (sizes : List ℕ) → a.table < table → AreAbove a (keys_of_tables table sizes)
tables_above a table [] less = tt
tables_above a table (n ∷ sizes) less = both_above a (keys_from table 0 n) (keys_of_tables (suc table) sizes) (rows_above a table 0 n (λ r le. inl less)) (tables_above a (suc table) sizes (omega (arith, less)))

-- the rows of a table, with others behind that are above them
rows_ascend : (table row n : ℕ) (ls : List Key) → row + n ≤ 256 ^ 4 → ((r : ℕ) → AreAbove (at table r) ls) → Ascend ls → Ascend (keys_from table row n ++ ls)
rows_ascend table row zero ls fits above rest = rest
rows_ascend table row (suc n) ls fits above rest = (
  omega (arith, fits),
  both_above (at table row) (keys_from table (suc row) n) ls (rows_above (at table row) table (suc row) n (λ r le. inr (refl, omega (arith, le)))) (above row),
  rows_ascend table (suc row) n ls (omega (arith, fits)) above rest,
)

tables_ascend : (table : ℕ) (sizes : List ℕ) → AllByRecursion (λ (n : ℕ). n ≤ 256 ^ 4) sizes → Ascend (keys_of_tables table sizes)
tables_ascend table [] fits = tt
tables_ascend table (n ∷ sizes) fits =
    let few = fits.0 in
    rows_ascend table 0 n (keys_of_tables (suc table) sizes) (omega (arith, few)) (λ r. tables_above (at table r) (suc table) sizes (omega arith)) (tables_ascend (suc table) sizes fits.1)

-- ---- what rows come to

-- the row of these bytes
abbrev bytes_at : Key → List ℕ → List ℕ
bytes_at key bytes = key.table ∷ (bytes_high_first 4 key.row ++ (length bytes ∷ bytes))

more : (S : State) (key : Key) (keys : List Key) → rows_sum_bytes S (key ∷ keys) ≡ row_sum_bytes key (S.content key) ++ rows_sum_bytes S keys
more S key keys = flat_map-cons (λ (k : Key). row_sum_bytes k (S.content k)) key keys

-- the first row there is none of a key below
parts_of : (a b : Key) (v w x y : List ℕ) → a.row < 256 ^ 4 → b.row < 256 ^ 4 → bytes_at a v ++ x ≡ bytes_at b w ++ y → (a.table ≡ b.table) × (a.row ≡ b.row) × (v ≡ w) × (x ≡ y)
parts_of a b v w x y m k e =
    let tables = same_first a.table b.table ((bytes_high_first 4 a.row ++ (length v ∷ v)) ++ x) ((bytes_high_first 4 b.row ++ (length w ∷ w)) ++ y) e in
    let regrouped = sym (append_assoc (bytes_high_first 4 a.row) (length v ∷ v) x) ∙ tables.1 ∙ append_assoc (bytes_high_first 4 b.row) (length w ∷ w) y in
    let rows = same_number 4 a.row b.row ((length v ∷ v) ++ x) ((length w ∷ w) ++ y) m k regrouped in
    let values = same_value v w x y rows.1 in
    (tables.0, rows.0, values.0, values.1)

not_above : {A : Type 0} (a b : Key) → a.table ≡ b.table → a.row ≡ b.row → IsAbove a b → A
not_above a b t r (inl less) = absurd (omega (arith, t, less))
not_above a b t r (inr (same, less)) = absurd (omega (arith, r, less))

none_below : (S : State) (a : Key) (v x : List ℕ) (keys : List Key) → a.row < 256 ^ 4 → Ascend keys → AreAbove a keys → (bytes_at a v ++ x ≡ rows_sum_bytes S keys) → ⊥
none_below S a v x [] fits ascend above e = absurd cc
none_below S a v x (key ∷ keys) fits ascend above e = by (S.content key) refl (none_below S a v x keys fits ascend.2 above.1)
  where
    by : (row : Option (List ℕ)) → S.content key ≡ row → (bytes_at a v ++ x ≡ rows_sum_bytes S keys → ⊥) → ⊥
    by None none later = later (e ∙ more S key keys ∙ ap (λ r. row_sum_bytes key r ++ rows_sum_bytes S keys) none)
    by (Some w) some later =
        let parts = parts_of a key v w x (rows_sum_bytes S keys) fits ascend.0 (e ∙ more S key keys ∙ ap (λ r. row_sum_bytes key r ++ rows_sum_bytes S keys) some) in
        not_above a key parts.0 parts.1 above.0

-- the rows are the same
abbrev AreAlike : State → State → List Key → Type 0
AreAlike S T keys = AllByRecursion (λ (key : Key). S.content key ≡ T.content key) keys

-- a row in front of others
abbrev fronted : State → Key → List Key → Option (List ℕ) → List ℕ
fronted U key keys row = row_sum_bytes key row ++ rows_sum_bytes U keys

rows_told : (S T : State) (keys : List Key) → Ascend keys → rows_sum_bytes S keys ≡ rows_sum_bytes T keys → AreAlike S T keys
rows_told S T [] ascend e = tt
rows_told S T (key ∷ keys) ascend e =
    by (S.content key) (T.content key) refl refl (sym (more S key keys) ∙ e ∙ more T key keys) (rows_told S T keys ascend.2)
  where
    by : (row other : Option (List ℕ)) → S.content key ≡ row → T.content key ≡ other → fronted S key keys (S.content key) ≡ fronted T key keys (T.content key)
        → (rows_sum_bytes S keys ≡ rows_sum_bytes T keys → AreAlike S T keys) → AreAlike S T (key ∷ keys)
    by None None m k both later = (m ∙ sym k, later (ap (fronted S key keys) (sym m) ∙ both ∙ ap (fronted T key keys) k))
    by (Some v) (Some w) m k both later =
        let parts = parts_of key key v w (rows_sum_bytes S keys) (rows_sum_bytes T keys) ascend.0 ascend.0 (ap (fronted S key keys) (sym m) ∙ both ∙ ap (fronted T key keys) k) in
        (m ∙ ap Some parts.2 ∙ sym k, later parts.3)
    by (Some v) None m k both later = absurd (none_below T key v (rows_sum_bytes S keys) keys ascend.0 ascend.2 ascend.1 (ap (fronted S key keys) (sym m) ∙ both ∙ ap (fronted T key keys) k))
    by None (Some w) m k both later = absurd (none_below S key w (rows_sum_bytes T keys) keys ascend.0 ascend.2 ascend.1 (sym (ap (fronted S key keys) (sym m) ∙ both ∙ ap (fronted T key keys) k)))

-- ---- what holds of the keys of a schema holds of each of its rows

rows_hold : (P : Key → Type 0) (table row n : ℕ) (ls : List Key) → AllByRecursion P (keys_from table row n ++ ls) → ((k : ℕ) → k < n → P (at table (row + k))) × AllByRecursion P ls
rows_hold P table row zero ls h = (λ k less. absurd (omega (arith, less)), h)
rows_hold P table row (suc n) ls h =
    let rest = rows_hold P table (suc row) n ls h.1 in
    (by rest.0, rest.1)
  where
    by : ((k : ℕ) → k < n → P (at table (suc row + k))) → (k : ℕ) → k < suc n → P (at table (row + k))
    by later zero less =
        let same : row ≡ row + 0 = omega arith in
        subst (λ (r : ℕ). P (at table r)) same h.0
    by later (suc k) less =
        let same : suc row + k ≡ row + suc k = omega arith in
        subst (λ (r : ℕ). P (at table r)) same (later k (omega (arith, less)))

tables_hold : (P : Key → Type 0) (table : ℕ) (sizes : List ℕ) → AllByRecursion P (keys_of_tables table sizes) → (i row : ℕ) → row < slice_index sizes i → P (at (table + i) row)
tables_hold P table [] h i row less = absurd (omega (arith, less))
tables_hold P table (n ∷ sizes) h zero row less =
    let table_same : table ≡ table + 0 = omega arith in
    let row_same : 0 + row ≡ row = omega arith in
    subst (λ (t : ℕ). P (at t row)) table_same (subst (λ (r : ℕ). P (at table r)) row_same ((rows_hold P table 0 n (keys_of_tables (suc table) sizes) h).0 row (omega (arith, less))))
tables_hold P table (n ∷ sizes) h (suc i) row less =
    let same : suc table + i ≡ table + suc i = omega arith in
    subst (λ (t : ℕ). P (at t row)) same (tables_hold P (suc table) sizes (rows_hold P table 0 n (keys_of_tables (suc table) sizes) h).1 i row less)

schema_holds : (P : Key → Type 0) (schema : List ℕ) → AllByRecursion P (keys_of schema) → (key : Key) → IsRow schema key → P key
schema_holds P schema h key is =
    let same : 0 + key.table ≡ key.table = omega arith in
    subst (λ (t : ℕ). P (at t key.row)) same (tables_hold P 0 schema h key.table key.row is)

-- ---- the whole

pub sums_tell : SumsTellStates
sums_tell schema uuid other S T few size same_size S_fits T_fits e =
    let fronts = same_parts 16 uuid other _ _ size same_size e in
    let numbers = same_number 8 S.position T.position (rows_sum_bytes S (keys_of schema)) (rows_sum_bytes T (keys_of schema)) S_fits T_fits fronts.1 in
    record {
      cluster = fronts.0;
      position = numbers.0;
      rows = λ key is. schema_holds (λ (k : Key). S.content k ≡ T.content k) schema (rows_told S T (keys_of schema) (tables_ascend 0 schema few) numbers.1) key is;
    }
