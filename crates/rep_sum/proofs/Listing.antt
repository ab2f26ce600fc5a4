-- The keys of a schema in their order, and where a run of them ends.
use Rattle.std.proofs.Common.{◌≡◌, ℕ, zero, suc, ◌+◌, ◌-◌, ◌<◌, ◌≤◌, true, List, [], ◌∷◌, ◌++◌, length, take, drop, refl, sym, ap, subst, ◌∙◌, append_assoc, append-nil, arith}
use Rattle.std.specs.Prelude.{slice_index}
use Rattle.std.specs.List.{AllByRecursion}
use Rattle.std.proofs.lemmas.Bool.{lt-ltb}
use Rattle.rep_types.specs.declared.key.Key.{Key}
use Rattle.rep_types.specs.Settings.{has_row}
use Rattle.rep_types.specs.Sums.{keys_from, keys_of_tables, keys_of}

abbrev at : ℕ → ℕ → Key
at table row = record { table = table; row = row }

-- ---- the rows of a table

-- some of them, and those behind
pub rows_split : (table row n m : ℕ) → keys_from table row (n + m) ≡ keys_from table row n ++ keys_from table (row + n) m
rows_split table row zero m =
    let none : 0 + m ≡ m = omega arith in
    let still : row + 0 ≡ row = omega arith in
    rw (none, still) refl
rows_split table row (suc n) m =
    let more : suc n + m ≡ suc (n + m) = omega arith in
    let behind : suc row + n ≡ row + suc n = omega arith in
    ap (keys_from table row) more ∙ ap (λ keys. at table row ∷ keys) (rows_split table (suc row) n m ∙ ap (λ r. keys_from table (suc row) n ++ keys_from table r m) behind)

-- one more
pub rows_more : (table n : ℕ) → keys_from table 0 (n + 1) ≡ keys_from table 0 n ++ at table n ∷ []
rows_more table n =
    let first : 0 + n ≡ n = omega arith in
    rows_split table 0 n 1 ∙ ap (λ row. keys_from table 0 n ++ at table row ∷ []) first

-- those so far, the next one, and those behind
pub rows_next : (table n count : ℕ) → n < count → keys_from table 0 count ≡ keys_from table 0 n ++ at table n ∷ keys_from table (n + 1) (count - (n + 1))
rows_next table n count less =
    let k = count - (n + 1) in
    let all : count ≡ n + suc k = omega (arith, less) in
    let first : 0 + n ≡ n = omega arith in
    let next : suc n ≡ n + 1 = omega arith in
    ap (keys_from table 0) all ∙ rows_split table 0 n (suc k) ∙ ap (λ row. keys_from table 0 n ++ at table row ∷ keys_from table (suc row) k) first
    ∙ ap (λ row. keys_from table 0 n ++ at table n ∷ keys_from table row k) next

-- ---- the rows of all tables

-- those of some tables, and those behind
tables_split : (table i : ℕ) (sizes : List ℕ) → keys_of_tables table sizes ≡ keys_of_tables table (take i sizes) ++ keys_of_tables (table + i) (drop i sizes)
tables_split table zero sizes =
    let still : table ≡ table + 0 = omega arith in
    ap (λ t. keys_of_tables t sizes) still
tables_split table (suc i) [] = refl
tables_split table (suc i) (n ∷ sizes) =
    let behind : suc table + i ≡ table + suc i = omega arith in
    ap (λ keys. keys_from table 0 n ++ keys) (tables_split (suc table) i sizes ∙ ap (λ t. keys_of_tables (suc table) (take i sizes) ++ keys_of_tables t (drop i sizes)) behind)
    ∙ sym (append_assoc (keys_from table 0 n) (keys_of_tables (suc table) (take i sizes)) (keys_of_tables (table + suc i) (drop i sizes)))

-- those of one table more
tables_more_from : (table i : ℕ) (sizes : List ℕ) → i < length sizes → keys_of_tables table (take (suc i) sizes) ≡ keys_of_tables table (take i sizes) ++ keys_from (table + i) 0 (slice_index sizes i)
tables_more_from table i [] less = absurd (omega (arith, less))
tables_more_from table zero (n ∷ sizes) less =
    let still : table + 0 ≡ table = omega arith in
    rw still (append-nil (keys_from table 0 n))
tables_more_from table (suc i) (n ∷ sizes) less =
    let behind : suc table + i ≡ table + suc i = omega arith in
    ap (λ keys. keys_from table 0 n ++ keys) (tables_more_from (suc table) i sizes (omega (arith, less)) ∙ ap (λ t. keys_of_tables (suc table) (take i sizes) ++ keys_from t 0 (slice_index sizes i)) behind)
    ∙ sym (append_assoc (keys_from table 0 n) (keys_of_tables (suc table) (take i sizes)) (keys_from (table + suc i) 0 (slice_index sizes i)))

pub tables_more : (i : ℕ) (sizes : List ℕ) → i < length sizes → keys_of (take (i + 1) sizes) ≡ keys_of (take i sizes) ++ keys_from i 0 (slice_index sizes i)
tables_more i sizes less =
    let more : i + 1 ≡ suc i = omega arith in
    let first : 0 + i ≡ i = omega arith in
    ap (λ k. keys_of (take k sizes)) more ∙ tables_more_from 0 i sizes less ∙ ap (λ t. keys_of (take i sizes) ++ keys_from t 0 (slice_index sizes i)) first

-- those so far, those of the next table, and those behind
pub tables_next : (i : ℕ) (sizes : List ℕ) → i < length sizes → keys_of sizes ≡ (keys_of (take i sizes) ++ keys_from i 0 (slice_index sizes i)) ++ keys_of_tables (i + 1) (drop (i + 1) sizes)
tables_next i sizes less =
    let first : 0 + (i + 1) ≡ i + 1 = omega arith in
    tables_split 0 (i + 1) sizes ∙ ap (λ t. keys_of (take (i + 1) sizes) ++ keys_of_tables t (drop (i + 1) sizes)) first
    ∙ ap (λ keys. keys ++ keys_of_tables (i + 1) (drop (i + 1) sizes)) (tables_more i sizes less)

-- ---- each of them is a row of the schema

abbrev AreKnown : List ℕ → List Key → Type 0
AreKnown schema keys = AllByRecursion (λ (key : Key). has_row schema key ≡ true) keys

both_known : (schema : List ℕ) (ks ls : List Key) → AreKnown schema ks → AreKnown schema ls → AreKnown schema (ks ++ ls)
both_known schema [] ls h k = k
both_known schema (key ∷ ks) ls h k = (h.0, both_known schema ks ls h.1 k)

rows_known : (schema : List ℕ) (table row n : ℕ) → row + n ≤ slice_index schema table → AreKnown schema (keys_from table row n)
rows_known schema table row zero within = tt
rows_known schema table row (suc n) within = (lt-ltb row (slice_index schema table) (omega (arith, within)), rows_known schema table (suc row) n (omega (arith, within)))

tables_known : (schema : List ℕ) (table : ℕ) (sizes : List ℕ) → ((i : ℕ) → slice_index schema (table + i) ≡ slice_index sizes i) → AreKnown schema (keys_of_tables table sizes)
tables_known schema table [] same = tt
tables_known schema table (n ∷ sizes) same =
    both_known schema (keys_from table 0 n) (keys_of_tables (suc table) sizes)
    (rows_known schema table 0 n (let size : slice_index schema table ≡ n = rw (unary table) at (same 0) in omega (arith, size)))
    (tables_known schema (suc table) sizes (λ i. let behind : suc table + i ≡ table + suc i = omega arith in ap (slice_index schema) behind ∙ same (suc i)))
  where
    unary : (table : ℕ) → table + 0 ≡ table
    unary table = omega arith

one_known : (schema : List ℕ) (ks ls : List Key) (key : Key) → AreKnown schema (ks ++ key ∷ ls) → has_row schema key ≡ true
one_known schema [] ls key h = h.0
one_known schema (k ∷ ks) ls key h = one_known schema ks ls key h.1

pub key_known : (schema : List ℕ) (ks ls : List Key) (key : Key) → ks ++ key ∷ ls ≡ keys_of schema → has_row schema key ≡ true
key_known schema ks ls key split = one_known schema ks ls key (subst (AreKnown schema) (sym split) (tables_known schema 0 schema (λ i. let first : 0 + i ≡ i = omega arith in ap (slice_index schema) first)))
