-- What is digested of a state, so that nodes are compared by a few digits (this project).
use Rattle.std.specs.Prelude.{ℕ, zero, suc, List, [], ◌∷◌, ◌++◌, length, Option, None, Some, is_some}
use Rattle.std.specs.List.{flat_map, count_by}
use Rattle.std.specs.Int.{bytes_high_first}
use Rattle.rep_types.specs.declared.key.Key.{Key}
use Rattle.rep_types.specs.Order.{State}

-- so many rows of a table, from this one on
abbrev pub keys_from : ℕ → ℕ → ℕ → List Key
keys_from table row zero = []
keys_from table row (suc n) = record { table = table; row = row } ∷ keys_from table (suc row) n

-- the rows of tables of these sizes, from this table on
abbrev pub keys_of_tables : ℕ → List ℕ → List Key
keys_of_tables table [] = []
keys_of_tables table (n ∷ sizes) = keys_from table 0 n ++ keys_of_tables (suc table) sizes

-- the rows of a schema, ascending by table and then by row
abbrev pub keys_of : List ℕ → List Key
keys_of schema = keys_of_tables 0 schema

-- A row that is there: its table in 1 byte, its number in that table in 4, the length of its value in 1, and the value. A row that is
-- absent has no byte. Numbers are written with their highest byte first.
abbrev pub row_sum_bytes : Key → Option (List ℕ) → List ℕ
row_sum_bytes key None = []
row_sum_bytes key (Some bytes) = key.table ∷ (bytes_high_first 4 key.row ++ (length bytes ∷ bytes))

-- these rows of a state, one behind another
abbrev pub rows_sum_bytes : State → List Key → List ℕ
rows_sum_bytes S keys = flat_map (λ (key : Key). row_sum_bytes key (S.content key)) keys

-- What is digested of a state: the 16 bytes of the cluster's UUID, the position in 8 bytes, and the rows that are there. The window is
-- not in it.
abbrev pub sum_bytes : List ℕ → List ℕ → State → List ℕ
sum_bytes uuid schema S = uuid ++ (bytes_high_first 8 S.position ++ rows_sum_bytes S (keys_of schema))

-- how many of these rows are there in a state
abbrev pub rows_there : State → List Key → ℕ
rows_there S keys = count_by (λ (key : Key). is_some (S.content key)) keys
