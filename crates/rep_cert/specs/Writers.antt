-- The last writer of each row, as the entries say it and as a list of numbers holds it.
use Rattle.std.specs.Prelude.{◌≡◌, ℕ, ◌+◌, ◌<◌, Bool, ◌==◌, nat_lt, max, Option, None, Some, if◌then◌else◌, List, [], ◌∷◌, length, slice_index, slice_set}
use Rattle.std.specs.List.{list_any, sum_by}
use Rattle.rep_types.specs.declared.key.Key.{Key}
use Rattle.rep_types.specs.Keys.{key_eq}
use Rattle.rep_types.specs.Settings.{IsRow}
use Rattle.rep_types.specs.Entries.{Entry}
use Rattle.rep_cert.specs.declared.writers.Former.{Former}

-- whether the item wrote the key
abbrev pub wrote : Key → Entry → Bool
wrote key e = list_any (λ (k : Key). key_eq k key) e.keys

-- the seqno of the last of these items that wrote the key, in whatever order they stand: 0 where none did
abbrev pub last_writer : Key → List Entry → ℕ
last_writer key [] = 0
last_writer key (e ∷ es) = max (if wrote key e then e.seqno else 0) (last_writer key es)

-- the greatest of the numbers that these keys have
abbrev pub greatest_of : (Key → ℕ) → List Key → ℕ
greatest_of number [] = 0
greatest_of number (key ∷ keys) = max (number key) (greatest_of number keys)

-- the number, where it is above what was seen
abbrev pub above : ℕ → ℕ → Option ℕ
above seen n = if nat_lt seen n then Some n else None

-- where the rows of each table begin, those of the first at `start`
abbrev pub starts_from : ℕ → List ℕ → List ℕ
starts_from start [] = []
starts_from start (count ∷ counts) = start ∷ starts_from (start + count) counts

-- the place of the key's row
abbrev pub place : List ℕ → Key → ℕ
place starts key = slice_index starts key.table + key.row

-- the number at the place of the key's row
abbrev pub writer : List ℕ → List ℕ → Key → ℕ
writer starts seqnos key = slice_index seqnos (place starts key)

-- the key's row has a place
pub record HasPlace (starts seqnos : List ℕ) (key : Key) : Type 0 where
  pub table : key.table < length starts
  pub row : place starts key < length seqnos

-- there is one number for each row, table behind table
pub record IsLaidOut (rows starts seqnos : List ℕ) : Type 0 where
  pub tables : starts ≡ starts_from 0 rows
  pub size : length seqnos ≡ sum_by (λ (count : ℕ). count) rows

-- whether one of the keys has its row at this place
abbrev pub is_placed : List ℕ → List Key → ℕ → Bool
is_placed starts keys i = list_any (λ (key : Key). place starts key == i) keys

-- The numbers agree with these committed items: each row's is the last item that wrote it, or both are up to the level.
abbrev pub Agrees : List ℕ → List ℕ → List ℕ → ℕ → List Entry → Type 0
Agrees rows starts seqnos level es = (key : Key) → IsRow rows key → max level (writer starts seqnos key) ≡ max level (last_writer key es)

-- the numbers before these rows were written, the first of them first
abbrev pub restored : List Former → List ℕ → List ℕ
restored [] seqnos = seqnos
restored (former ∷ later) seqnos = slice_set (restored later seqnos) former.place former.seqno
