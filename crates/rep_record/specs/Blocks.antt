-- Blocks of records as a log keeps them: what a block takes, its one spelling, and where bytes stop to be one.
use Rattle.std.specs.Prelude.{◌≡◌, ℕ, ◌+◌, ◌-◌, ◌≤◌, ◌<◌, ◌^◌, ◌==◌, ◌&&◌, ◌⊎◌, Bool, true, nat_lt, nat_le, List, [], ◌∷◌, ◌++◌, length, Option, Some}
use Rattle.std.specs.List.{flat_map, AllByRecursion}
use Rattle.rep_types.specs.declared.limits.TheConstants.{MAX_SEQNO}
use Rattle.rep_types.specs.declared.judged.Judged.{Judged}
use Rattle.rep_types.specs.declared.refusal.Refusal.{Refusal}
use Rattle.rep_types.specs.declared.refusal.Part.TheVariants.{Log as in_log}
use Rattle.rep_types.specs.declared.refusal.Refusal.TheVariants.{Malformed, OutOfMemory, Corrupt}
use Rattle.rep_record.specs.declared.limits.TheConstants.{MAX_RECORDS, MAX_BLOCK, BLOCK}
use Rattle.rep_record.specs.declared.block_reader.Head.{Head}
use Rattle.rep_forms.specs.Options.{given}
use Rattle.rep_forms.specs.Forms.{Form, number, number_bytes, zeros, are_blank, ◌⊗◌, via, as_named}
use Rattle.rep_forms.specs.Runs.{IsChain, StopsAt, values_in}
use Rattle.rep_record.specs.Records.{IsRecord, is_placed, record_bytes, record_form}

-- ---- records in the order of their seqnos

-- the seqno of the first record
abbrev pub first_seqno : List Judged → ℕ
first_seqno [] = 0
first_seqno (j ∷ records) = j.seqno

-- the records' seqnos are this one and those that follow
abbrev pub SeqnosFrom : ℕ → List Judged → Type 0
SeqnosFrom n [] = Unit {0}
SeqnosFrom n (j ∷ records) = (j.seqno ≡ n) × SeqnosFrom (n + 1) records

-- the bytes of the records, one after another
abbrev pub run_bytes : List Judged → List ℕ
run_bytes records = flat_map record_bytes records

-- ---- a block while it is gathered

-- whether the record's seqno is the next one; the first may have any
abbrev pub is_next : List Judged → Judged → Bool
is_next [] j = true
is_next (r ∷ records) j = j.seqno == r.seqno + (length records + 1)

-- whether the block takes the record: it has a spelling, it is the next one, and there is room
abbrev pub has_room : List Judged → Judged → Bool
has_room records j = is_placed j && is_next records j && nat_lt (length records) MAX_RECORDS && nat_le (length (run_bytes records) + length (record_bytes j)) MAX_BLOCK

-- what it depends on of the records: their first seqno, how many they are, and how many bytes they have
pub record Filled : Type 0 where
  pub first : ℕ
  pub count : ℕ
  pub size : ℕ

abbrev pub filled_by : List Judged → Filled
filled_by records = record { first = first_seqno records; count = length records; size = length (run_bytes records) }

-- the records that the bytes spell
abbrev pub gathered_in : ℕ → List ℕ → List Judged
gathered_in count bytes = values_in record_form.read count bytes

-- The bytes spell these records, so many, of seqnos that follow the first one, and are no more than a block has.
pub record AreGathered (first count : ℕ) (bytes : List ℕ) (records : List Judged) : Type 0 where
  pub spelled : bytes ≡ run_bytes records
  pub are_records : AllByRecursion IsRecord records
  pub is_first : first ≡ first_seqno records
  pub follow : SeqnosFrom (first_seqno records) records
  pub size : length records ≡ count
  pub few : count ≤ MAX_RECORDS
  pub fits : length bytes ≤ MAX_BLOCK

-- They spell the records that are read from them.
abbrev pub IsGathered : ℕ → ℕ → List ℕ → Type 0
IsGathered first count bytes = AreGathered first count bytes (gathered_in count bytes)

-- ---- the spelling

-- What a block holds: the number of its cell, and 1 to 64 records of seqnos that follow each other, of at most 7,662 bytes together.
pub record IsBlock (cell : ℕ) (records : List Judged) : Type 0 where
  pub cell_fits : cell < 2 ^ 64
  pub some : 1 ≤ length records
  pub few : length records ≤ MAX_RECORDS
  pub are_records : AllByRecursion IsRecord records
  pub follow : SeqnosFrom (first_seqno records) records
  pub fits : length (run_bytes records) ≤ MAX_BLOCK

-- A block, of 7,680 bytes: the number of the cell, the first seqno, how many records there are, the records, and zeros.
abbrev pub block_bytes : ℕ → List Judged → List ℕ
block_bytes cell records =
    number_bytes 8 cell ++ (number_bytes 8 (first_seqno records) ++ (number_bytes 2 (length records) ++ (run_bytes records ++ zeros (MAX_BLOCK - length (run_bytes records)))))

-- a block while it is handed out: the number of its cell, and the records that are left
pub record Contents : Type 0 where
  pub cell : ℕ
  pub records : List Judged

abbrev pub contents : ℕ → List Judged → Contents
contents cell records = record { cell = cell; records = records }

-- ---- its head

-- the number of the cell, the first seqno, and how many records there are
abbrev pub head_parts : Head → ℕ × (ℕ × ℕ)
head_parts head = (head.cell, (head.first, head.count))

abbrev pub head_of : ℕ × (ℕ × ℕ) → Option Head
head_of x = Some (record { cell = x.0; first = x.1.0; count = x.1.1 })

abbrev pub head_fields : Form Head
head_fields = via (number 8 ⊗ (number 8 ⊗ number 2)) head_parts head_of

pub record HeadFits (head : Head) : Type 0 where
  pub cell : head.cell < 2 ^ 64
  pub first : head.first < 2 ^ 64
  pub count : head.count < 2 ^ 16

abbrev pub head_bytes : Head → List ℕ
head_bytes head = number_bytes 8 head.cell ++ (number_bytes 8 head.first ++ number_bytes 2 head.count)

abbrev pub head_form : Form Head
head_form = as_named head_fields HeadFits head_bytes

-- ---- what is read

-- The head is of the form: there are 7,680 bytes, and they begin with it; it says 1 to 64 records.
pub record HasHead (bytes : List ℕ) (head : Head) (rest : List ℕ) : Type 0 where
  pub size : length bytes ≡ BLOCK
  pub fits : HeadFits head
  pub there : bytes ≡ head_bytes head ++ rest
  pub some : 1 ≤ head.count
  pub few : head.count ≤ MAX_RECORDS

-- the head of the block of this number, of so many records of this seqno and those that follow
abbrev pub head_with : ℕ → ℕ → ℕ → Head
head_with cell seqno count = record { cell = cell; first = seqno; count = count }

-- where the next seqno leads, which is this one, at most 2^60
abbrev pub next_seqno : ℕ → Judged → Option ℕ
next_seqno n j = given ((j.seqno == n) && nat_le n MAX_SEQNO) (n + 1)

-- So many records are spelled behind the head, of the first seqno and those that follow.
abbrev pub AreRecords : Head → List ℕ → List Judged → List ℕ → Type 0
AreRecords head bytes records rest = IsChain record_form next_seqno head.first head.count bytes records rest

-- What is read: the head, all records that it says, and zeros.
pub record IsRead (bytes : List ℕ) (cell : ℕ) (records : List Judged) : Type 0 where
  pub head : Head
  pub body : List ℕ
  pub has_head : HasHead bytes head body
  pub is_cell : cell ≡ head.cell
  pub rest : List ℕ
  pub are_records : AreRecords head body records rest
  pub blank : are_blank rest ≡ true

-- Why bytes are refused as a block: for the head or for the closing zeros at 0, and else at the offset of the first record
-- that isn't of the form or whose seqno doesn't follow.
abbrev pub HasNoHead : List ℕ → Type 0
HasNoHead bytes = (head : Head) (rest : List ℕ) → HasHead bytes head rest → ⊥

pub record HasNoEnd (bytes : List ℕ) : Type 0 where
  pub head : Head
  pub body : List ℕ
  pub has_head : HasHead bytes head body
  pub records : List Judged
  pub rest : List ℕ
  pub are_records : AreRecords head body records rest
  pub not_zero : are_blank rest ≡ true → ⊥

pub record HasNoRecord (bytes : List ℕ) (at : ℕ) : Type 0 where
  pub head : Head
  pub body : List ℕ
  pub has_head : HasHead bytes head body
  pub stop : ℕ
  pub place : at ≡ 18 + stop
  pub stops : StopsAt record_form next_seqno head.first head.count body stop

abbrev pub Refuses : List ℕ → Refusal → Type 0
Refuses bytes e = (HasNoHead bytes × (e ≡ Malformed 0)) ⊎ ((HasNoEnd bytes × (e ≡ Malformed 0)) ⊎ ((at : ℕ) × HasNoRecord bytes at × (e ≡ Malformed at)))

-- The bytes of a block tell its cell and its records.
abbrev pub BlocksAreTold : Type 0
BlocksAreTold = (c d : ℕ) (is js : List Judged) → IsBlock c is → IsBlock d js → block_bytes c is ≡ block_bytes d js → (c ≡ d) × (is ≡ js)

-- ---- the next block of a log

-- The bytes are the block of this number, whose records have this seqno and those that follow.
pub record IsNextBlock (cell seqno : ℕ) (bytes : List ℕ) (records : List Judged) : Type 0 where
  pub is_block : IsBlock cell records
  pub follow : SeqnosFrom seqno records
  pub spelled : bytes ≡ block_bytes cell records

-- The bytes begin with the record, which has this seqno.
pub record IsNextRecord (seqno : ℕ) (bytes : List ℕ) (j : Judged) (rest : List ℕ) : Type 0 where
  pub is_record : IsRecord j
  pub seqno_is : j.seqno ≡ seqno
  pub there : bytes ≡ record_bytes j ++ rest

-- A refusal of a log's records: no memory, or a log that is corrupt for this reason.
abbrev pub RefusesRecords : Type 0 → Refusal → Type 0
RefusesRecords Reason e = (e ≡ OutOfMemory) ⊎ ((e ≡ Corrupt in_log) × Reason)
