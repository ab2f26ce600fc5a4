-- What the cells of a reading hold as a log (this project's own format).
use Rattle.std.specs.Prelude.{◌≡◌, ℕ, ◌+◌, ◌<◌, ◌≤◌, List, [], ◌∷◌, ◌++◌, length, take, Some}
use Rattle.rep_types.specs.declared.limits.TheConstants.{MAX_SEQNO}
use Rattle.rep_types.specs.declared.judged.Judged.{Judged}
use Rattle.rep_forms.specs.Forms.{number_in}
use Rattle.rep_record.specs.Blocks.{IsBlock, SeqnosFrom, block_bytes}
use Rattle.rep_layout.specs.declared.place.Layout.{Layout}
use Rattle.rep_layout.specs.declared.place.Place.TheVariants.{Log}
use Rattle.rep_layout.specs.Places.{log_of}
use Rattle.rep_cells.specs.Readings.{Reading}

-- The records are those of the block of this number, of this seqno and those that follow.
pub record IsBlockFrom (number seqno : ℕ) (records : List Judged) : Type 0 where
  pub is_block : IsBlock number records
  pub follow : SeqnosFrom seqno records

-- Blocks of records, whose numbers follow one another from n on, and so do the seqnos of all their records from this one on:
-- each stands where blocks of its number stand, in the one spelling that it has.
abbrev pub Stand : (ℕ → List ℕ → Type 0) → ℕ → ℕ → List (List Judged) → Type 0
Stand Has n seqno [] = Unit {0}
Stand Has n seqno (records ∷ blocks) = Has n (block_bytes n records) × IsBlockFrom n seqno records × Stand Has (n + 1) (seqno + length records) blocks

-- the seqno behind these blocks
abbrev pub seqno_after : ℕ → List (List Judged) → ℕ
seqno_after seqno [] = seqno
seqno_after seqno (records ∷ blocks) = seqno_after (seqno + length records) blocks

-- the records of these blocks, one after another
abbrev pub records_of : List (List Judged) → List Judged
records_of [] = []
records_of (records ∷ blocks) = records ++ records_of blocks

-- the cell of the block of this number is open over this body
abbrev pub Shows : Reading → Layout → ℕ → List ℕ → Type 0
Shows r l n body = r (log_of l n) ≡ Some body

-- the number that a cell's body begins with
abbrev pub cell_in : List ℕ → ℕ
cell_in body = number_in 8 (take 8 body)

-- The number that an open cell holds belongs in this cell, and is below the next one.
pub record IsOld (l : Layout) (i next : ℕ) (body : List ℕ) : Type 0 where
  pub in_place : log_of l (cell_in body) ≡ Log i
  pub below : cell_in body < next

-- A reading's log from the block of this number on, whose first record has this seqno, is these blocks: they stand there one
-- after another, and of every open cell the number belongs there and isn't above that of the last block. The number of the
-- first block is below its first seqno, since each block before it had a record.
pub record IsLog (r : Reading) (l : Layout) (from seqno : ℕ) (blocks : List (List Judged)) : Type 0 where
  pub starts : from < seqno
  pub limit : seqno ≤ MAX_SEQNO + 1
  pub stand : Stand (Shows r l) from seqno blocks
  pub old : (i : ℕ) (body : List ℕ) → i < l.cells → r (Log i) ≡ Some body → IsOld l i (from + length blocks) body

-- It is of the form: there are such blocks.
abbrev pub IsOfForm : Reading → Layout → ℕ → ℕ → Type 0
IsOfForm r l from seqno = (blocks : List (List Judged)) × IsLog r l from seqno blocks
