-- What a block takes of some items.
use Rattle.std.specs.Prelude.{◌≡◌, ℕ, ◌+◌, ◌<◌, ◌≤◌, true, false, if◌then◌else◌, List, [], ◌∷◌, ◌++◌, length, take, drop, slice_index_or}
use Rattle.rep_types.specs.declared.judged.Judged.{Judged}
use Rattle.rep_record.specs.declared.limits.TheConstants.{MAX_RECORDS}
use Rattle.rep_types.specs.Items.{IsWithin}
use Rattle.rep_record.specs.Records.{is_placed}
use Rattle.rep_record.specs.Blocks.{has_room, SeqnosFrom}

-- how many of these items the block takes, one after another, up to the first that it doesn't
abbrev pub fitting : List Judged → List Judged → ℕ
fitting block [] = 0
fitting block (j ∷ js) = if has_room block j then fitting (block ++ j ∷ []) js + 1 else 0

-- The longest front that the block takes has n items: it takes each of them behind those before it, and then not the next.
pub record IsLongestFront (block js : List Judged) (n : ℕ) : Type 0 where
  pub within : n ≤ length js
  pub fits : (k : ℕ) (d : Judged) → k < n → has_room (block ++ take k js) (slice_index_or js k d) ≡ true
  pub stops : (d : Judged) → n < length js → has_room (block ++ take n js) (slice_index_or js n d) ≡ false

-- What a block takes is the longest front, and there is one such front. An empty block takes any item that has a spelling,
-- and no block takes more than it may have.
pub record FrontsAreDetermined : Type 0 where
  pub right : (block js : List Judged) → IsLongestFront block js (fitting block js)
  pub only : (block js : List Judged) (n : ℕ) → IsLongestFront block js n → n ≡ fitting block js
  pub first : (j : Judged) (js : List Judged) → is_placed j ≡ true → IsWithin j.item → 1 ≤ fitting [] (j ∷ js)
  pub few : (block js : List Judged) → length block ≤ MAX_RECORDS → length block + fitting block js ≤ MAX_RECORDS

-- Items whose seqnos follow one another, from n on, stay so where the next one comes behind them, and where a front is taken
-- from them; the front is of such seqnos too.
pub record StaysInOrder : Type 0 where
  pub pushed : (n : ℕ) (js : List Judged) (j : Judged) → SeqnosFrom n js → j.seqno ≡ n + length js → SeqnosFrom n (js ++ j ∷ [])
  pub drained : (n k : ℕ) (js : List Judged) → SeqnosFrom n js → k ≤ length js → SeqnosFrom (n + k) (drop k js)
  pub front : (n k : ℕ) (js : List Judged) → SeqnosFrom n js → SeqnosFrom n (take k js)
