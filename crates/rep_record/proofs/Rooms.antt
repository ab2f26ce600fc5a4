-- What a block takes, told by numbers.
use Rattle.std.proofs.Common.{◌≡◌, ℕ, ◌+◌, ◌*◌, ◌-◌, List, [], ◌∷◌, ◌++◌, length, cond, refl, arith}
use Rattle.std.specs.Prelude.{◌==◌, ◌&&◌, ◌||◌, nat_le}
use Rattle.std.specs.List.{flat_map}
use Rattle.std.proofs.lemmas.Bool.Decides.{nat_tests}
use Rattle.std.proofs.lemmas.List.Concat.{flat_map-cons}
use Rattle.rep_types.specs.declared.key.Key.{Key}
use Rattle.rep_types.specs.declared.verdict.Verdict.{Verdict}
use Rattle.rep_types.specs.declared.judged.Judged.{Judged}
use Rattle.rep_types.specs.declared.item.Item.{Item}
use Rattle.rep_types.specs.Transactions.{Transaction}
use Rattle.rep_forms.specs.Keys.{key_bytes}
use Rattle.rep_forms.specs.Writes.{write_bytes}
use Rattle.rep_forms.specs.FormLaws.{sizes, run_more}
use Rattle.rep_record.specs.Records.{record_bytes, list_bytes, content_bytes, body_bytes, spelled}
use Rattle.rep_record.specs.Blocks.{first_seqno, run_bytes, is_next, filled_by}

keys_size : (keys : List Key) → length (flat_map key_bytes keys) ≡ 5 * length keys
keys_size [] = refl
keys_size (key ∷ keys) = grind (arith, sizes, keys_size keys, flat_map-cons key_bytes key keys)

-- how many bytes reads and writes have
pub lists_size : (w : Transaction) → length (list_bytes w) ≡ 2 + 5 * length w.reads + length (flat_map write_bytes w.writes)
lists_size w = grind (arith, sizes, keys_size w.reads)

-- how many bytes a record has
pub record_size : (seqno : ℕ) (i : Item) (verdict : Verdict) → length (spelled seqno i verdict) ≡ 43 + length (content_bytes i)
record_size seqno i verdict = grind (arith, sizes)

pub body_size : (seqno : ℕ) (i : Item) (verdict : Verdict) → length (body_bytes seqno i verdict) ≡ 41 + length (content_bytes i)
body_size seqno i verdict = grind (arith, sizes)

-- the next seqno, by numbers
pub next_by_numbers : (records : List Judged) (j : Judged) → is_next records j ≡ (length records == 0 || (nat_le (first_seqno records) j.seqno && (j.seqno - first_seqno records == length records)))
next_by_numbers [] j = refl
next_by_numbers (r ∷ records) j = grind (arith, nat_tests)

-- one record more
pub filled_more : (records : List Judged) (j : Judged) → filled_by (records ++ j ∷ []) ≡ record { first = cond (length records == 0) j.seqno (first_seqno records); count = length records + 1; size = length (run_bytes records) + length (record_bytes j) }
filled_more [] j = grind (arith, sizes)
filled_more (r ∷ records) j = grind (arith, sizes, run_more record_bytes (r ∷ records) j)
