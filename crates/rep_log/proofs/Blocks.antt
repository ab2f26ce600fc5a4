-- Blocks that stand one after another: moved to another reading, from a later one on, and with one more.
use Rattle.std.proofs.Common.{◌≡◌, ℕ, zero, suc, ◌+◌, ◌-◌, ◌<◌, ◌≤◌, ◌^◌, List, [], ◌∷◌, ◌++◌, length, take, drop, Option, Some, refl, sym, ap, subst, ◌∙◌, append_assoc, arith}
use Rattle.std.specs.List.{AllByRecursion}
use Rattle.std.proofs.lemmas.List.{take_at}
use Rattle.std.proofs.lemmas.Option.{same_Some}
use Rattle.rep_types.specs.declared.limits.TheConstants.{MAX_SEQNO}
use Rattle.rep_types.specs.declared.judged.Judged.{Judged}
use Rattle.rep_forms.specs.Options.{◌>>=◌}
use Rattle.rep_forms.specs.Forms.{number_bytes, number_in, zeros}
use Rattle.rep_forms.specs.FormLaws.{length_number, part_again, number_is_form}
use Rattle.rep_record.specs.declared.limits.TheConstants.{MAX_BLOCK}
use Rattle.rep_record.specs.Records.{IsRecord}
use Rattle.rep_record.specs.Blocks.{IsBlock, SeqnosFrom, first_seqno, run_bytes, block_bytes}
use Rattle.rep_log.specs.Tail.{IsBlockFrom, Stand, seqno_after, records_of, cell_in}

-- where blocks stand
abbrev pub Where : Type 1
Where = ℕ → List ℕ → Type 0

-- ---- the number of a block

-- bytes that begin with a number
number_first : (n : ℕ) (rest : List ℕ) → n < 256 ^ 8 → cell_in (number_bytes 8 n ++ rest) ≡ n
number_first n rest small =
    let read : Some (number_in 8 (number_bytes 8 n), rest) ≡ Some (n, rest) =
    sym (ap (λ (o : Option (List ℕ × List ℕ)). o >>= λ p. Some (number_in 8 p.0, p.1)) (part_again 8 (number_bytes 8 n) rest (length_number 8 n))) ∙ (number_is_form 8).again n rest small in
    ap (number_in 8) (take_at (number_bytes 8 n) rest 8 (length_number 8 n)) ∙ ap (λ (x : ℕ × List ℕ). x.0) (same_Some (number_in 8 (number_bytes 8 n), rest) (n, rest) read)

-- a block begins with its number
pub cell_is : (n : ℕ) (records : List Judged) → IsBlock n records → cell_in (block_bytes n records) ≡ n
cell_is n records h =
    number_first n (number_bytes 8 (first_seqno records) ++ (number_bytes 2 (length records) ++ (run_bytes records ++ zeros (MAX_BLOCK - length (run_bytes records))))) (omega (arith, h.cell_fits))

-- ---- seqnos

-- records of seqnos that follow are below the limit
pub last_small : (seqno : ℕ) (records : List Judged) → seqno ≤ MAX_SEQNO + 1 → AllByRecursion IsRecord records → SeqnosFrom seqno records → seqno + length records ≤ MAX_SEQNO + 1
last_small seqno [] small h f = omega (arith, small)
last_small seqno (j ∷ records) small h f =
    let le : seqno + 1 ≤ MAX_SEQNO + 1 = omega (arith, h.0.seqno, f.0) in
    omega (arith, last_small (seqno + 1) records le h.1 f.1)

-- ---- blocks that stand

-- they stand also where all of these do
pub stand_moved :
    (Had Has : Where) (n seqno : ℕ) (blocks : List (List Judged)) → ((m : ℕ) (body : List ℕ) → n ≤ m → m < n + length blocks → Had m body → Has m body)
    → Stand Had n seqno blocks → Stand Has n seqno blocks
stand_moved Had Has n seqno [] step h = tt
stand_moved Had Has n seqno (records ∷ blocks) step h = (
  step n (block_bytes n records) (omega arith) (omega arith) h.0,
  h.1,
  stand_moved Had Has (n + 1) (seqno + length records) blocks (λ m body from to had. step m body (omega (arith, from)) (omega (arith, to)) had) h.2,
)

-- the number of the first may be written otherwise
stand_at : (Has : Where) (m n seqno : ℕ) (blocks : List (List Judged)) → m ≡ n → Stand Has m seqno blocks → Stand Has n seqno blocks
stand_at Has m n seqno blocks e h = subst (λ k. Stand Has k seqno blocks) e h

-- behind the first k they stand too
pub stand_behind :
    (Has : Where) (k n seqno : ℕ) (blocks : List (List Judged)) → Stand Has n seqno blocks → Stand Has (n + k) (seqno_after seqno (take k blocks)) (drop k blocks)
stand_behind Has zero n seqno blocks h = stand_at Has n (n + 0) seqno blocks (omega arith) h
stand_behind Has (suc k) n seqno [] h = tt
stand_behind Has (suc k) n seqno (records ∷ blocks) h =
    stand_at Has (n + 1 + k) (n + suc k) (seqno_after (seqno + length records) (take k blocks)) (drop k blocks) (omega arith) (stand_behind Has k (n + 1) (seqno + length records) blocks h.2)

-- with one more behind the last
pub stand_more :
    (Has : Where) (n seqno : ℕ) (blocks : List (List Judged)) (records : List Judged) → Stand Has n seqno blocks
    → Has (n + length blocks) (block_bytes (n + length blocks) records) → IsBlockFrom (n + length blocks) (seqno_after seqno blocks) records → Stand Has n seqno (blocks ++ records ∷ [])
stand_more Has n seqno [] records h there is = stand_at Has (n + 0) n seqno (records ∷ []) (omega arith) (there, is, tt)
stand_more Has n seqno (first ∷ blocks) records h there is =
    let e : n + length (first ∷ blocks) ≡ n + 1 + length blocks = omega arith in
    (h.0, h.1, stand_more Has (n + 1) (seqno + length first) blocks records h.2 (subst (λ m. Has m (block_bytes m records)) e there) (subst (λ m. IsBlockFrom m (seqno_after (seqno + length first) blocks) records) e is))

-- one of them
pub record Standing_at (Has : Where) (n seqno k : ℕ) (blocks : List (List Judged)) : Type 0 where
  pub records : List Judged
  pub there : Has (n + k) (block_bytes (n + k) records)
  pub block : IsBlockFrom (n + k) (seqno_after seqno (take k blocks)) records
  pub split : records_of blocks ≡ records_of (take k blocks) ++ (records ++ records_of (drop (suc k) blocks))

pub standing_at : (Has : Where) (n seqno k : ℕ) (blocks : List (List Judged)) → k < length blocks → Stand Has n seqno blocks → Standing_at Has n seqno k blocks
standing_at Has n seqno k [] lt h = absurd (omega (arith, lt))
standing_at Has n seqno zero (records ∷ blocks) lt h =
    let e : n ≡ n + 0 = omega arith in
    record { records = records; there = subst (λ m. Has m (block_bytes m records)) e h.0; block = subst (λ m. IsBlockFrom m seqno records) e h.1; split = refl }
standing_at Has n seqno (suc k) (records ∷ blocks) lt h =
    let e : n + 1 + k ≡ n + suc k = omega arith in
    let more = standing_at Has (n + 1) (seqno + length records) k blocks (omega (arith, lt)) h.2 in
    record {
      records = more.records;
      there = subst (λ m. Has m (block_bytes m more.records)) e more.there;
      block = subst (λ m. IsBlockFrom m (seqno_after (seqno + length records) (take k blocks)) more.records) e more.block;
      split = ap (λ xs. records ++ xs) more.split ∙ sym (append_assoc records (records_of (take k blocks)) (more.records ++ records_of (drop (suc k) blocks)));
    }

-- ---- their numbers and seqnos

-- one more
pub seqno_more : (seqno : ℕ) (blocks : List (List Judged)) (records : List Judged) → seqno_after seqno (blocks ++ records ∷ []) ≡ seqno_after seqno blocks + length records
seqno_more seqno [] records = refl
seqno_more seqno (first ∷ blocks) records = seqno_more (seqno + length first) blocks records

-- the rest
pub seqno_rest : (k seqno : ℕ) (blocks : List (List Judged)) → seqno_after (seqno_after seqno (take k blocks)) (drop k blocks) ≡ seqno_after seqno blocks
seqno_rest zero seqno blocks = refl
seqno_rest (suc k) seqno [] = refl
seqno_rest (suc k) seqno (records ∷ blocks) = seqno_rest k (seqno + length records) blocks

-- each has a record, so numbers stay below seqnos, and these within their limit
pub record IsBelow (n seqno : ℕ) : Type 0 where
  pub below : n < seqno
  pub limit : seqno ≤ MAX_SEQNO + 1

pub stays_below : (Has : Where) (k n seqno : ℕ) (blocks : List (List Judged)) → k ≤ length blocks → Stand Has n seqno blocks → IsBelow n seqno → IsBelow (n + k) (seqno_after seqno (take k blocks))
stays_below Has zero n seqno blocks le h is = record { below = omega (arith, is.below); limit = is.limit }
stays_below Has (suc k) n seqno [] le h is = absurd (omega (arith, le))
stays_below Has (suc k) n seqno (records ∷ blocks) le h is =
    let block = h.1.is_block in
    let next : IsBelow (n + 1) (seqno + length records) = record { below = omega (arith, is.below, block.some); limit = last_small seqno records is.limit block.are_records h.1.follow } in
    let more = stays_below Has k (n + 1) (seqno + length records) blocks (omega (arith, le)) h.2 next in
    record { below = omega (arith, more.below); limit = more.limit }
