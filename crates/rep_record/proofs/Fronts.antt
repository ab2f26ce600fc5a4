-- What a block takes of a list.
use Rattle.std.proofs.Common.{◌≡◌, ℕ, zero, suc, ◌+◌, ◌<◌, ◌≤◌, Bool, true, false, ltb, leb, List, [], ◌∷◌, ◌++◌, length, take, refl, sym, ap, subst, ◌∙◌, append_assoc, arith, length-append}
use Rattle.std.specs.Prelude.{◌&&◌, if◌then◌else◌, slice_index_or}
use Rattle.std.proofs.lemmas.Bool.{ltb-true, le-leb}
use Rattle.std.proofs.lemmas.List.{append-nil}
use Rattle.rep_types.specs.declared.judged.Judged.{Judged}
use Rattle.rep_types.specs.declared.item.Item.{Item}
use Rattle.rep_types.specs.declared.verdict.Verdict.{Verdict}
use Rattle.rep_forms.specs.Forms.{number_bytes}
use Rattle.rep_forms.specs.FormLaws.{length_number, conjuncts}
use Rattle.rep_record.specs.declared.limits.TheConstants.{MAX_RECORDS, MAX_BLOCK}
use Rattle.rep_types.specs.Items.{IsWithin}
use Rattle.rep_record.specs.Records.{is_placed, body_bytes, spelled, record_bytes}
use Rattle.rep_record.specs.RecordLaws.{body_short}
use Rattle.rep_record.specs.Blocks.{has_room, is_next, run_bytes}
use Rattle.rep_record.specs.Fronts.{fitting, IsLongestFront}

-- a block with an item and with those behind it
behind : (block : List Judged) (j : Judged) (js : List Judged) (b : Bool) (d : Judged) → has_room ((block ++ j ∷ []) ++ js) d ≡ b → has_room (block ++ j ∷ js) d ≡ b
behind block j js b d e = ap (λ (js : List Judged). has_room js d) (sym (append_assoc block (j ∷ []) js)) ∙ e

-- a longest front of a list, from that behind its first item
front_cases : (block : List Judged) (j : Judged) (js : List Judged) (n : ℕ) (b : Bool) → has_room block j ≡ b → IsLongestFront (block ++ j ∷ []) js n
    → IsLongestFront block (j ∷ js) (if b then n + 1 else 0)
front_cases block j js n true room is = record {
  within = omega (arith, is.within);
  fits = fits;
  stops = λ d inside.
      let P : ℕ → Type 0 = λ m. has_room (block ++ take m (j ∷ js)) (slice_index_or (j ∷ js) m d) ≡ false in
      let same : suc n ≡ n + 1 = omega arith in
      subst P same (behind block j (take n js) false (slice_index_or js n d) (is.stops d (omega arith)));
}
  where
    fits : (k : ℕ) (d : Judged) → k < n + 1 → has_room (block ++ take k (j ∷ js)) (slice_index_or (j ∷ js) k d) ≡ true
    fits zero d inside = ap (λ (bs : List Judged). has_room bs j) (append-nil block) ∙ room
    fits (suc k) d inside = behind block j (take k js) true (slice_index_or js k d) (is.fits k d (omega arith))
front_cases block j js n false full is = record {
  within = omega arith;
  fits = λ k d inside. absurd (omega arith);
  stops = λ d inside. ap (λ (bs : List Judged). has_room bs j) (append-nil block) ∙ full;
}

-- what a block takes is the longest front
pub IsLongestFront-fitting : (block js : List Judged) → IsLongestFront block js (fitting block js)
IsLongestFront-fitting block [] = record { within = omega arith; fits = λ k d inside. absurd (omega arith); stops = λ d inside. absurd (omega arith) }
IsLongestFront-fitting block (j ∷ js) = front_cases block j js (fitting (block ++ j ∷ []) js) (has_room block j) refl (IsLongestFront-fitting (block ++ j ∷ []) js)

-- there is one longest front
front_behind : (block : List Judged) (j : Judged) (js : List Judged) (n : ℕ) → IsLongestFront block (j ∷ js) (suc n) → IsLongestFront (block ++ j ∷ []) js n
front_behind block j js n is = record {
  within = omega (arith, is.within);
  fits = λ k d inside. ap (λ (bs : List Judged). has_room bs (slice_index_or js k d)) (append_assoc block (j ∷ []) (take k js)) ∙ is.fits (suc k) d (omega arith);
  stops = λ d inside. ap (λ (bs : List Judged). has_room bs (slice_index_or js n d)) (append_assoc block (j ∷ []) (take n js)) ∙ is.stops d (omega arith);
}

pub only_fitting : (block js : List Judged) (n : ℕ) → IsLongestFront block js n → n ≡ fitting block js
only_fitting block [] n is = omega (arith, is.within)
only_fitting block (j ∷ js) zero is =
    let full : has_room block j ≡ false = ap (λ (bs : List Judged). has_room bs j) (sym (append-nil block)) ∙ is.stops j (omega arith) in
    rw full refl
only_fitting block (j ∷ js) (suc n) is =
    let room : has_room block j ≡ true = ap (λ (bs : List Judged). has_room bs j) (sym (append-nil block)) ∙ is.fits 0 j (omega arith) in
    rw room (omega (arith, only_fitting (block ++ j ∷ []) js n (front_behind block j js n is)))

-- ---- an empty block

-- an empty block takes an item that has a spelling
record_short : (seqno : ℕ) (i : Item) (v : Verdict) → IsWithin i → length (spelled seqno i v) ≤ MAX_BLOCK
record_short seqno i v h =
    let body : List ℕ = body_bytes seqno i v in
    omega (arith, body_short seqno i v h, length-append (number_bytes 2 (length body + 2)) body, length_number 2 (length body + 2))

pub takes_first : (j : Judged) → is_placed j ≡ true → IsWithin j.item → has_room [] j ≡ true
takes_first j placed h =
    let size : 0 + length (record_bytes j) ≤ MAX_BLOCK = omega (arith, record_short j.seqno j.item j.verdict h) in
    rw (placed, le-leb (0 + length (record_bytes j)) MAX_BLOCK size) refl

pub fitting_first : (j : Judged) (js : List Judged) → is_placed j ≡ true → IsWithin j.item → 1 ≤ fitting [] (j ∷ js)
fitting_first j js placed h = let room = takes_first j placed h in rw room (omega arith)

-- ---- no more than a block may have

-- a block that takes an item has fewer than it may have
few_before : (block : List Judged) (j : Judged) → has_room block j ≡ true → length block < MAX_RECORDS
few_before block j room =
    let a = conjuncts (is_placed j && is_next block j && ltb (length block) MAX_RECORDS) (leb (length (run_bytes block) + length (record_bytes j)) MAX_BLOCK) room in
    ltb-true (length block) MAX_RECORDS (conjuncts (is_placed j && is_next block j) (ltb (length block) MAX_RECORDS) a.0).1

few_cases : (block : List Judged) (j : Judged) (n : ℕ) (b : Bool) → has_room block j ≡ b → length block ≤ MAX_RECORDS → (length block < MAX_RECORDS → length (block ++ j ∷ []) + n ≤ MAX_RECORDS) → length block + (if b then n + 1 else 0) ≤ MAX_RECORDS
few_cases block j n true room few more = omega (arith, more (few_before block j room), length-append block (j ∷ []))
few_cases block j n false full few more = omega (arith, few)

pub fitting_few : (block js : List Judged) → length block ≤ MAX_RECORDS → length block + fitting block js ≤ MAX_RECORDS
fitting_few block [] few = omega (arith, few)
fitting_few block (j ∷ js) few =
    few_cases block j (fitting (block ++ j ∷ []) js) (has_room block j) refl few (λ lt. fitting_few (block ++ j ∷ []) js (omega (arith, length-append block (j ∷ []))))
