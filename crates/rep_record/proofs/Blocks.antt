-- What is read as a block is spelled so, and what is spelled so is read.
use Rattle.std.proofs.Common.{◌≡◌, ℕ, ◌+◌, ◌-◌, ◌≤◌, ◌<◌, ◌^◌, eqb, leb, List, [], ◌∷◌, ◌++◌, length, Option, Some, refl, sym, ap, subst, ◌∙◌, append_assoc, arith, length-append}
use Rattle.std.specs.Prelude.{◌&&◌, Result, Ok, Err, IfOk, IsOkAnd}
use Rattle.std.specs.List.{AllByRecursion}
use Rattle.std.proofs.lemmas.Bool.{eqb-true, eq-eqb, le-leb}
use Rattle.std.proofs.lemmas.Option.{same_Some, cond_some}
use Rattle.rep_types.specs.declared.limits.TheConstants.{MAX_SEQNO}
use Rattle.rep_types.specs.declared.judged.Judged.{Judged}
use Rattle.rep_types.specs.declared.refusal.Refusal.{Refusal}
use Rattle.rep_forms.specs.Forms.{zeros, AreMany}
use Rattle.rep_forms.specs.Told.{AreTold, RunsAreTold}
use Rattle.rep_forms.specs.FormLaws.{length_number, length_zeros, conjuncts, blank_is, zeros_blank}
use Rattle.rep_forms.specs.Runs.{Leads, Follow}
use Rattle.rep_record.specs.declared.block_reader.Head.{Head}
use Rattle.rep_record.specs.declared.limits.TheConstants.{MAX_BLOCK, BLOCK}
use Rattle.rep_record.specs.Records.{IsRecord, record_form}
use Rattle.rep_record.specs.Blocks.{first_seqno, SeqnosFrom, run_bytes, IsBlock, block_bytes, Contents, contents, head_bytes, head_form, head_with, next_seqno, HasHead, AreRecords, IsRead}

-- ---- seqnos that follow one another

-- what a step says
step_says : (n : ℕ) (j : Judged) (t : ℕ) → next_seqno n j ≡ Some t → (j.seqno ≡ n) × (n + 1 ≡ t)
step_says n j t e =
    let a = cond_some (eqb j.seqno n && leb n MAX_SEQNO) (n + 1) t e in
    (eqb-true j.seqno n (conjuncts (eqb j.seqno n) (leb n MAX_SEQNO) a.0).0, a.1)

-- records that follow are of seqnos that do
seqnos_of : (n : ℕ) (js : List Judged) (t : ℕ) → Leads next_seqno n js t → SeqnosFrom n js
seqnos_of n [] t h = tt
seqnos_of n (j ∷ js) t h =
    let one = step_says n j h.0 h.1 in
    (one.0, subst (λ k. SeqnosFrom k js) (sym one.1) (seqnos_of h.0 js t h.2))

-- and the other way
pub follow_of : (n : ℕ) (js : List Judged) → AllByRecursion IsRecord js → SeqnosFrom n js → Follow next_seqno n js
follow_of n [] h s = (n, refl)
follow_of n (j ∷ js) h s =
    let rest = follow_of (n + 1) js h.1 s.1 in
    let small : n ≤ MAX_SEQNO = omega (arith, h.0.seqno, s.0) in
    (rest.0, (n + 1, rw (eq-eqb j.seqno n s.0, le-leb n MAX_SEQNO small) refl, rest.1))

-- the first seqno is that of the first record
pub first_is : (n : ℕ) (js : List Judged) → 1 ≤ length js → SeqnosFrom n js → first_seqno js ≡ n
first_is n [] some h = absurd (omega (arith, some))
first_is n (j ∷ js) some h = h.0

-- it is small
first_small : (js : List Judged) → AllByRecursion IsRecord js → first_seqno js < 2 ^ 64
first_small [] h = omega arith
first_small (j ∷ js) h = omega (arith, h.0.seqno)

-- ---- what is read is spelled so

-- what is read is a block
pub block_read : (bytes : List ℕ) (cell : ℕ) (js : List Judged) → IsRead bytes cell js → IsBlock cell js × (bytes ≡ block_bytes cell js)
block_read bytes cell js h =
    let all : length js ≡ h.head.count = h.are_records.size in
    let some : 1 ≤ length js = omega (arith, all, h.has_head.some) in
    let seqnos = seqnos_of h.head.first js h.are_records.follow.0 h.are_records.follow.1 in
    let first : first_seqno js ≡ h.head.first = first_is h.head.first js some seqnos in
    let sizes : BLOCK ≡ 18 + (length (run_bytes js) + length h.rest) =
    sym h.has_head.size ∙ rw (h.has_head.there, h.are_records.there) (simp (length-append, length_number) (omega arith)) in
    let filling : h.rest ≡ zeros (MAX_BLOCK - length (run_bytes js)) = blank_is h.rest h.blank ∙ ap zeros (omega (arith, sizes)) in (
      record {
        cell_fits = omega (arith, h.is_cell, h.has_head.fits.cell);
        some = some;
        few = omega (arith, all, h.has_head.few);
        are_records = h.are_records.each;
        follow = subst (λ n. SeqnosFrom n js) (sym first) seqnos;
        fits = omega (arith, sizes);
      },
      rw (h.has_head.there, h.are_records.there, filling, h.is_cell, first, all) (simp append_assoc),
    )

-- ---- what is spelled so is read

-- its head
pub head_says : (bytes : List ℕ) (cell : ℕ) (js : List Judged) → IsBlock cell js → bytes ≡ block_bytes cell js → HasHead bytes (head_with cell (first_seqno js) (length js)) (run_bytes js ++ zeros (MAX_BLOCK - length (run_bytes js)))
head_says bytes cell js h e =
    let filling : List ℕ = zeros (MAX_BLOCK - length (run_bytes js)) in
    let there : bytes ≡ head_bytes (head_with cell (first_seqno js) (length js)) ++ (run_bytes js ++ filling) = rw e (simp append_assoc) in
    record {
      size = rw there (simp (length-append, length_number, length_zeros) (omega (arith, h.fits)));
      fits = record { cell = h.cell_fits; first = first_small js h.are_records; count = omega (arith, h.few) };
      there = there;
      some = h.some;
      few = h.few;
    }

pub says : (bytes : List ℕ) (cell : ℕ) (js : List Judged) → IsBlock cell js → bytes ≡ block_bytes cell js → IsRead bytes cell js
says bytes cell js h e =
    let filling : List ℕ = zeros (MAX_BLOCK - length (run_bytes js)) in
    record {
      head = head_with cell (first_seqno js) (length js);
      is_cell = refl;
      body = run_bytes js ++ filling;
      has_head = head_says bytes cell js h e;
      rest = filling;
      are_records = record { size = refl; each = h.are_records; follow = follow_of (first_seqno js) js h.are_records h.follow; there = refl };
      blank = zeros_blank (MAX_BLOCK - length (run_bytes js));
    }

-- ---- the answer

-- what was taken from the front is the block's head, and its records are behind it
pub matched : {bytes : List ℕ} {cell : ℕ} {js : List Judged} → (s : IsRead bytes cell js) → (head : Head) (body : List ℕ) → ◌≡◌ {A = Option (Head × List ℕ)} (Some (head, body)) (Some (s.head, s.body))
    → (head ≡ s.head) × AreRecords head body js s.rest
matched {js = js} s head body e =
    subst (λ (x : Head × List ℕ). (x.0 ≡ s.head) × AreRecords x.0 x.1 js s.rest) (sym (same_Some (head, body) (s.head, s.body) e)) (refl, s.are_records)

pub answer_found : (bytes : List ℕ) (r : Result Contents Refusal) → IfOk r (λ b. IsRead bytes b.cell b.records) → IfOk r (λ b. IsBlock b.cell b.records × (bytes ≡ block_bytes b.cell b.records))
answer_found bytes (Ok b) h = block_read bytes b.cell b.records h
answer_found bytes (Err e) h = tt

pub answer_only : (bytes : List ℕ) (r : Result Contents Refusal) → ((cell : ℕ) (js : List Judged) → IsRead bytes cell js → IsOkAnd r (λ b. (b.cell ≡ cell) × (b.records ≡ js)))
    → (cell : ℕ) (js : List Judged) → IsBlock cell js → bytes ≡ block_bytes cell js → r ≡ Ok (contents cell js)
answer_only bytes (Ok b) only cell js h e =
    let same = only cell js (says bytes cell js h e) in
    ap (λ n. Ok (contents n b.records)) same.0 ∙ ap (λ rs. Ok (contents cell rs)) same.1
answer_only bytes (Err refusal) only cell js h e = absurd (only cell js (says bytes cell js h e))

-- ---- blocks are told apart

-- by their heads and the runs behind these
pub told_by : AreTold head_form → RunsAreTold record_form → (c d : ℕ) (is js : List Judged) → IsBlock c is → IsBlock d js → block_bytes c is ≡ block_bytes d js → (c ≡ d) × (is ≡ js)
told_by heads runs c d is js h k e =
    let one = says (block_bytes c is) c is h refl in
    let two = says (block_bytes c is) d js k e in
    let apart = heads one.head two.head one.body two.body one.has_head.fits two.has_head.fits (sym one.has_head.there ∙ two.has_head.there) in
    let count : length js ≡ length is = two.are_records.size ∙ ap (λ (head : Head). head.count) (sym apart.0) ∙ sym one.are_records.size in
    let fits : AreMany record_form (length is) (length is) is = record { size = refl; few = omega arith; each = h.are_records } in
    let also : AreMany record_form (length is) (length is) js = record { size = count; few = omega arith; each = k.are_records } in
    let there : run_bytes is ++ one.rest ≡ run_bytes js ++ two.rest = sym one.are_records.there ∙ apart.1 ∙ two.are_records.there in (
      one.is_cell ∙ ap (λ (head : Head). head.cell) apart.0 ∙ sym two.is_cell,
      (runs (length is) is js one.rest two.rest fits also there).0,
    )
