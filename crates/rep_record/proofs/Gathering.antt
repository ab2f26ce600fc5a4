-- Items in the order of their seqnos, and records that are gathered one by one.
use Rattle.std.proofs.Common.{◌≡◌, ℕ, zero, suc, ◌+◌, ◌≤◌, List, [], ◌∷◌, ◌++◌, length, take, drop, add-zero, arith, ◌<◌, true, ltb, leb, Option, Some, refl, sym, ap, subst, ◌∙◌, length-append}
use Rattle.std.specs.Prelude.{◌&&◌}
use Rattle.rep_types.specs.declared.judged.Judged.{Judged}
use Rattle.rep_record.specs.Blocks.{SeqnosFrom, first_seqno, run_bytes, is_next, has_room, Filled, filled_by, gathered_in, AreGathered, IsGathered}
use Rattle.std.specs.Option.{option_map_or}
use Rattle.std.proofs.lemmas.Bool.Decides.{nat_tests}
use Rattle.std.proofs.lemmas.Bool.{eqb-true, ltb-true}
use Rattle.std.proofs.lemmas.List.{append-nil}
use Rattle.rep_forms.specs.Forms.{each}
use Rattle.rep_forms.specs.FormLaws.{each_again, run_more, all_more, conjuncts}
use Rattle.rep_record.specs.declared.limits.TheConstants.{MAX_RECORDS, MAX_BLOCK}
use Rattle.rep_record.specs.Records.{IsRecord, is_placed, record_bytes, record_form}
use Rattle.rep_record.specs.RecordLaws.{record_is_form}

-- the next item behind those of a run
pub SeqnosFrom_push : (n : ℕ) (js : List Judged) (j : Judged) → SeqnosFrom n js → j.seqno ≡ n + length js → SeqnosFrom n (js ++ j ∷ [])
SeqnosFrom_push n [] j follow is = (omega arith, tt)
SeqnosFrom_push n (i ∷ js) j follow is = (follow.0, SeqnosFrom_push (n + 1) js j follow.1 (omega arith))

-- what is left of a run behind a front
pub SeqnosFrom-drop : (n k : ℕ) (js : List Judged) → SeqnosFrom n js → k ≤ length js → SeqnosFrom (n + k) (drop k js)
SeqnosFrom-drop n zero js follow inside = rw add-zero follow
SeqnosFrom-drop n (suc k) [] follow inside = tt
SeqnosFrom-drop n (suc k) (i ∷ js) follow inside =
    let same : n + suc k ≡ n + 1 + k = omega arith in rw same (SeqnosFrom-drop (n + 1) k js follow.1 (omega arith))

-- a front of a run
pub SeqnosFrom-take : (n k : ℕ) (js : List Judged) → SeqnosFrom n js → SeqnosFrom n (take k js)
SeqnosFrom-take n zero js follow = tt
SeqnosFrom-take n (suc k) [] follow = tt
SeqnosFrom-take n (suc k) (i ∷ js) follow = (follow.0, SeqnosFrom-take (n + 1) k js follow.1)

-- ---- records that are gathered

-- the records that were gathered are read again
gathered_is : {first count : ℕ} {bytes : List ℕ} {js : List Judged} → AreGathered first count bytes js → gathered_in count bytes ≡ js
gathered_is {count = count} {bytes = bytes} {js = js} h =
    let read : each record_form.read count bytes ≡ Some (js, []) =
    rw (← h.size, h.spelled, ← append-nil (run_bytes js)) (each_again record_form record_is_form js [] h.are_records) in
    ap (λ (o : Option (List Judged × List ℕ)). option_map_or (λ (x : List Judged × List ℕ). x.0) o []) read

are_gathered : {first count : ℕ} {bytes : List ℕ} {js : List Judged} → AreGathered first count bytes js → IsGathered first count bytes × (gathered_in count bytes ≡ js)
are_gathered {first} {count} {bytes} h = (subst (AreGathered first count bytes) (sym (gathered_is h)) h, gathered_is h)

-- nothing is gathered of no bytes
pub gathered_none : (bytes : List ℕ) → bytes ≡ [] → AreGathered 0 0 bytes (gathered_in 0 bytes)
gathered_none bytes e =
    (are_gathered {js = []} (record { spelled = e; are_records = tt; is_first = refl; follow = tt; size = refl; few = omega arith; fits = omega (arith, ap length e) })).0

pub none_read : (bytes : List ℕ) → gathered_in 0 bytes ≡ []
unfolding each
none_read bytes = refl

-- the next seqno is the one behind them
next_is : (js : List Judged) (j : Judged) → is_next js j ≡ true → SeqnosFrom (first_seqno js) js → SeqnosFrom (first_seqno (js ++ j ∷ [])) (js ++ j ∷ [])
next_is [] j e h = (refl, tt)
next_is (i ∷ js) j e h = SeqnosFrom_push i.seqno (i ∷ js) j h (omega (arith, eqb-true j.seqno (i.seqno + (length js + 1)) e))

-- one more, for which there is room
pub gathered_more : (first count : ℕ) (bytes more : List ℕ) (j : Judged) (filled : Filled) → IsGathered first count bytes → IsRecord j → has_room (gathered_in count bytes) j ≡ true → filled ≡ filled_by (gathered_in count bytes ++ j ∷ [])
    → more ≡ bytes ++ record_bytes j → IsGathered filled.first filled.count more × (gathered_in filled.count more ≡ gathered_in count bytes ++ j ∷ [])
gathered_more first count bytes more j filled h r room is there =
    let js : List Judged = gathered_in count bytes in
    let fourth = conjuncts (is_placed j && is_next js j && ltb (length js) MAX_RECORDS) (leb (length (run_bytes js) + length (record_bytes j)) MAX_BLOCK) room in
    let third = conjuncts (is_placed j && is_next js j) (ltb (length js) MAX_RECORDS) fourth.0 in
    let next : is_next js j ≡ true = (conjuncts (is_placed j) (is_next js j) third.0).1 in
    let spelled : more ≡ run_bytes (js ++ j ∷ []) = there ∙ ap (λ (xs : List ℕ). xs ++ record_bytes j) h.spelled ∙ sym (run_more record_bytes js j) in
    let long : length (js ++ j ∷ []) ≡ length js + 1 = length-append js (j ∷ []) in
    let most : length js < MAX_RECORDS = ltb-true (length js) MAX_RECORDS third.1 in
    let size : length (run_bytes js) + length (record_bytes j) ≤ MAX_BLOCK = grind (arith, nat_tests, fourth.1) in
    let more_size : length more ≡ length (run_bytes js) + length (record_bytes j) = ap length there ∙ (length-append bytes (record_bytes j) ∙ ap (λ n. n + length (record_bytes j)) (ap length h.spelled)) in
    are_gathered (record {
      spelled = spelled;
      are_records = all_more IsRecord js j h.are_records r;
      is_first = ap (λ (f : Filled). f.first) is;
      follow = next_is js j next h.follow;
      size = sym (ap (λ (f : Filled). f.count) is);
      few = omega (arith, ap (λ (f : Filled). f.count) is, long, most);
      fits = omega (arith, more_size, size);
    })
