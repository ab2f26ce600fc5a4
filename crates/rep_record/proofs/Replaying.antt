-- A block whose records are given on as they are read.
use Rattle.std.proofs.Common.{◌≡◌, ℕ, ◌+◌, ◌-◌, ◌<◌, true, List, [], ◌∷◌, ◌++◌, length, refl, sym, ap, subst, ◌∙◌, append_assoc, arith, length-append}
use Rattle.std.specs.List.{AllByRecursion}
use Rattle.std.proofs.lemmas.List.Concat.{flat_map-cons}
use Rattle.rep_types.specs.declared.judged.Judged.{Judged}
use Rattle.rep_forms.specs.Forms.{AreMany, are_blank, zeros}
use Rattle.rep_forms.specs.Told.{AreTold, RunsAreTold}
use Rattle.rep_forms.specs.FormLaws.{all_more, run_more, zeros_blank}
use Rattle.rep_record.specs.declared.block_reader.Head.{Head}
use Rattle.rep_record.specs.declared.limits.TheConstants.{MAX_BLOCK}
use Rattle.rep_record.specs.declared.replays.Replays.{Ghosts}
use Rattle.rep_record.specs.Records.{IsRecord, record_bytes, record_form}
use Rattle.rep_record.specs.Blocks.{SeqnosFrom, run_bytes, head_form, head_with, HasHead, IsRead, IsNextBlock, IsNextRecord}
use Rattle.rep_record.specs.Replaying.{Replayed, Rejected}
use Rattle.rep_record.proofs.Blocks.{first_is, follow_of, block_read, head_says}
use Rattle.rep_record.proofs.Gathering.{SeqnosFrom_push}

-- ---- how far a block was read

-- with one record more
replayed_more : {S : Type 0} (g : Ghosts S) (s t u : S) (js : List Judged) (j : Judged) → Replayed g s js t → g.takes t j u → Replayed g s (js ++ j ∷ []) u
replayed_more g s t u [] j h takes = (u, subst (λ v. g.takes v j u) (sym h) takes, refl)
replayed_more g s t u (i ∷ js) j h takes = (h.0, h.1, replayed_more g h.0 t u js j h.2 takes)

-- These records, so many, stand before the rest, of this seqno and those that follow, and were given on.
pub record ReplayedTo {S : Type 0} (g : Ghosts S) (old new : S) (seqno k : ℕ) (body rest : List ℕ) : Type 0 where
  pub before : List Judged
  pub are_records : AllByRecursion IsRecord before
  pub follow : SeqnosFrom seqno before
  pub size : length before ≡ k
  pub there : body ≡ run_bytes before ++ rest
  pub replayed : Replayed g old before new

pub none_replayed : {S : Type 0} (g : Ghosts S) (old : S) (seqno : ℕ) (body : List ℕ) → ReplayedTo g old old seqno 0 body body
none_replayed g old seqno body = record { before = []; are_records = tt; follow = tt; size = refl; there = refl; replayed = refl }

pub one_replayed : {S : Type 0} (g : Ghosts S) (old now new : S) (seqno next k : ℕ) (body rest behind : List ℕ) (j : Judged) → ReplayedTo g old now seqno k body rest → next ≡ seqno + k → IsNextRecord next rest j behind → g.takes now j new
    → ReplayedTo g old new seqno (k + 1) body behind
one_replayed g old now new seqno next k body rest behind j at e is takes = record {
  before = at.before ++ j ∷ [];
  are_records = all_more IsRecord at.before j at.are_records is.is_record;
  follow = SeqnosFrom_push seqno at.before j at.follow (omega (arith, is.seqno_is, e, at.size));
  size = omega (arith, at.size, length-append at.before (j ∷ []));
  there = at.there ∙ ap (λ (xs : List ℕ). run_bytes at.before ++ xs) is.there ∙ sym (append_assoc (run_bytes at.before) (record_bytes j) behind) ∙ ap (λ (xs : List ℕ). xs ++ behind) (sym (run_more record_bytes at.before j));
  replayed = replayed_more g old now new at.before j at.replayed takes;
}

-- ---- what stands behind a head

-- where a block stands, its records stand behind its head, and zeros behind them
record Behind (count : ℕ) (body : List ℕ) (records : List Judged) : Type 0 where
  size : length records ≡ count
  rest : List ℕ
  there : body ≡ run_bytes records ++ rest
  blank : are_blank rest ≡ true

-- its own head
own_head : (bytes : List ℕ) (cell seqno : ℕ) (records : List Judged) → IsNextBlock cell seqno bytes records → HasHead bytes (head_with cell seqno (length records)) (run_bytes records ++ zeros (MAX_BLOCK - length (run_bytes records)))
own_head bytes cell seqno records is =
    subst (λ (n : ℕ). HasHead bytes (head_with cell n (length records)) (run_bytes records ++ zeros (MAX_BLOCK - length (run_bytes records)))) (first_is seqno records is.is_block.some is.follow)
    (head_says bytes cell records is.is_block is.spelled)

behind_head : AreTold head_form → (bytes body : List ℕ) (cell seqno count : ℕ) (records : List Judged) → HasHead bytes (head_with cell seqno count) body → IsNextBlock cell seqno bytes records → Behind count body records
behind_head told bytes body cell seqno count records has is =
    let filling : List ℕ = zeros (MAX_BLOCK - length (run_bytes records)) in
    let own = own_head bytes cell seqno records is in
    let apart = told (head_with cell seqno (length records)) (head_with cell seqno count) (run_bytes records ++ filling) body own.fits has.fits (sym own.there ∙ has.there) in
    record {
      size = ap (λ (head : Head). head.count) apart.0;
      rest = filling;
      there = sym apart.1;
      blank = zeros_blank (MAX_BLOCK - length (run_bytes records));
    }

-- without such a head there is no block
pub no_block : (bytes : List ℕ) (cell seqno : ℕ) (records : List Judged) → IsNextBlock cell seqno bytes records → ((count : ℕ) (rest : List ℕ) → HasHead bytes (head_with cell seqno count) rest → ⊥) → ⊥
no_block bytes cell seqno records is none = none (length records) (run_bytes records ++ zeros (MAX_BLOCK - length (run_bytes records))) (own_head bytes cell seqno records is)

-- the record that comes next, of some of which fewer were read
record Next (seqno : ℕ) (before records : List Judged) (bytes : List ℕ) : Type 0 where
  one : Judged
  behind : List Judged
  split : records ≡ before ++ one ∷ behind
  rest : List ℕ
  is_next : IsNextRecord (seqno + length before) bytes one rest

next_in :
    AreTold record_form → (seqno : ℕ) (before records : List Judged) (bytes rest : List ℕ) → AllByRecursion IsRecord before → AllByRecursion IsRecord records → SeqnosFrom seqno records
    → length before < length records → run_bytes before ++ bytes ≡ run_bytes records ++ rest → Next seqno before records bytes
next_in told n before [] bytes rest are also follow lt e = absurd (omega (arith, lt))
next_in told n [] (j ∷ records) bytes rest are also follow lt e = record {
  one = j;
  behind = records;
  split = refl;
  rest = run_bytes records ++ rest;
  is_next = record {
    is_record = also.0;
    seqno_is = omega (arith, follow.0);
    there = e ∙ ap (λ (front : List ℕ). front ++ rest) (flat_map-cons record_bytes j records) ∙ append_assoc (record_bytes j) (run_bytes records) rest;
  };
}
next_in told n (b ∷ before) (j ∷ records) bytes rest are also follow lt e =
    let apart = told b j (run_bytes before ++ bytes) (run_bytes records ++ rest) are.0 also.0
    (sym (append_assoc (record_bytes b) (run_bytes before) bytes) ∙ ap (λ (front : List ℕ). front ++ bytes) (sym (flat_map-cons record_bytes b before)) ∙ e
    ∙ ap (λ (front : List ℕ). front ++ rest) (flat_map-cons record_bytes j records) ∙ append_assoc (record_bytes j) (run_bytes records) rest) in
    let more = next_in told (n + 1) before records bytes rest are.1 also.1 follow.1 (omega (arith, lt)) apart.1 in
    record {
      one = more.one;
      behind = more.behind;
      split = ap (λ (xs : List Judged). j ∷ xs) more.split ∙ ap (λ (x : Judged). x ∷ (before ++ more.one ∷ more.behind)) (sym apart.0);
      rest = more.rest;
      is_next = subst (λ (m : ℕ). IsNextRecord m bytes more.one more.rest) (omega arith) more.is_next;
    }

-- ---- where it ends

module _ {S : Type 0} (g : Ghosts S) (old now : S) (bytes body rest : List ℕ) (cell seqno count k : ℕ) (has : HasHead bytes (head_with cell seqno count) body) (at : ReplayedTo g old now seqno k body rest) where
  -- a record that can't be given on is one of the block's, if there is a block
  pub stops_there : AreTold head_form → AreTold record_form → k < count → (next : ℕ) → next ≡ seqno + k → ((j : Judged) (tail : List ℕ) → IsNextRecord next rest j tail → g.rejects now j)
      → (records : List Judged) → IsNextBlock cell seqno bytes records → Rejected g old records
  stops_there heads told lt next e why records is =
      let behind = behind_head heads bytes body cell seqno count records has is in
      let found = next_in told seqno at.before records rest behind.rest at.are_records is.is_block.are_records is.follow (omega (arith, lt, at.size, behind.size)) (sym at.there ∙ behind.there) in
      record {
        before = at.before;
        one = found.one;
        behind = found.behind;
        split = found.split;
        state = now;
        replayed = at.replayed;
        why = why found.one found.rest (subst (λ (n : ℕ). IsNextRecord n rest found.one found.rest) (omega (arith, e, at.size)) found.is_next);
      }

  -- behind all of them there are zeros alone
  pub ends_there : AreTold head_form → RunsAreTold record_form → k ≡ count → (are_blank rest ≡ true → ⊥) → (records : List Judged) → IsNextBlock cell seqno bytes records → ⊥
  ends_there heads runs all not records is =
      let behind = behind_head heads bytes body cell seqno count records has is in
      let fits : AreMany record_form (length at.before) (length at.before) at.before = record { size = refl; few = omega arith; each = at.are_records } in
      let also : AreMany record_form (length at.before) (length at.before) records = record { size = omega (arith, behind.size, all, at.size); few = omega arith; each = is.is_block.are_records } in
      let same = runs (length at.before) at.before records rest behind.rest fits also (sym at.there ∙ behind.there) in
      not (ap are_blank same.1 ∙ behind.blank)

  -- and then they are the block's
  pub is_next_block : k ≡ count → are_blank rest ≡ true → IsNextBlock cell seqno bytes at.before
  is_next_block all blank =
      let read : IsRead bytes cell at.before = record {
        head = head_with cell seqno count;
        body = body;
        has_head = has;
        is_cell = refl;
        rest = rest;
        are_records = record { size = omega (arith, at.size, all); each = at.are_records; follow = follow_of seqno at.before at.are_records at.follow; there = at.there };
        blank = blank;
      } in
      let is = block_read bytes cell at.before read in
      record { is_block = is.0; follow = at.follow; spelled = is.1 }
