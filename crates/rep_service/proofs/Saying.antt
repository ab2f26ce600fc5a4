-- What is written, one line after another.
use Rattle.std.proofs.Common.{◌≡◌, ◌≢◌, ◌⊎◌, ℕ, ◌+◌, inl, inr, List, [], ◌∷◌, ◌++◌, length, take, Option, Result, Ok, Err, OnOk, IfErr, refl, sym, ap, subst, ◌∙◌, append-nil}
use Rattle.std.proofs.Math.Seq.{take-append-add, take-length}
use Rattle.std.proofs.lemmas.List.Concat.{flat_map-append}
use Rattle.std.specs.Io.KnownBytes.{Appends, Keeps}
use Rattle.std.proofs.KnownBytes.{Appends-nil, Appends-trans, Appends-kept}
use Rattle.rep_types.specs.declared.reply.Reply.{Reply}
use Rattle.rep_types.specs.declared.refusal.Refusal.{Refusal}
use Rattle.rep_types.specs.declared.refusal.Refusal.TheVariants.{OutOfMemory, DiskFault, Stopped, OutOfOrder, Backlogged, LogFull, NotDue, TooOld, NotYet, BadKey, Undefined, NotFormatted, Corrupt, TooSmall, BadParams, Malformed, TooManyReads, TooManyWrites, ValueTooLong, WrongCluster, Ahead, Closed, Exhausted, StreamFault}
use Rattle.rep_script.specs.Answering.{Tells}
use Rattle.rep_follow.specs.Receipts.{receipt_line, receipt_lines}
use Rattle.rep_follow.specs.Committing.{Written}
use Rattle.rep_service.specs.Saying.{Said, Refused, line_of, lines_of, Writes, receipt_in, receipts_in, passed_at, passed_in, answer_at, answers_in, receipts_said}
use Rattle.rep_service.specs.Commanding.{Refuses, TellsOwn}
use Rattle.rep_service.specs.Living.{NotWrongCluster}

-- ---- kinds of lines

pub receipts_both : (a b : List Said) → receipts_in (a ++ b) ≡ receipts_in a ++ receipts_in b
receipts_both a b = flat_map-append receipt_in a b

pub passed_both : (a b : List Said) → passed_in (a ++ b) ≡ passed_in a ++ passed_in b
passed_both a b = flat_map-append passed_at a b

pub answers_both : (a b : List Said) → answers_in (a ++ b) ≡ answers_in a ++ answers_in b
answers_both a b = flat_map-append answer_at a b

-- neither has any
pub none_both : (a b : List Said) → passed_in a ≡ [] → passed_in b ≡ [] → passed_in (a ++ b) ≡ []
none_both a b one two = passed_both a b ∙ ap (λ l. l ++ passed_in b) one ∙ two

pub still_both : (a b : List Said) → receipts_in a ≡ [] → receipts_in b ≡ [] → receipts_in (a ++ b) ≡ []
still_both a b one two = receipts_both a b ∙ ap (λ l. l ++ receipts_in b) one ∙ two

-- receipts
pub given_said : (rs : List Reply) → receipts_in (receipts_said rs) ≡ rs
given_said [] = refl
given_said (r ∷ rs) = ap (λ l. r ∷ l) (given_said rs)

pub none_passed : (rs : List Reply) → passed_in (receipts_said rs) ≡ []
none_passed [] = refl
none_passed (r ∷ rs) = none_passed rs

pub none_answered : (rs : List Reply) → answers_in (receipts_said rs) ≡ []
none_answered [] = refl
none_answered (r ∷ rs) = none_answered rs

receipt_texts : (rs : List Reply) → lines_of (receipts_said rs) ≡ receipt_lines rs
receipt_texts [] = refl
receipt_texts (r ∷ rs) = ap (λ l. receipt_line r ++ l) (receipt_texts rs)

-- ---- what was written

pub writes_none : (text : Option (List ℕ)) (r : Result (Unit {0}) Refusal) → Writes [] text text r
writes_none text (Ok x) = Appends-nil text
writes_none text (Err e) = (0, Appends-nil text, λ own. refl)

pub writes_as : (said : List Said) (a b : Option (List ℕ)) (r : Result (Unit {0}) Refusal) → Writes said a b (Ok tt) → Writes said a b r
writes_as said a b (Ok x) w = w
writes_as said a b (Err e) w = (length (lines_of said), subst (Appends a b) (sym (take-length (lines_of said))) w, λ own. take-length (lines_of said))

pub writes_both : (s t : List Said) (a m b : Option (List ℕ)) (r : Result (Unit {0}) Refusal) → Writes s a m (Ok tt) → Writes t m b r → Writes (s ++ t) a b r
writes_both s t a m b (Ok x) one two = subst (Appends a b) (sym (flat_map-append line_of s t)) (Appends-trans a m b (lines_of s) (lines_of t) one two)
writes_both s t a m b (Err e) one (k, two, all) =
    let both = flat_map-append line_of s t in
    let cut : take (length (lines_of s) + k) (lines_of (s ++ t)) ≡ lines_of s ++ take k (lines_of t) = ap (take (length (lines_of s) + k)) both ∙ take-append-add (lines_of s) (lines_of t) k in
    (length (lines_of s) + k, subst (Appends a b) (sym cut) (Appends-trans a m b (lines_of s) (take k (lines_of t)) one two), λ own. cut ∙ ap (λ l. lines_of s ++ l) (all own) ∙ sym both)

-- all of it, where the writer did not fail
pub writes_whole : (said : List Said) (a b : Option (List ℕ)) (e : Refusal) → e ≢ StreamFault → Writes said a b (Err e) → Writes said a b (Ok tt)
writes_whole said a b e own (k, cut, whole) = subst (Appends a b) (whole own) cut

-- one line, as it is told
pub writes_told : (one : Said) (a b : Option (List ℕ)) (r : Result (Unit {0}) Refusal) → Tells (line_of one) a b r → IfErr r (λ e. e ≡ StreamFault) → Writes (one ∷ []) a b r
writes_told one a b (Ok x) told fault = subst (Appends a b) (sym (append-nil (line_of one))) told
writes_told one a b (Err e) told fault =
    let cut = subst (λ f. Tells (line_of one) a b (Err f)) fault told in
    (cut.0, subst (λ l. Appends a b (take cut.0 l)) (sym (append-nil (line_of one))) cut.1, λ own. absurd (own fault))

-- nothing was written, and it ended so
pub writes_kept : (a b : Option (List ℕ)) (r : Result (Unit {0}) Refusal) (e : Refusal) → r ≡ Err e → Keeps a b → Writes [] a b r
writes_kept a b r e is kept = subst (λ x. Writes [] a b x) (sym is) (0, Appends-kept a a b [] (Appends-nil a) kept, λ own. refl)

-- ---- receipts that were written

abbrev Wrote : List Reply → Option (List ℕ) → Option (List ℕ) → Refusal → Type 0
Wrote rs a b e = (e ≡ StreamFault) ⊎ Appends a b (receipt_lines rs)

wrote : (rs : List Reply) (a b : Option (List ℕ)) (e : Refusal) → Written rs a b (Err e) → Wrote rs a b e
wrote rs a b StreamFault w = inl refl
wrote rs a b OutOfMemory w = inr w
wrote rs a b DiskFault w = inr w
wrote rs a b Stopped w = inr w
wrote rs a b (OutOfOrder n) w = inr w
wrote rs a b Backlogged w = inr w
wrote rs a b LogFull w = inr w
wrote rs a b NotDue w = inr w
wrote rs a b (TooOld n) w = inr w
wrote rs a b (NotYet n) w = inr w
wrote rs a b BadKey w = inr w
wrote rs a b Undefined w = inr w
wrote rs a b NotFormatted w = inr w
wrote rs a b (Corrupt part) w = inr w
wrote rs a b (TooSmall n) w = inr w
wrote rs a b BadParams w = inr w
wrote rs a b (Malformed n) w = inr w
wrote rs a b TooManyReads w = inr w
wrote rs a b TooManyWrites w = inr w
wrote rs a b ValueTooLong w = inr w
wrote rs a b WrongCluster w = inr w
wrote rs a b (Ahead n) w = inr w
wrote rs a b Closed w = inr w
wrote rs a b Exhausted w = inr w

wrote_cut : (rs : List Reply) (a b : Option (List ℕ)) → Written rs a b (Err StreamFault) → Writes (receipts_said rs) a b (Err StreamFault)
wrote_cut rs a b (front, last, k, is, few, cut) =
    let split : receipt_lines rs ≡ receipt_lines front ++ receipt_lines last = ap receipt_lines is ∙ flat_map-append receipt_line front last in
    let at = length (receipt_lines front) + k in
    let here : take at (lines_of (receipts_said rs)) ≡ receipt_lines front ++ take k (receipt_lines last) =
    ap (take at) (receipt_texts rs ∙ split) ∙ take-append-add (receipt_lines front) (receipt_lines last) k in
    (at, subst (Appends a b) (sym here) cut, λ own. absurd (own refl))

pub writes_receipts : (rs : List Reply) (a b : Option (List ℕ)) (r : Result (Unit {0}) Refusal) → Written rs a b r → Writes (receipts_said rs) a b r
writes_receipts rs a b (Ok x) w = subst (Appends a b) (sym (receipt_texts rs)) w
writes_receipts rs a b (Err e) w = by (wrote rs a b e w)
  where
    by : Wrote rs a b e → Writes (receipts_said rs) a b (Err e)
    by (inl fault) = subst (λ f. Writes (receipts_said rs) a b (Err f)) (sym fault) (wrote_cut rs a b (subst (λ f. Written rs a b (Err f)) fault w))
    by (inr whole) = writes_as (receipts_said rs) a b (Err e) (subst (Appends a b) (sym (receipt_texts rs)) whole)

-- ---- it is not refused as another cluster's

pub own_ok : NotWrongCluster (Ok tt)
own_ok is = cc

pub own_by : (e : Refusal) → e ≢ WrongCluster → NotWrongCluster (Err e)
own_by e other is = other (let same : e ≡ WrongCluster = cc in same)

pub own_fault : (e : Refusal) → e ≡ StreamFault → e ≢ WrongCluster
own_fault e fault is = absurd (let never : StreamFault ≡ WrongCluster = sym fault ∙ is in cc)

-- ---- one line of a kind

-- At most one line was said, of this kind: one where it ended well.
pub record One (IsOne : Said → Type 0) (a b : Option (List ℕ)) (r : Result (Unit {0}) Refusal) : Type 0 where
  pub said : List Said
  pub writes : Writes said a b r
  pub still : receipts_in said ≡ []
  pub none : passed_in said ≡ []
  pub only : (said ≡ []) ⊎ ((one : Said) × (said ≡ one ∷ []) × IsOne one)
  pub cut : (answers_in said ≡ []) ⊎ ((one : Said) × (answers_in said ≡ one ∷ []) × IsOne one)
  pub all : OnOk r ((one : Said) × (answers_in said ≡ one ∷ []) × IsOne one)

pub on_all : {T : Type 0} {P : Type 0} (r : Result T Refusal) → P → OnOk r P
on_all (Ok x) p = p
on_all (Err e) p = tt

pub one_said : (IsOne : Said → Type 0) (one : Said) (a b : Option (List ℕ)) (r : Result (Unit {0}) Refusal) → receipt_in one ≡ [] → passed_at one ≡ [] → answer_at one ≡ one ∷ [] → IsOne one → Tells (line_of one) a b r → IfErr r (λ e. e ≡ StreamFault) → One IsOne a b r
one_said IsOne one a b r no_receipt not_passed answer is told fault =
    let said : (x : Said) × (answers_in (one ∷ []) ≡ x ∷ []) × IsOne x = (one, ap (λ l. l ++ []) answer, is) in
    record {
      said = one ∷ [];
      writes = writes_told one a b r told fault;
      still = ap (λ l. l ++ []) no_receipt;
      none = ap (λ l. l ++ []) not_passed;
      only = inr (one, refl, is);
      cut = inr said;
      all = on_all r said;
    }

one_refused : (IsOne : Said → Type 0) (e : Refusal) (a b : Option (List ℕ)) (r : Result (Unit {0}) Refusal) → IsOne (Refused e) → Tells (line_of (Refused e)) a b r × IfErr r (λ f. f ≡ StreamFault) → One IsOne a b r
one_refused IsOne e a b r is told = one_said IsOne (Refused e) a b r refl refl refl is told.0 told.1

one_none : (IsOne : Said → Type 0) (e : Refusal) (a b : Option (List ℕ)) (r : Result (Unit {0}) Refusal) → (r ≡ Err e) × Keeps a b → One IsOne a b r
one_none IsOne e a b r ends = record {
  said = [];
  writes = writes_kept a b r e ends.0 ends.1;
  still = refl;
  none = refl;
  only = inl refl;
  cut = inl refl;
  all = subst (λ x. OnOk x ((one : Said) × (answers_in [] ≡ one ∷ []) × IsOne one)) (sym ends.0) tt;
}

pub one_refuses : (IsOne : Said → Type 0) (e : Refusal) (a b : Option (List ℕ)) (r : Result (Unit {0}) Refusal) → ((f : Refusal) → IsOne (Refused f)) → Refuses e a b r → One IsOne a b r
one_refuses IsOne DiskFault a b r any ends = one_none IsOne DiskFault a b r ends
one_refuses IsOne Stopped a b r any ends = one_none IsOne Stopped a b r ends
one_refuses IsOne OutOfMemory a b r any told = one_refused IsOne OutOfMemory a b r (any OutOfMemory) told
one_refuses IsOne (OutOfOrder n) a b r any told = one_refused IsOne (OutOfOrder n) a b r (any (OutOfOrder n)) told
one_refuses IsOne Backlogged a b r any told = one_refused IsOne Backlogged a b r (any Backlogged) told
one_refuses IsOne LogFull a b r any told = one_refused IsOne LogFull a b r (any LogFull) told
one_refuses IsOne NotDue a b r any told = one_refused IsOne NotDue a b r (any NotDue) told
one_refuses IsOne (TooOld n) a b r any told = one_refused IsOne (TooOld n) a b r (any (TooOld n)) told
one_refuses IsOne (NotYet n) a b r any told = one_refused IsOne (NotYet n) a b r (any (NotYet n)) told
one_refuses IsOne BadKey a b r any told = one_refused IsOne BadKey a b r (any BadKey) told
one_refuses IsOne Undefined a b r any told = one_refused IsOne Undefined a b r (any Undefined) told
one_refuses IsOne NotFormatted a b r any told = one_refused IsOne NotFormatted a b r (any NotFormatted) told
one_refuses IsOne (Corrupt part) a b r any told = one_refused IsOne (Corrupt part) a b r (any (Corrupt part)) told
one_refuses IsOne (TooSmall n) a b r any told = one_refused IsOne (TooSmall n) a b r (any (TooSmall n)) told
one_refuses IsOne BadParams a b r any told = one_refused IsOne BadParams a b r (any BadParams) told
one_refuses IsOne (Malformed n) a b r any told = one_refused IsOne (Malformed n) a b r (any (Malformed n)) told
one_refuses IsOne TooManyReads a b r any told = one_refused IsOne TooManyReads a b r (any TooManyReads) told
one_refuses IsOne TooManyWrites a b r any told = one_refused IsOne TooManyWrites a b r (any TooManyWrites) told
one_refuses IsOne ValueTooLong a b r any told = one_refused IsOne ValueTooLong a b r (any ValueTooLong) told
one_refuses IsOne WrongCluster a b r any told = one_refused IsOne WrongCluster a b r (any WrongCluster) told
one_refuses IsOne (Ahead n) a b r any told = one_refused IsOne (Ahead n) a b r (any (Ahead n)) told
one_refuses IsOne Closed a b r any told = one_refused IsOne Closed a b r (any Closed) told
one_refuses IsOne Exhausted a b r any told = one_refused IsOne Exhausted a b r (any Exhausted) told
one_refuses IsOne StreamFault a b r any told = one_refused IsOne StreamFault a b r (any StreamFault) told

-- what it says of itself, or why that is refused
pub one_own : (IsOwn IsOne : Said → Type 0) (a b : Option (List ℕ)) (r : Result (Unit {0}) Refusal) → ((f : Refusal) → IsOne (Refused f)) → TellsOwn IsOwn a b r
    → ((one : Said) → IsOwn one → Tells (line_of one) a b r → IfErr r (λ e. e ≡ StreamFault) → One IsOne a b r) → One IsOne a b r
one_own IsOwn IsOne a b r any t own = by t.is
  where
    by : IsOwn t.said ⊎ ((e : Refusal) × (t.said ≡ Refused e)) → One IsOne a b r
    by (inl is) = own t.said is t.told t.fault
    by (inr (e, is)) = one_refused IsOne e a b r (any e) (subst (λ s. Tells (line_of s) a b r) is t.told, t.fault)
