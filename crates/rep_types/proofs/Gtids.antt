-- GTIDs as texts: what is read is of the form, and what is of the form is read.
use Rattle.std.proofs.Common.{◌≡◌, ℕ, ◌<◌, ◌≤◌, ◌^◌, Bool, true, false, cond, leb, ltb, eqb, List, [], ◌∷◌, ◌++◌, append_assoc, length, length-append, take, drop, Option, None, Some, Result, Ok, Err, refl, sym, ap, ◌∙◌, arith, inl, inr}
use Rattle.std.specs.Prelude.{ℤ, pos, negsuc, codes, ◌⊎◌, ◌↔◌, ◌&&◌, IfOk, IfSome, IsOk, IsTrue}
use mir.Val.{SFits}
use mir.Syntax.{w64}
use Rattle.std.specs.Option.{option_map}
use Rattle.std.specs.Result.{OkIff, result_ok}
use Rattle.std.specs.Str.{bytes_eq}
use Rattle.std.specs.Fmt.{decimal, signed_decimal}
use Rattle.std.proofs.Math.Seq.{take-append_seam, drop-append_seam}
use Rattle.std.proofs.lemmas.Bool.{lt-ltb, le-ltb, ltb-true, ltb-false, le-leb, leb-true, eqb-true}
use Rattle.std.proofs.lemmas.Fmt.{decimal_is_IsNumeral, decimal_digit, length-decimal-le}
use Rattle.std.proofs.lemmas.List.{take-append-drop, length-take-le}
use Rattle.std.proofs.lemmas.Slice.Eq.{bytes_eq-Decides}
use Rattle.uuid.specs.Text.{lower, hyphenated_text, parsed}
use Rattle.uuid.proofs.TextLemmas.{by_index_length}
use Rattle.rep_types.specs.declared.refusal.Refusal.{Refusal}
use Rattle.rep_types.specs.declared.refusal.Refusal.TheVariants.{Malformed}
use Rattle.std.specs.Char.{is_digit}
use Rattle.std.specs.List.{list_all}
use Rattle.std.specs.Str.Parse.{digits_value}
use Rattle.rep_types.specs.Numbers.{given, number_in}
use Rattle.rep_types.proofs.Digits.{number_of, number_below}
use Rattle.rep_types.specs.Gtids.{Gtid, IsGtid, IsSeqno, is_seqno, seqno_in, uuid_in, gtid_of, gtid_with, gtid_in, gtid_text}

-- no value, where each would be absurd
pub none_if_never : {A : Type 0} → (o : Option A) → ((x : A) → o ≡ Some x → ⊥) → o ≡ None
none_if_never None h = refl
none_if_never (Some x) h = absurd (h x refl)

-- what was read as a seqno, by what its tests found
seqno_by : (text : List ℕ) (minus short : Bool) (o : Option ℕ) (n : ℤ) → (minus ≡ true → text ≡ codes "-1") → (short ≡ true → length text ≤ 19)
    → number_in (2 ^ 63) text ≡ o → cond minus (Some (negsuc 0)) (cond short (option_map pos o) None) ≡ Some n → IsSeqno text n
seqno_by text true short o (pos n) m s e h = absurd cc
seqno_by text true short o (negsuc n) m s e h = (let q : Some (negsuc 0) ≡ Some (negsuc n) = h in cc, m refl)
seqno_by text false true (Some k) (pos n) m s e h = (s refl, (let q : Some (pos k) ≡ Some (pos n) = h in cc))
seqno_by text false true (Some k) (negsuc n) m s e h = absurd cc
seqno_by text false true None n m s e h = absurd cc
seqno_by text false false o n m s e h = absurd cc

pub seqno_found : (text : List ℕ) (n : ℤ) → seqno_in text ≡ Some n → IsSeqno text n
unfolding seqno_in
seqno_found text n e =
    seqno_by text (bytes_eq text (codes "-1")) (leb (length text) 19) (number_in (2 ^ 63) text) n (bytes_eq-Decides text (codes "-1")).0
    (λ s. leb-true (length text) 19 s) refl e

-- `-1` is no number
minus_is_no_number : number_in (2 ^ 63) (codes "-1") ≡ None
unfolding number_in
minus_is_no_number = refl

-- a number is not `-1`
not_minus : (text : List ℕ) (n : ℕ) (b : Bool) → bytes_eq text (codes "-1") ≡ b → number_in (2 ^ 63) text ≡ Some n → bytes_eq text (codes "-1") ≡ false
not_minus text n false e h = e
not_minus text n true e h =
    let same : text ≡ codes "-1" = (bytes_eq-Decides text (codes "-1")).0 e in
    absurd (let q : None ≡ Some n = sym minus_is_no_number ∙ ap (number_in (2 ^ 63)) (sym same) ∙ h in cc)

pub seqno_again : (text : List ℕ) (n : ℤ) → IsSeqno text n → seqno_in text ≡ Some n
unfolding seqno_in
seqno_again text (pos n) h = rw (not_minus text n (bytes_eq text (codes "-1")) refl h.1, le-leb (length text) 19 h.0, h.1) refl
seqno_again text (negsuc n) h = rw ((bytes_eq-Decides text (codes "-1")).1 h.1, h.0) refl

-- what stands behind the UUID of a GTID that was read
of_found : (uuid : List ℕ) (o : Option ℤ) (g : Gtid) → gtid_of uuid o ≡ Ok g → (uuid ≡ g.uuid) × (o ≡ Some g.seqno)
of_found uuid None g e = absurd cc
of_found uuid (Some n) g e =
    let f : record { uuid = uuid; seqno = n } ≡ g = cc in
    (ap (λ (x : Gtid). x.uuid) f, ap (λ (x : Gtid). Some x.seqno) f)

with_mark : (uuid : List ℕ) (mark : ℕ) (rest : List ℕ) (g : Gtid) (b : Bool) → eqb mark 58 ≡ b
    → cond b (gtid_of uuid (seqno_in rest)) (Err (Malformed 36)) ≡ Ok g → (uuid ≡ g.uuid) × (mark ≡ 58) × (seqno_in rest ≡ Some g.seqno)
with_mark uuid mark rest g false t e = absurd cc
with_mark uuid mark rest g true t e =
    let f = of_found uuid (seqno_in rest) g e in
    (f.0, eqb-true mark 58 t, f.1)

with_found : (u : Option (List ℕ)) (rest : List ℕ) (g : Gtid) → gtid_with u rest ≡ Ok g
    → (u ≡ Some g.uuid) × ((tail : List ℕ) × (rest ≡ 58 ∷ tail) × (seqno_in tail ≡ Some g.seqno))
with_found None rest g e = absurd cc
with_found (Some uuid) [] g e = absurd cc
with_found (Some uuid) (mark ∷ rest) g e =
    let f = with_mark uuid mark rest g (eqb mark 58) refl e in
    (ap Some f.0, (rest, ap (λ m. m ∷ rest) f.1, f.2))

-- where a UUID was read, 36 characters stand in front, and they are it
uuid_found : (text : List ℕ) (u : List ℕ) (b : Bool) → leb 36 (length text) ≡ b → cond b (parsed (take 36 text)) None ≡ Some u
    → (36 ≤ length text) × (parsed (take 36 text) ≡ Some u)
uuid_found text u true t e = (leb-true 36 (length text) t, e)
uuid_found text u false t e = absurd cc

pub gtid_found : (text : List ℕ) (g : Gtid) → gtid_in text ≡ Ok g → IsGtid text g
gtid_found text g e =
    let f = with_found (uuid_in text) (drop 36 text) g e in
    let u = uuid_found text g.uuid (leb 36 (length text)) refl f.0 in
    record {
      head = take 36 text;
      tail = f.1.0;
      whole = sym (take-append-drop 36 text) ∙ ap (λ rest. take 36 text ++ rest) f.1.1;
      size = length-take-le 36 text u.0;
      is_uuid = u.1;
      is_seqno = seqno_found f.1.0 g.seqno f.1.2;
    }

pub gtid_again : (text : List ℕ) (g : Gtid) → IsGtid text g → gtid_in text ≡ Ok g
gtid_again text g h =
    let front : take 36 text ≡ h.head = ap (take 36) h.whole ∙ ap (λ n. take n (h.head ++ 58 ∷ h.tail)) (sym h.size) ∙ take-append_seam h.head (58 ∷ h.tail) in
    let back : drop 36 text ≡ 58 ∷ h.tail = ap (drop 36) h.whole ∙ ap (λ n. drop n (h.head ++ 58 ∷ h.tail)) (sym h.size) ∙ drop-append_seam h.head (58 ∷ h.tail) in
    let long : 36 ≤ length text = rw h.whole (grind (arith, length-append, h.size)) in
    let uuid : uuid_in text ≡ Some g.uuid = rw (le-leb 36 (length text) long, front) h.is_uuid in
    rw (uuid, back, seqno_again h.tail g.seqno h.is_seqno) refl

-- a number below 2^63 reads back from its decimal text
decimal_again : (n : ℕ) → n < 2 ^ 63 → number_in (2 ^ 63) (decimal n) ≡ Some n
decimal_again n small =
    let d = decimal_is_IsNumeral n (omega arith) in
    number_of (2 ^ 63) (decimal n) n d.0 d.1 small

seqno_text : (s : ℤ) → (s ≡ negsuc 0) ⊎ ((n : ℕ) × (n < 2 ^ 63) × (s ≡ pos n)) → IsSeqno (signed_decimal s) s
seqno_text s (inl e) = rw e (refl, ap (λ ds. 45 ∷ ds) (decimal_digit 1 (omega arith)))
seqno_text s (inr h) = rw h.2 (length-decimal-le 19 h.0 (omega arith) (omega (arith, h.1)) (omega (arith, h.1)), decimal_again h.0 h.1)

-- what a GTID's seqno is
seqno_cases : (s : ℤ) → IsTrue (is_seqno s) → (s ≡ negsuc 0) ⊎ ((n : ℕ) × (n < 2 ^ 63) × (s ≡ pos n))
seqno_cases (pos n) is = inr (n, ltb-true n (2 ^ 63) is, refl)
seqno_cases (negsuc n) is = inl (ap negsuc (eqb-true n 0 is))

-- what was read as a number below a limit is below it
given_small : (a b : Bool) (v limit n : ℕ) → ltb v limit ≡ b → given (a && b) v ≡ Some n → n < limit
given_small true true v limit n t e = let same : v ≡ n = cc in omega (arith, same, ltb-true v limit t)
given_small true false v limit n t e = absurd cc
given_small false b v limit n t e = absurd cc

number_small : (limit : ℕ) (word : List ℕ) (n : ℕ) → number_in limit word ≡ Some n → n < limit
unfolding number_in
number_small limit word n e =
    let v = digits_value 10 word in
    given_small (ltb 0 (length word) && list_all (λ (c : ℕ). is_digit c 10) word) (ltb v limit) v limit n refl e

-- a seqno that a text can have is a GTID's
is_seqno-from_text : (text : List ℕ) (s : ℤ) → IsSeqno text s → IsTrue (is_seqno s)
is_seqno-from_text text (pos n) is = lt-ltb n (2 ^ 63) (number_small (2 ^ 63) text n is.1)
is_seqno-from_text text (negsuc n) is = ap (λ m. eqb m 0) is.0

-- so is each that is read
pub seqno_limit : (text : List ℕ) (o : Option ℤ) → o ≡ seqno_in text → IfSome o (λ s. IsTrue (is_seqno s))
seqno_limit text None e = tt
seqno_limit text (Some s) e = is_seqno-from_text text s (seqno_found text s (sym e))

-- what a GTID is written as reads back as that GTID
pub gtid_back : (g : Gtid) → Some g.uuid ≡ parsed (hyphenated_text lower g.uuid) → IsTrue (is_seqno g.seqno) → gtid_in (gtid_text g) ≡ Ok g
gtid_back g own seqno = gtid_again (gtid_text g) g (record {
  head = hyphenated_text lower g.uuid;
  tail = signed_decimal g.seqno;
  whole = append_assoc (hyphenated_text lower g.uuid) (codes ":") (signed_decimal g.seqno);
  size = by_index_length 36 _;
  is_uuid = sym own;
  is_seqno = seqno_text g.seqno (seqno_cases g.seqno seqno);
})

-- what a reader gives that reads so is of the form
pub found_all : (text : List ℕ) (r : Result Gtid Refusal) → r ≡ gtid_in text → IfOk r (λ g. IsGtid text g)
found_all text (Ok g) e = gtid_found text g (sym e)
found_all text (Err x) e = tt

uuid_none_by : (b : Bool) (o : Option (List ℕ)) → ((u : List ℕ) → o ≡ Some u → ⊥) → cond b o None ≡ None
uuid_none_by true o h = none_if_never o h
uuid_none_by false o h = refl

-- the same of a UUID in the first characters: it is there, or it is not
pub uuid_none : (text : List ℕ) → ((u : List ℕ) × (parsed (take 36 text) ≡ Some u) → ⊥) → uuid_in text ≡ None
uuid_none text h = uuid_none_by (leb 36 (length text)) (parsed (take 36 text)) (λ u e. h (u, e))

large_by : (n : ℕ) (b : Bool) → ltb n (2 ^ 63) ≡ b → (SFits w64 (pos n) → ⊥) → 2 ^ 63 ≤ n
large_by n true e h = absurd (h (record { sfits = ltb-true n (2 ^ 63) e }))
large_by n false e h = ltb-false n (2 ^ 63) e

large : (n : ℕ) → (SFits w64 (pos n) → ⊥) → 2 ^ 63 ≤ n
large n h = large_by n (ltb n (2 ^ 63)) refl h

-- a number below 2^64 as a seqno: it is one where it is below 2^63
pub narrowed : {E : Type 0} (text : List ℕ) (n : ℕ) (r : Result ℤ E) → Some n ≡ number_in (2 ^ 64) text → OkIff r (SFits w64 (pos n)) (pos n)
    → result_ok r ≡ option_map pos (number_in (2 ^ 63) text)
narrowed text n (Ok x) e h =
    let small : n < 2 ^ 63 = h.0.sfits in
    rw (number_below (2 ^ 63) (2 ^ 64) text (omega arith), ← e, lt-ltb n (2 ^ 63) small) (ap Some h.1)
narrowed text n (Err e) f h =
    rw (number_below (2 ^ 63) (2 ^ 64) text (omega arith), ← f, le-ltb n (2 ^ 63) (large n h)) refl

-- what no number below 2^64 is, is none below 2^63
pub no_narrow : (text : List ℕ) → None ≡ number_in (2 ^ 64) text → None ≡ option_map pos (number_in (2 ^ 63) text)
no_narrow text e = rw (number_below (2 ^ 63) (2 ^ 64) text (omega arith), ← e) refl

-- a text of at most 19 bytes that is not `-1`
pub by_digits : (text : List ℕ) → false ≡ bytes_eq text (codes "-1") → length text ≤ 19 → seqno_in text ≡ option_map pos (number_in (2 ^ 63) text)
unfolding seqno_in
by_digits text e short = rw (← e, le-leb (length text) 19 short) refl

-- a UUID that is read of the first 36 characters
pub uuid_read : {E : Type 0} (text head : List ℕ) (r : Result (List ℕ) E) → 36 ≤ length text → head ≡ take 36 text
    → (IsOk r ↔ ((u : List ℕ) × (parsed head ≡ Some u))) → IfOk r (λ u. Some u ≡ parsed head) → result_ok r ≡ uuid_in text
uuid_read text head (Ok u) long e ok bytes = rw (le-leb 36 (length text) long, ← e) bytes
uuid_read text head (Err x) long e ok bytes = sym (uuid_none text (λ p. absurd (let q : false ≡ true = ok.1 (rw e p) in cc)))
