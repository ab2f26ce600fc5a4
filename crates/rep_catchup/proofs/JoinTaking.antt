-- What was taken of a reader, and what else the same bytes could have been.
use Rattle.std.proofs.Common.{◌≡◌, ℕ, ◌+◌, ◌≤◌, ◌<◌, ◌^◌, List, [], ◌∷◌, ◌++◌, length, Option, None, Some, Result, Ok, refl, sym, ap, subst, ◌∙◌, append_assoc, arith, length-append}
use Rattle.std.specs.Prelude.{IfOk, IfSome}
use Rattle.std.specs.List.{flat_map, AllByRecursion}
use Rattle.std.specs.Io.KnownBytes.{Consumes}
use Rattle.std.proofs.KnownBytes.{Consumes-nil, Consumes-trans}
use Rattle.rep_types.specs.declared.refusal.Refusal.{Refusal}
use Rattle.rep_types.proofs.Lists.{all_behind, same_first as same_cons}
use Rattle.rep_forms.specs.Forms.{Form, IsForm, number, number_bytes}
use Rattle.rep_forms.specs.FormLaws.{number_is_form}
use Rattle.rep_record.specs.Records.{record_form, record_bytes}
use Rattle.rep_record.specs.RecordLaws.{record_is_form}
use Rattle.rep_transfer.specs.declared.part.Part.{Part}
use Rattle.rep_transfer.specs.declared.part.Part.TheVariants.{Snapshot, Record, End}
use Rattle.rep_transfer.specs.Taking.{counted, BeginWithNone, Takes, TakesOne}
use Rattle.rep_transfer.specs.Transfers.{PartFits, part_bytes}
use Rattle.rep_catchup.specs.Snapshots.{Took}

-- ---- how many bytes were taken

pub counted_small : (at : ℕ) → at < 2 ^ 64 → counted at 0 ≡ at
counted_small at small = omega (arith, small)

pub counted_both : (a b c n m : ℕ) → counted b 0 ≡ counted a n → counted c 0 ≡ counted b m → counted c 0 ≡ counted a (n + m)
counted_both a b c n m first second = omega (arith, first, second)

pub took_none : (now : ℕ) (before : Option (List ℕ)) → Took now now before before []
took_none now before = record { taken = Consumes-nil before; counts = refl }

pub took_one : (start now : ℕ) (before left : Option (List ℕ)) (bytes : List ℕ) → Consumes before left bytes → now ≡ counted start (length bytes) → Took start now before left bytes
took_one start now before left bytes taken counts = record { taken = taken; counts = omega (arith, counts) }

pub took_then : (start mid now : ℕ) (before between left : Option (List ℕ)) (one two : List ℕ) → Took start mid before between one → Took mid now between left two → Took start now before left (one ++ two)
took_then start mid now before between left one two first second = record {
  taken = Consumes-trans before between left one two first.taken second.taken;
  counts = counted_both start mid now (length one) (length two) first.counts second.counts ∙ ap (counted start) (omega (arith, length-append one two));
}

-- ---- one piece

pub consumed : {A : Type 0} (Fits : A → Type 0) (spell : A → List ℕ) (a b : Option (List ℕ)) (x : A) (result : Result (Option A) Refusal) → result ≡ Ok (Some x) → IfSome a (λ bytes. TakesOne Fits spell bytes b result) → Consumes a b (spell x)
consumed Fits spell None b x result is h = tt
consumed {A} Fits spell (Some bytes) b x result is h =
    let t : Takes Fits spell x bytes b = subst (λ (r : Result (Option A) Refusal). TakesOne Fits spell bytes b r) is h in
    subst (λ (o : Option (List ℕ)). Consumes (Some bytes) o (spell x)) (sym t.left_is) t.front

pub none_found : {A : Type 0} (Fits : A → Type 0) (spell : A → List ℕ) (a b : Option (List ℕ)) (found : Option A) (result : Result (Option A) Refusal) → result ≡ Ok found → found ≡ None → IfSome a (λ bytes. TakesOne Fits spell bytes b result) → IfSome a (BeginWithNone Fits spell)
none_found Fits spell None b found result is none h = tt
none_found {A} Fits spell (Some bytes) b found result is none h = subst (λ (r : Result (Option A) Refusal). TakesOne Fits spell bytes b r) (is ∙ ap Ok none) h

pub found_fits : {A : Type 0} (Fits : A → Type 0) (x : A) (result : Result (Option A) Refusal) → result ≡ Ok (Some x) → IfOk result (λ found. IfSome found Fits) → Fits x
found_fits {A} Fits x result is h = subst (λ (r : Result (Option A) Refusal). IfOk r (λ found. IfSome found Fits)) is h

pub counts_of : {A : Type 0} (spell : A → List ℕ) (start now n : ℕ) (x : A) (result : Result (Option A) Refusal) → result ≡ Ok (Some x) → length (spell x) ≡ n → IfOk result (λ found. IfSome found (λ y. now ≡ counted start (length (spell y)))) → now ≡ counted start n
counts_of {A} spell start now n x result is size counts = subst (λ (r : Result (Option A) Refusal). IfOk r (λ found. IfSome found (λ y. now ≡ counted start (length (spell y))))) is counts ∙ ap (counted start) size

pub took_piece : {A : Type 0} (Fits : A → Type 0) (spell : A → List ℕ) (start now : ℕ) (a b : Option (List ℕ)) (x : A) (result : Result (Option A) Refusal) → result ≡ Ok (Some x) → IfSome a (λ bytes. TakesOne Fits spell bytes b result)
    → IfOk result (λ found. IfSome found (λ y. now ≡ counted start (length (spell y)))) → Took start now a b (spell x)
took_piece {A} Fits spell start now a b x result is known counts =
    took_one start now a b (spell x) (consumed Fits spell a b x result is known) (subst (λ (r : Result (Option A) Refusal). IfOk r (λ found. IfSome found (λ y. now ≡ counted start (length (spell y))))) is counts)

-- ---- lists

-- ---- what the same bytes could have been

abbrev first_in : {A B : Type 0} → A → Option (A × B) → A
first_in x None = x
first_in x (Some pair) = pair.0

abbrev second_in : {A B : Type 0} → B → Option (A × B) → B
second_in y None = y
second_in y (Some pair) = pair.1

some_pair : {A B : Type 0} (x y : A) (r t : B) → ◌≡◌ {A = Option (A × B)} (Some (x, r)) (Some (y, t)) → (x ≡ y) × (r ≡ t)
some_pair x y r t is = (ap (first_in x) is, ap (second_in r) is)

module _ {A : Type 0} (F : Form A) (form : IsForm F) where
  pub same_first : (x y : A) (rest more : List ℕ) → F.Fits x → F.Fits y → F.spell x ++ rest ≡ F.spell y ++ more → (x ≡ y) × (rest ≡ more)
  same_first x y rest more one two is =
      some_pair x y rest more (sym (form.again x rest one) ∙ ap F.read is ∙ form.again y more two)

  -- the first of more values are those that were taken, and the others stand in what is left
  pub same_front : (xs ys : List A) (rest more : List ℕ) → AllByRecursion F.Fits xs → AllByRecursion F.Fits ys → length xs ≤ length ys → flat_map F.spell xs ++ rest ≡ flat_map F.spell ys ++ more
      → (zs : List A) × (ys ≡ xs ++ zs) × (rest ≡ flat_map F.spell zs ++ more)
  same_front [] ys rest more one two few is = (ys, refl, is)
  same_front (x ∷ xs) [] rest more one two few is = absurd (omega (arith, few))
  same_front (x ∷ xs) (y ∷ ys) rest more one two few is =
      let first = same_first x y (flat_map F.spell xs ++ rest) (flat_map F.spell ys ++ more) one.0 two.0 (sym (append_assoc (F.spell x) (flat_map F.spell xs) rest) ∙ is ∙ append_assoc (F.spell y) (flat_map F.spell ys) more) in
      let behind = same_front xs ys rest more one.1 two.1 (omega (arith, few)) first.1 in
      (behind.0, ap (λ (z : A). z ∷ ys) (sym first.0) ∙ ap (λ (zs : List A). x ∷ zs) behind.1, behind.2)

  -- where fewer were taken and no value stands, no more stood there
  pub none_more : (xs : List A) (count : ℕ) (first before : Option (List ℕ)) → Consumes first before (flat_map F.spell xs) → AllByRecursion F.Fits xs → length xs < count → IfSome before (BeginWithNone F.Fits F.spell)
      → IfSome first (λ bytes. (ys : List A) (rest : List ℕ) → length ys ≡ count → AllByRecursion F.Fits ys → bytes ≡ flat_map F.spell ys ++ rest → ⊥)
  none_more xs count None before taken fit few none = tt
  none_more xs count (Some bytes) None taken fit few none = absurd taken
  none_more xs count (Some bytes) (Some behind) taken fit few none = λ ys rest size fits is.
      let front = same_front xs ys behind rest fit fits (omega (arith, few, size)) (sym taken ∙ is) in
      stands front.0 (omega (arith, ap length front.1, length-append xs front.0, few, size)) (all_behind F.Fits xs front.0 (subst (AllByRecursion F.Fits) front.1 fits)) behind rest front.2 none
    where
      stands : (zs : List A) → 0 < length zs → AllByRecursion F.Fits zs → (bytes rest : List ℕ) → bytes ≡ flat_map F.spell zs ++ rest → BeginWithNone F.Fits F.spell bytes → ⊥
      stands [] some fits bytes rest is none = omega (arith, some)
      stands (z ∷ zs) some fits bytes rest is none = none z (flat_map F.spell zs ++ rest) fits.0 (is ∙ append_assoc (F.spell z) (flat_map F.spell zs) rest)

-- a part is the one that stands there
pub same_part : (p q : Part) (rest more : List ℕ) → PartFits p → PartFits q → part_bytes p ++ rest ≡ part_bytes q ++ more → p ≡ q
same_part (Snapshot m) (Snapshot n) rest more one two is = ap Snapshot (same_first (number 8) (number_is_form 8) m n rest more one two ((same_cons 83 83 (number_bytes 8 m ++ rest) (number_bytes 8 n ++ more) is).1)).0
same_part (Snapshot m) (Record j) rest more one two is = absurd (omega (arith, (same_cons 83 73 (number_bytes 8 m ++ rest) (record_bytes j ++ more) is).0))
same_part (Snapshot m) (End n) rest more one two is = absurd (omega (arith, (same_cons 83 69 (number_bytes 8 m ++ rest) (number_bytes 8 n ++ more) is).0))
same_part (Record i) (Snapshot m) rest more one two is = absurd (omega (arith, (same_cons 73 83 (record_bytes i ++ rest) (number_bytes 8 m ++ more) is).0))
same_part (Record i) (Record j) rest more one two is = ap Record (same_first record_form record_is_form i j rest more one two ((same_cons 73 73 (record_bytes i ++ rest) (record_bytes j ++ more) is).1)).0
same_part (Record i) (End n) rest more one two is = absurd (omega (arith, (same_cons 73 69 (record_bytes i ++ rest) (number_bytes 8 n ++ more) is).0))
same_part (End n) (Snapshot m) rest more one two is = absurd (omega (arith, (same_cons 69 83 (number_bytes 8 n ++ rest) (number_bytes 8 m ++ more) is).0))
same_part (End n) (Record j) rest more one two is = absurd (omega (arith, (same_cons 69 73 (number_bytes 8 n ++ rest) (record_bytes j ++ more) is).0))
same_part (End m) (End n) rest more one two is = ap End (same_first (number 8) (number_is_form 8) m n rest more one two ((same_cons 69 69 (number_bytes 8 m ++ rest) (number_bytes 8 n ++ more) is).1)).0
