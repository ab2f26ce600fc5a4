-- What is written of a donation, one part after another.
use Rattle.std.proofs.Common.{◌≡◌, ℕ, zero, suc, ◌+◌, ◌≤◌, ◌<◌, List, [], ◌∷◌, ◌++◌, length, take, Option, Result, Ok, Err, inl, inr, sym, ap, subst, ◌∙◌, append_assoc, arith, length-append}
use Rattle.std.specs.Prelude.{OnOk, OnErr, replicate}
use Rattle.std.specs.List.{AllByRecursion}
use Rattle.std.specs.Io.KnownBytes.{Appends}
use Rattle.std.proofs.KnownBytes.{Appends-nil, Appends-trans}
use Rattle.std.proofs.Math.Seq.{take-append-add, take-append-le}
use Rattle.std.proofs.lemmas.List.{take_all}
use Rattle.std.proofs.lemmas.Bool.{cases_lt}
use Rattle.rep_types.specs.declared.refusal.Refusal.{Refusal}
use Rattle.rep_types.proofs.Lists.{all_push, all_at}
use Rattle.rep_transfer.specs.Writing.{Wrote}
use Rattle.rep_catchup.specs.Donating.{WroteFront, Writes}

-- ---- a part behind another

cut_behind : (a b c : Option (List ℕ)) (xs ys : List ℕ) (result : Result (Unit {0}) Refusal) → Appends a b xs → OnErr result ((k : ℕ) × (k < length ys) × Appends b c (take k ys)) → OnErr result ((k : ℕ) × (k < length (xs ++ ys)) × Appends a c (take k (xs ++ ys)))
cut_behind a b c xs ys (Ok x) first cut = tt
cut_behind a b c xs ys (Err e) first (k, less, cut) = (
  length xs + k,
  omega (arith, less, length-append xs ys),
  subst (Appends a c) (sym (take-append-add xs ys k)) (Appends-trans a b c xs (take k ys) first cut),
)

done_behind : (a b c : Option (List ℕ)) (xs ys : List ℕ) (result : Result (Unit {0}) Refusal) → Appends a b xs → OnOk result (Appends b c ys) → OnOk result (Appends a c (xs ++ ys))
done_behind a b c xs ys (Ok x) first done = Appends-trans a b c xs ys first done
done_behind a b c xs ys (Err e) first done = tt

pub wrote_behind : (a b c : Option (List ℕ)) (xs ys : List ℕ) (result : Result (Unit {0}) Refusal) → Appends a b xs → Wrote b c ys result → Wrote a c (xs ++ ys) result
wrote_behind a b c xs ys result first second = record {
  done = done_behind a b c xs ys result first second.done;
  cut = cut_behind a b c xs ys result first second.cut;
  refused = second.refused;
}

-- a writer that failed in a part failed in what begins with it
pub cut_before : (a b : Option (List ℕ)) (xs ys : List ℕ) (e : Refusal) → Wrote a b xs (Err e) → Wrote a b (xs ++ ys) (Err e)
cut_before a b xs ys e first =
    let k = first.cut.0 in
    let less : k < length xs = first.cut.1 in
    record {
      done = tt;
      cut = (k, omega (arith, less, length-append xs ys), subst (Appends a b) (sym (take-append-le k xs ys (omega (arith, less)))) first.cut.2);
      refused = first.refused;
    }

-- ---- fronts of what is written

pub front_none : (a : Option (List ℕ)) (xs : List ℕ) → WroteFront a a xs
front_none a xs = (0, Appends-nil a)

pub front_all : (a b : Option (List ℕ)) (xs : List ℕ) → Appends a b xs → WroteFront a b xs
front_all a b xs written = (length xs, subst (Appends a b) (sym (take_all (length xs) xs (omega arith))) written)

pub front_of_wrote : (a b : Option (List ℕ)) (xs : List ℕ) (e : Refusal) → Wrote a b xs (Err e) → WroteFront a b xs
front_of_wrote a b xs e wrote = (wrote.cut.0, wrote.cut.2)

-- a front of a front, which is no longer
front_of_front : (xs ys : List ℕ) (k : ℕ) → (m : ℕ) × (m ≤ length xs) × (take k xs ≡ take m (xs ++ ys))
front_of_front xs ys k = elim (cases_lt k (length xs)) [
  | inl below ↦ (k, omega (arith, below), sym (take-append-le k xs ys (omega (arith, below))))
  | inr past ↦ (length xs, omega arith, take_all k xs past ∙ sym (take-append-le (length xs) xs ys (omega arith) ∙ take_all (length xs) xs (omega arith)))
]

pub front_before : (a b : Option (List ℕ)) (xs ys : List ℕ) → WroteFront a b xs → WroteFront a b (xs ++ ys)
front_before a b xs ys (k, written) = let m = front_of_front xs ys k in (m.0, subst (Appends a b) m.2 written)

pub front_behind : (a b c : Option (List ℕ)) (xs ys : List ℕ) → Appends a b xs → WroteFront b c ys → WroteFront a c (xs ++ ys)
front_behind a b c xs ys first (k, written) = (length xs + k, subst (Appends a c) (sym (take-append-add xs ys k)) (Appends-trans a b c xs (take k ys) first written))

-- where something has to come behind it, it is not all
pub front_less : (a b : Option (List ℕ)) (xs ys : List ℕ) → 0 < length ys → WroteFront a b xs → (k : ℕ) × (k < length (xs ++ ys)) × Appends a b (take k (xs ++ ys))
front_less a b xs ys some (k, written) = let m = front_of_front xs ys k in (m.0, omega (arith, m.1, some, length-append xs ys), subst (Appends a b) m.2 written)

-- ---- what is written of one thing

-- the same by other words
pub writes_mapped : {A T : Type 0} (spell : A → List ℕ) (Is Js : A → Type 0) (Known Knows : T → A → Type 0) (a b : Option (List ℕ)) (result : Result T Refusal) → ((x : A) → Is x → Js x) → ((y : T) (x : A) → Is x → Known y x → Knows y x) → Writes spell Is Known a b result → Writes spell Js Knows a b result
writes_mapped spell Is Js Known Knows a b (Ok y) f g w = let (x, is, known, written) = w.done in record { done = (x, f x is, g y x is known, written); cut = tt }
writes_mapped spell Is Js Known Knows a b (Err e) f g w = let (x, is, front) = w.cut in record { done = tt; cut = (x, f x is, front) }

-- ---- many values, one after another

pub all_same : {A : Type 0} (P : A → Type 0) (x : A) (k : ℕ) → P x → AllByRecursion P (replicate k x)
all_same P x zero here = tt
all_same P x (suc k) here = (here, all_same P x k here)

-- what was written of them, and what is left
pub record Writing {A : Type 0} (P : A → Type 0) (spell : List A → List ℕ) (all left : List A) (old new : Option (List ℕ)) : Type 0 where
  pub gone : List A
  pub split : all ≡ gone ++ left
  pub fit : AllByRecursion P gone
  pub written : Appends old new (spell gone)

module _ {A : Type 0} (P : A → Type 0) (spell : List A → List ℕ) (joins : (xs ys : List A) → spell (xs ++ ys) ≡ spell xs ++ spell ys) (all : List A) where
  split_more : (gone left rest : List A) (x : A) → all ≡ gone ++ left → left ≡ x ∷ rest → all ≡ (gone ++ x ∷ []) ++ rest
  split_more gone left rest x split first = split ∙ ap (λ xs. gone ++ xs) first ∙ sym (append_assoc gone (x ∷ []) rest)

  pub writing_more : (left rest : List A) (x : A) (bytes : List ℕ) (old mid new : Option (List ℕ)) → spell (x ∷ []) ≡ bytes → Writing P spell all left old mid → left ≡ x ∷ rest → P x → Appends mid new bytes → Writing P spell all rest old new
  writing_more left rest x bytes old mid new one w first fits written = record {
    gone = w.gone ++ x ∷ [];
    split = split_more w.gone left rest x w.split first;
    fit = all_push P w.gone x w.fit fits;
    written = subst (Appends old new) (sym (joins w.gone (x ∷ []))) (Appends-trans old mid new (spell w.gone) (spell (x ∷ [])) w.written (subst (Appends mid new) (sym one) written));
  }

  -- the writer failed at this one
  pub writing_cut : (left rest : List A) (x : A) (bytes : List ℕ) (old mid new : Option (List ℕ)) (e : Refusal) → spell (x ∷ []) ≡ bytes → Writing P spell all left old mid → left ≡ x ∷ rest → Wrote mid new bytes (Err e) → Wrote old new (spell all) (Err e)
  writing_cut left rest x bytes old mid new e one w first cut =
      let both : spell all ≡ (spell w.gone ++ spell (x ∷ [])) ++ spell rest = ap spell (split_more w.gone left rest x w.split first) ∙ joins (w.gone ++ x ∷ []) rest ∙ ap (λ xs. xs ++ spell rest) (joins w.gone (x ∷ [])) in
      let here : Wrote mid new (spell (x ∷ [])) (Err e) = subst (λ xs. Wrote mid new xs (Err e)) (sym one) cut in
      subst (λ xs. Wrote old new xs (Err e)) (sym both) (cut_before old new (spell w.gone ++ spell (x ∷ [])) (spell rest) e (wrote_behind old mid new (spell w.gone) (spell (x ∷ [])) (Err e) w.written here))

-- the next one is one of all
pub next_is : {A : Type 0} (P : A → Type 0) (spell : List A → List ℕ) (all left rest : List A) (x : A) (old mid : Option (List ℕ)) → Writing P spell all left old mid → left ≡ x ∷ rest → AllByRecursion P all → P x
next_is P spell all left rest x old mid w first fit = all_at P w.gone x rest (subst (AllByRecursion P) (w.split ∙ ap (λ xs. w.gone ++ xs) first) fit)
