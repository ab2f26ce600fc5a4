-- Values that are spelled one after another.
use Rattle.std.proofs.Common.{◌≡◌, ℕ, zero, suc, ◌-◌, ◌<◌, List, [], ◌∷◌, ◌++◌, length, drop, Option, Some, None, refl, sym, ap, subst, ◌∙◌, append_assoc, arith}
use Rattle.std.specs.Prelude.{IsTrue, is_some}
use Rattle.std.specs.List.{flat_map, AllByRecursion}
use Rattle.std.proofs.lemmas.List.{drop_at, length-append}
use Rattle.std.proofs.lemmas.List.Concat.{flat_map-cons}
use Rattle.std.proofs.lemmas.Option.{same_Some}
use Rattle.rep_forms.specs.Forms.{Form, IsForm, each}
use Rattle.rep_forms.specs.FormLaws.{each_again, run_more, all_more}
use Rattle.rep_forms.specs.Told.{AreTold}
use Rattle.rep_forms.specs.Runs.{Leads, Follow, SpelledTo, EndsAt, StopsAt, IsChain, values_in}

-- one more value leads on
pub leads_more : {S A : Type 0} (step : S → A → Option S) (s : S) (xs : List A) (t : S) (x : A) (u : S) → Leads step s xs t → step t x ≡ Some u → Leads step s (xs ++ x ∷ []) u
leads_more step s [] t x u h e = (u, subst (λ r. step r x ≡ Some u) (sym h) e, refl)
leads_more step s (y ∷ xs) t x u h e = (h.0, h.1, leads_more step h.0 xs t x u h.2 e)

-- where the first of them lead, the others follow from there
pub follow_from : {S A : Type 0} (step : S → A → Option S) (s t : S) (xs ys : List A) → Leads step s xs t → Follow step s (xs ++ ys) → Follow step t ys
follow_from {S} {A} step s t [] ys h f = subst (λ (r : S). Follow step r ys) h f
follow_from {S} {A} step s t (x ∷ xs) ys h f = follow_from step h.0 t xs ys h.2 (f.0, rw (same_Some f.1.0 h.0 (sym f.1.1 ∙ h.1)) at f.1.2)

-- so a value that isn't allowed stops them
pub never_follow : {S A : Type 0} (step : S → A → Option S) (s t : S) (xs ys : List A) (x : A) → Leads step s xs t → step t x ≡ None → Follow step s (xs ++ x ∷ ys) → ⊥
never_follow step s t xs ys x h none f =
    let g = follow_from step s t xs (x ∷ ys) h f in
    let some = sym none ∙ g.1.1 in
    absurd cc

-- the bytes up to one more value
pub spelled_more : {A : Type 0} (F : Form A) (bytes : List ℕ) (at : ℕ) (xs : List A) (x : A) (rest : List ℕ) → SpelledTo F bytes at xs → F.Fits x → drop at bytes ≡ F.spell x ++ rest
    → SpelledTo F bytes (length bytes - length rest) (xs ++ x ∷ [])
spelled_more F bytes at xs x rest h fits e =
    let whole : bytes ≡ flat_map F.spell (xs ++ x ∷ []) ++ rest = h.there ∙ rw (e, run_more F.spell xs x, append_assoc) refl in
    let size : length bytes - length rest ≡ length (flat_map F.spell (xs ++ x ∷ [])) = omega (arith, ap length whole, length-append (flat_map F.spell (xs ++ x ∷ [])) rest) in
    let behind : drop (length bytes - length rest) bytes ≡ rest = ap (drop (length bytes - length rest)) whole ∙ drop_at (flat_map F.spell (xs ++ x ∷ [])) rest (length bytes - length rest) (sym size) in
    record {
      each = all_more F.Fits xs x h.each fits;
      place = size;
      there = whole ∙ ap (λ (tail : List ℕ). flat_map F.spell (xs ++ x ∷ []) ++ tail) (sym behind);
    }

-- ---- what is spelled so is read

-- spellings are told apart
pub told : {A : Type 0} (F : Form A) → IsForm F → AreTold F
told F f x y rest tail fits also e =
    let same = sym (f.again x rest fits) ∙ ap F.read e ∙ f.again y tail also in
    (grind (arith, same), grind (arith, same))

-- a chain is read as it is
pub chain_again : {S A : Type 0} {F : Form A} {step : S → A → Option S} {s : S} {count : ℕ} {bytes : List ℕ} {xs : List A} {rest : List ℕ} → IsForm F → IsChain F step s count bytes xs rest → each F.read count bytes ≡ Some (xs, rest)
chain_again {F = F} {xs = xs} {rest = rest} f h = rw (h.there, ← h.size) (each_again F f xs rest h.each)

-- so there is one
pub chain_only : {S A : Type 0} {F : Form A} {step : S → A → Option S} {s : S} {count : ℕ} {bytes : List ℕ} {xs ys : List A} {rest tail : List ℕ} → IsForm F
    → IsChain F step s count bytes xs rest → IsChain F step s count bytes ys tail → (xs ≡ ys) × (rest ≡ tail)
chain_only f h k =
    let same = sym (chain_again f h) ∙ chain_again f k in
    (grind (arith, same), grind (arith, same))

-- and it ends where the values end
pub chain_to : {S A : Type 0} {F : Form A} {step : S → A → Option S} {s : S} {count : ℕ} {bytes : List ℕ} {at : ℕ} → (h : EndsAt F step s count bytes at) → IsChain F step s count bytes h.values (drop at bytes)
chain_to h = record { size = h.size; each = h.spelled.each; follow = h.follow; there = h.spelled.there }

-- so the values that are handed out are a chain
pub is_chain : {S A : Type 0} {F : Form A} {step : S → A → Option S} {s : S} {count : ℕ} {bytes : List ℕ} {at : ℕ} → IsForm F → EndsAt F step s count bytes at → IsChain F step s count bytes (values_in F.read count bytes) (drop at bytes)
is_chain f h = rw (chain_again f (chain_to h)) (chain_to h)

-- as many values as were asked for are read
length-each : {A : Type 0} (read : List ℕ → Option (A × List ℕ)) (n : ℕ) (bytes : List ℕ) (y : List A × List ℕ) → each read n bytes ≡ Some y → length y.0 ≡ n
unfolding each
length-each read zero bytes y e = grind (arith, e)
length-each read (suc n) bytes y e = grind (arith, e, length-each read n)

-- the values that are handed out are as many as are left
pub values_left : {A : Type 0} (read : List ℕ → Option (A × List ℕ)) (n : ℕ) (bytes : List ℕ) → IsTrue (is_some (each read n bytes)) → length (values_in read n bytes) ≡ n
values_left read n bytes h = grind (arith, length-each read n bytes)

-- a value that is spelled there and allowed
record Next {S A : Type 0} (F : Form A) (step : S → A → Option S) (t : S) (bytes : List ℕ) : Type 0 where
  value : A
  fits : F.Fits value
  to : S
  allowed : step t value ≡ Some to
  rest : List ℕ
  there : bytes ≡ F.spell value ++ rest

-- behind fewer values than a chain has, the next of them is there
next_of : {S A : Type 0} (F : Form A) (step : S → A → Option S) → IsForm F → (before xs : List A) (s t : S) (bytes rest : List ℕ) → AllByRecursion F.Fits before → Leads step s before t → AllByRecursion F.Fits xs → Follow step s xs
    → length before < length xs → flat_map F.spell before ++ bytes ≡ flat_map F.spell xs ++ rest → Next F step t bytes
next_of F step f [] [] s t bytes rest fits leads also follow lt e = absurd (omega (arith, lt))
next_of {S = S} F step f [] (x ∷ xs) s t bytes rest fits leads also follow lt e = record {
  value = x;
  fits = also.0;
  to = follow.1.0;
  allowed = subst (λ (r : S). step r x ≡ Some follow.1.0) leads follow.1.1;
  rest = flat_map F.spell xs ++ rest;
  there = e ∙ ap (λ (front : List ℕ). front ++ rest) (flat_map-cons F.spell x xs) ∙ append_assoc (F.spell x) (flat_map F.spell xs) rest;
}
next_of F step f (b ∷ before) [] s t bytes rest fits leads also follow lt e = absurd (omega (arith, lt))
next_of {S = S} {A = A} F step f (b ∷ before) (x ∷ xs) s t bytes rest fits leads also follow lt e =
    let apart = told F f b x (flat_map F.spell before ++ bytes) (flat_map F.spell xs ++ rest) fits.0 also.0 (grind (arith, e, flat_map-cons, append_assoc)) in
    let same : leads.0 ≡ follow.1.0 = same_Some leads.0 follow.1.0 (sym leads.1 ∙ ap (step s) apart.0 ∙ follow.1.1) in
    let behind : Leads step follow.1.0 before t = subst (λ (r : S). Leads step r before t) same leads.2 in
    next_of F step f before xs follow.1.0 t bytes rest fits.1 behind also.1 (follow.0, follow.1.2) (omega (arith, lt)) apart.1

-- so a chain stops nowhere
pub never_stops : {S A : Type 0} {F : Form A} {step : S → A → Option S} {s : S} {count : ℕ} {bytes : List ℕ} {at : ℕ} {xs : List A} {rest : List ℕ} → IsForm F
    → IsChain F step s count bytes xs rest → StopsAt F step s count bytes at → ⊥
never_stops {F = F} {step = step} {s = s} {bytes = bytes} {at = at} {xs = xs} {rest = rest} f h stop =
    let next = next_of F step f stop.before xs s stop.state (drop at bytes) rest stop.spelled.each stop.leads h.each h.follow (omega (arith, stop.fewer, h.size)) (sym stop.spelled.there ∙ h.there) in
    stop.none next.value next.rest next.to next.fits next.allowed next.there
