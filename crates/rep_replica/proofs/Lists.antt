-- Parts of lists.
use Rattle.std.proofs.Common.{◌≡◌, ℕ, zero, suc, ◌+◌, ◌≤◌, List, [], ◌∷◌, ◌++◌, length, take, drop, sym, ap, ◌∙◌, arith}
use Rattle.std.proofs.lemmas.List.{take-append-drop, drop-append-le, length-take-le}

pub take_plus : {X : Type 0} (a b : ℕ) (xs : List X) → take a xs ++ take b (drop a xs) ≡ take (a + b) xs
take_plus zero b xs = let on : b ≡ zero + b = omega arith in ap (λ n. take n xs) on
take_plus (suc a) zero [] = let on : suc a ≡ suc a + zero = omega arith in ap (λ n. take n []) on
take_plus (suc a) (suc b) [] = let on : suc (a + suc b) ≡ suc a + suc b = omega arith in ap (λ n. take n []) on
take_plus (suc a) b (x ∷ xs) = let on : suc a + b ≡ suc (a + b) = omega arith in ap (λ rest. x ∷ rest) (take_plus a b xs) ∙ ap (λ n. take n (x ∷ xs)) (sym on)

-- what is behind d, where the first q are told apart
pub drop_apart : {X : Type 0} (d q : ℕ) (xs : List X) → d ≤ q → q ≤ length xs → drop d xs ≡ drop d (take q xs) ++ drop q xs
drop_apart {X} d q xs le within =
    let size : length (take q xs) ≡ q = length-take-le q xs within in
    ap (drop d) (sym (take-append-drop q xs)) ∙ drop-append-le d (take q xs) (drop q xs) (omega (arith, size, le))
