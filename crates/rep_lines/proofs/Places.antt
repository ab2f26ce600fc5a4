-- Where the first line feed stands.
use Rattle.std.proofs.Common.{◌≡◌, ℕ, suc, zero, ◌+◌, ◌<◌, ◌≤◌, Bool, true, false, List, [], ◌∷◌, ◌++◌, length, take, drop, Option, None, Some, refl, sym, ap, ◌∙◌, arith}
use Rattle.std.specs.Prelude.{nat_lt, is_some}
use Rattle.std.specs.List.{list_any, position, position_or_len}
use Rattle.std.proofs.lemmas.Bool.{ltb-true, ltb-false, eqb-true}
use Rattle.rep_lines.specs.Lines.{is_feed, HasNoFeed}
use Rattle.rep_lines.proofs.Clipping.{AreWithin, any_fed}

-- the first line feed is the byte behind so many, and none of these is one
split_step : (f : Bool) (b : ℕ) (bs : List ℕ) (n : ℕ) → is_feed b ≡ f → position_or_len is_feed (b ∷ bs) ≡ n → n < length (b ∷ bs) →
    ((m : ℕ) → position_or_len is_feed bs ≡ m → m < length bs → AreWithin (take m bs) × (bs ≡ take m bs ++ 10 ∷ drop (suc m) bs)) →
    AreWithin (take n (b ∷ bs)) × (b ∷ bs ≡ take n (b ∷ bs) ++ 10 ∷ drop (suc n) (b ∷ bs))
split_step true b bs zero e at within rest = (tt, ap (λ x. x ∷ bs) (eqb-true b 10 e))
split_step true b bs (suc n) e at within rest = let none : 0 ≡ suc n = rw e at at in absurd (omega (arith, none))
split_step false b bs zero e at within rest = let some : 1 + position_or_len is_feed bs ≡ 0 = rw e at at in absurd (omega (arith, some))
split_step false b bs (suc n) e at within rest =
    let some : 1 + position_or_len is_feed bs ≡ suc n = rw e at at in
    let later = rest n (omega (arith, some)) (omega (arith, within)) in
    ((e, later.0), ap (λ l. b ∷ l) later.1)

pub place_split : (xs : List ℕ) (n : ℕ) → position_or_len is_feed xs ≡ n → n < length xs → AreWithin (take n xs) × (xs ≡ take n xs ++ 10 ∷ drop (suc n) xs)
place_split [] n at within = absurd (omega (arith, within))
place_split (b ∷ bs) n at within = split_step (is_feed b) b bs n refl at within (place_split bs)

-- no byte is one
none_step : (f : Bool) (b : ℕ) (bs : List ℕ) → is_feed b ≡ f → length (b ∷ bs) ≤ position_or_len is_feed (b ∷ bs) →
    (length bs ≤ position_or_len is_feed bs → list_any is_feed bs ≡ false) → list_any is_feed (b ∷ bs) ≡ false
none_step true b bs e past rest = let none : length (b ∷ bs) ≤ 0 = rw e at past in absurd (omega (arith, none))
none_step false b bs e past rest =
    let some : length (b ∷ bs) ≤ 1 + position_or_len is_feed bs = rw e at past in
    rw e (rest (omega (arith, some)))

pub place_none : (xs : List ℕ) → length xs ≤ position_or_len is_feed xs → HasNoFeed xs
place_none [] past = refl
place_none (b ∷ bs) past = none_step (is_feed b) b bs refl past (place_none bs)

-- the first line feed, as the code finds it
found_by : (xs : List ℕ) (p : ℕ) (t : Bool) → nat_lt (position_or_len is_feed xs) (length xs) ≡ t → position is_feed xs ≡ Some p →
    (p < length xs) × AreWithin (take p xs) × (xs ≡ take p xs ++ 10 ∷ drop (suc p) xs)
found_by xs p true within at =
    let same : Some (position_or_len is_feed xs) ≡ Some p = rw within at at in
    let is : position_or_len is_feed xs ≡ p = cc in
    let less = ltb-true (position_or_len is_feed xs) (length xs) within in
    let here : p < length xs = omega (arith, is, less) in
    let parts = place_split xs p is here in
    (here, parts.0, parts.1)
found_by xs p false within at = let none : None ≡ Some p = rw within at at in absurd cc

pub found : (xs : List ℕ) (p : ℕ) → position is_feed xs ≡ Some p → (p < length xs) × AreWithin (take p xs) × (xs ≡ take p xs ++ 10 ∷ drop (suc p) xs)
found xs p at = found_by xs p _ refl at

not_found_by : (xs : List ℕ) (t : Bool) → nat_lt (position_or_len is_feed xs) (length xs) ≡ t → position is_feed xs ≡ None → HasNoFeed xs
not_found_by xs true within at = let some : Some (position_or_len is_feed xs) ≡ None = rw within at at in absurd cc
not_found_by xs false within at = place_none xs (ltb-false (position_or_len is_feed xs) (length xs) within)

pub not_found : (xs : List ℕ) → position is_feed xs ≡ None → HasNoFeed xs
not_found xs at = not_found_by xs _ refl at

-- whether there is one
any_by : (xs : List ℕ) (o : Option ℕ) → position is_feed xs ≡ o → is_some o ≡ list_any is_feed xs
any_by xs None at = sym (not_found xs at)
any_by xs (Some p) at =
    let parts = found xs p at in
    sym (ap (list_any is_feed) parts.2 ∙ any_fed (take p xs) (drop (suc p) xs) parts.1)

pub found_any : (xs : List ℕ) → is_some (position is_feed xs) ≡ list_any is_feed xs
found_any xs = any_by xs (position is_feed xs) refl
