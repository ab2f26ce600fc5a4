-- The values of three stations, taken out of a list from its end.
use Rattle.std.proofs.Common.{◌≡◌, List, [], ◌∷◌, ◌++◌, sym, ◌∙◌}
use Rattle.std.proofs.lemmas.List.{same_from_push}

pub last_of_three : {A : Type 0} (all front : List A) (x a b c : A) → all ≡ a ∷ b ∷ c ∷ [] → all ≡ front ++ x ∷ [] → (front ≡ a ∷ b ∷ []) × (x ≡ c)
last_of_three all front x a b c is taken = same_from_push front (a ∷ b ∷ []) x c (sym taken ∙ is)

pub last_of_two : {A : Type 0} (all front : List A) (x a b : A) → all ≡ a ∷ b ∷ [] → all ≡ front ++ x ∷ [] → (front ≡ a ∷ []) × (x ≡ b)
last_of_two all front x a b is taken = same_from_push front (a ∷ []) x b (sym taken ∙ is)

pub last_of_one : {A : Type 0} (all front : List A) (x a : A) → all ≡ a ∷ [] → all ≡ front ++ x ∷ [] → (front ≡ []) × (x ≡ a)
last_of_one all front x a is taken = same_from_push front [] x a (sym taken ∙ is)
