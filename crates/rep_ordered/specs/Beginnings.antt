-- The laws of the beginnings of a list, for the proofs of clients.
use Rattle.std.proofs.Common.{◌≡◌, ◌≤◌, List, [], ◌∷◌, ◌++◌, length, sym, refl, ap, ◌∙◌, arith, length-append}
use Rattle.rep_ordered.specs.Views.{StartsWith}
use Rattle.rep_ordered.specs.GoingLaws.{append_nil}

abbrev head_or : {A : Type 0} → A → List A → A
head_or d [] = d
head_or d (x ∷ xs) = x

abbrev tail_of : {A : Type 0} → List A → List A
tail_of [] = []
tail_of (x ∷ xs) = xs

-- two beginnings of one list that are as long are the same
pub same_front : {A : Type 0} (a b more rest : List A) → a ++ more ≡ b ++ rest → length a ≡ length b → a ≡ b
same_front [] [] more rest e long = refl
same_front [] (y ∷ b) more rest e long = absurd (omega arith)
same_front (x ∷ a) [] more rest e long = absurd (omega arith)
same_front (x ∷ a) (y ∷ b) more rest e long = let first : x ≡ y = ap (head_or x) e in let behind = same_front a b more rest (ap tail_of e) (omega arith) in λ i. first i ∷ behind i

pub one_front : {A : Type 0} (xs a b : List A) → StartsWith xs a → StartsWith xs b → length a ≡ length b → a ≡ b
one_front xs a b p q long = same_front a b p.0 q.0 (sym p.1 ∙ q.1) long

pub whole_front : {A : Type 0} (xs a : List A) → StartsWith xs a → length a ≡ length xs → a ≡ xs
whole_front xs a p long = one_front xs a xs p ([], sym (append_nil xs)) long

pub shorter : {A : Type 0} (xs front : List A) → StartsWith xs front → length front ≤ length xs
shorter xs front h = let e : length xs ≡ length (front ++ h.0) = ap length h.1 in omega (arith, length-append front h.0)

-- of two beginnings of one list the longer one begins with the shorter
longer_begins : {A : Type 0} (a b more rest : List A) → a ++ more ≡ b ++ rest → length a ≤ length b → StartsWith b a
longer_begins [] b more rest e long = (b, refl)
longer_begins (x ∷ a) [] more rest e long = absurd (omega arith)
longer_begins (x ∷ a) (y ∷ b) more rest e long = let t = longer_begins a b more rest (ap tail_of e) (omega arith) in let first : y ≡ x = sym (ap (head_or x) e) in (t.0, λ i. first i ∷ t.1 i)

pub front_begins : {A : Type 0} (xs a b : List A) → StartsWith xs a → StartsWith xs b → length a ≤ length b → StartsWith b a
front_begins xs a b p q long = longer_begins a b p.0 q.0 (sym p.1 ∙ q.1) long
