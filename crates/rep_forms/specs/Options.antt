-- Steps that may find nothing.
use Rattle.std.specs.Prelude.{Bool, if◌then◌else◌, Option, None, Some}

infixl 10 ◌>>=◌
-- what the rest makes of a piece, where there is one
abbrev pub ◌>>=◌ : {A B : Type 0} → Option A → (A → Option B) → Option B
None >>= f = None
(Some x) >>= f = f x

-- a value, where the test holds
abbrev pub given : {A : Type 0} → Bool → A → Option A
given test x = if test then Some x else None
