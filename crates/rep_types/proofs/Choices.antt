-- Facts of tests, options and results that no word of this project stands in. Each stands here once, for all crates above.
use Rattle.std.proofs.Common.{◌≡◌, ◌⊎◌, Bool, true, false, Option, None, Some, Result, Ok, Err, IfSome, IsOk, IfOk, OnOk, refl, sym, ap, ◌∙◌, inl, inr}
use Rattle.std.specs.Prelude.{◌&&◌, ◌||◌, is_some}
use Rattle.std.specs.Option.{option_or}
use Rattle.std.specs.Result.{is_err}
use Rattle.rep_types.specs.Transactions.{Renews}

-- ---- tests

-- both sides of a conjunction that holds
pub and_left : (a b : Bool) → (a && b) ≡ true → a ≡ true
and_left true b e = refl
and_left false b e = e

pub and_right : (a b : Bool) → (a && b) ≡ true → b ≡ true
and_right true b e = e
and_right false b e = absurd (let never : false ≡ true = e in cc)

pub and_both : (a b : Bool) → (a && b) ≡ true → (a ≡ true) × (b ≡ true)
and_both a b e = (and_left a b e, and_right a b e)

-- both sides of a disjunction that fails
pub or_both : (a b : Bool) → (a || b) ≡ false → (a ≡ false) × (b ≡ false)
or_both true b e = absurd (let never : true ≡ false = e in cc)
or_both false b e = (refl, e)

-- one side of a disjunction that holds
pub or_cases : (a b : Bool) → (a || b) ≡ true → (a ≡ true) ⊎ (b ≡ true)
or_cases true b e = inl refl
or_cases false b e = inr e

-- a disjunction holds by its second side
pub or_right : (a b : Bool) → b ≡ true → (a || b) ≡ true
or_right true b e = refl
or_right false b e = e

-- ---- options

-- there is nothing where the test says so
pub none_by_test : {A : Type 0} (o : Option A) → is_some o ≡ false → o ≡ None
none_by_test None is = refl
none_by_test (Some x) is = absurd (let never : true ≡ false = is in cc)

-- nothing is not something
pub none_not_some : {A : Type 0} (o : Option A) → is_some o ≡ true → o ≡ None → ⊥
none_not_some o some none = let never : false ≡ true = sym (ap is_some none) ∙ some in absurd cc

-- where neither a test holds nor something is there
pub neither_some : {A : Type 0} (b : Bool) (o : Option A) → (b || is_some o) ≡ false → (b ≡ false) × (o ≡ None)
neither_some b o is = let parts = or_both b (is_some o) is in (parts.0, none_by_test o parts.1)

-- what holds of each holds of what is there
pub some_by_each : {A : Type 0} {P : A → Type 0} (o : Option A) → ((x : A) → P x) → IfSome o P
some_by_each None all = tt
some_by_each (Some x) all = all x

-- the first of three that is there
pub option_or_assoc : {A : Type 0} (a b c : Option A) → option_or (option_or a b) c ≡ option_or a (option_or b c)
option_or_assoc None b c = refl
option_or_assoc (Some x) b c = refl

pub option_or_none : {A : Type 0} (o : Option A) → option_or o None ≡ o
option_or_none None = refl
option_or_none (Some x) = refl

-- ---- results

-- what is said of an answer that came
pub of_answer : {T E P : Type 0} (result : Result T E) → IsOk result → IfOk result (λ _. P) → P
of_answer (Ok x) ok h = h
of_answer (Err e) ok h = absurd cc

-- what is said where a call succeeds, of one that did
pub of_success : {T E P : Type 0} (result : Result T E) → IsOk result → OnOk result P → P
of_success (Ok x) ok h = h
of_success (Err e) ok h = absurd cc

pub of_no_failure : {T E P : Type 0} (result : Result T E) → is_err result ≡ false → OnOk result P → P
of_no_failure (Ok x) e h = h
of_no_failure (Err x) e h = absurd (let never : true ≡ false = e in cc)

-- what follows from it
pub success_weaker : {T E P Q : Type 0} (result : Result T E) → OnOk result P → (P → Q) → OnOk result Q
success_weaker (Ok x) h f = f h
success_weaker (Err e) h f = tt

-- ---- what came in the place of another is what was given

pub renewed : {A E : Type 0} (given : Result A E) (old new : A) (result : Result (Unit {0}) E) → Renews given old new result → result ≡ Ok tt → Ok new ≡ given
renewed (Ok a) old new result is ok = ap Ok is.1
renewed {E = E} (Err e) old new result is ok = absurd (let never : ◌≡◌ {A = Result (Unit {0}) E} (Err e) (Ok tt) = sym is.0 ∙ ok in cc)

pub not_renewed : {A E : Type 0} (given : Result A E) (old new : A) (result : Result (Unit {0}) E) (e : E) → Renews given old new result → result ≡ Err e → ◌≡◌ {A = Result A E} (Err e) given
not_renewed {E = E} (Ok a) old new result e is refused = absurd (let never : ◌≡◌ {A = Result (Unit {0}) E} (Ok tt) (Err e) = sym is.0 ∙ refused in cc)
not_renewed {E = E} (Err f) old new result e is refused = let same : ◌≡◌ {A = Result (Unit {0}) E} (Err e) (Err f) = sym refused ∙ is.0 in let one : e ≡ f = cc in ap Err one
