-- Forms of bytes: which values have a spelling, what it is, and what a reader takes from the front of bytes.
use Rattle.std.specs.Prelude.{◌≡◌, ℕ, zero, suc, ◌^◌, ◌<◌, ◌≤◌, ◌==◌, Bool, true, nat_lt, if◌then◌else◌, List, [], ◌∷◌, ◌++◌, length, take, drop, replicate, Option, None, Some, IfSome}
use Rattle.std.specs.List.{flat_map, list_all, AllByRecursion}
use Rattle.byteorder.specs.Endian.{big_bytes, big_number}
use Rattle.rep_forms.specs.Options.{◌>>=◌}

-- A form: the values that have a spelling, the spelling of each, and what a reader takes from the front of bytes, with those
-- behind it. A reader may take more than is spelled: that what it took is spelled so is tested in the end.
pub record Form (A : Type 0) : Type 1 where
  pub Fits : A → Type 0
  pub spell : A → List ℕ
  pub read : List ℕ → Option (A × List ℕ)

-- What is spelled is read, whatever follows.
pub record IsForm {A : Type 0} (F : Form A) : Type 0 where
  pub again : (x : A) (rest : List ℕ) → F.Fits x → F.read (F.spell x ++ rest) ≡ Some (x, rest)

-- each of them is a byte
abbrev pub AreBytes : List ℕ → Type 0
AreBytes bytes = AllByRecursion (λ (b : ℕ). b < 2 ^ 8) bytes

-- so many bytes, and those behind them
unfoldable pub part : ℕ → List ℕ → Option (List ℕ × List ℕ)
part n bytes = if nat_lt (length bytes) n then None else Some (take n bytes, drop n bytes)

-- a number of n bytes, the highest first
unfoldable pub number_bytes : ℕ → ℕ → List ℕ
number_bytes n x = big_bytes n x

-- the number in the first n bytes
unfoldable pub number_in : ℕ → List ℕ → ℕ
number_in n bytes = big_number n bytes

-- so many zeros
unfoldable pub zeros : ℕ → List ℕ
zeros n = replicate n 0

-- whether all of the bytes are zero
abbrev pub are_blank : List ℕ → Bool
are_blank bytes = list_all (λ b. b == 0) bytes

-- Bytes as they are, so many of them.
pub record IsPart (n : ℕ) (bytes : List ℕ) : Type 0 where
  pub size : length bytes ≡ n
  pub each : AreBytes bytes

abbrev pub part_of : ℕ → Form (List ℕ)
part_of n = record { Fits = IsPart n; spell = λ bytes. bytes; read = part n }

-- A byte.
unfoldable pub first_byte : List ℕ → Option (ℕ × List ℕ)
first_byte [] = None
first_byte (b ∷ rest) = Some (b, rest)

abbrev pub byte : Form ℕ
byte = record { Fits = λ b. b < 2 ^ 8; spell = λ b. b ∷ []; read = first_byte }

-- A number of n bytes, the highest first.
abbrev pub number : ℕ → Form ℕ
number n = record {
  Fits = λ x. x < 256 ^ n;
  spell = number_bytes n;
  read = λ bytes. part n bytes >>= λ p. Some (number_in n p.0, p.1);
}

-- One form behind another, which may depend on the value of that one.
abbrev pub both : {A B : Type 0} → Form A → (A → Form B) → Form (A × B)
both F G = record {
  Fits = λ x. F.Fits x.0 × (G x.0).Fits x.1;
  spell = λ x. F.spell x.0 ++ (G x.0).spell x.1;
  read = λ bytes. F.read bytes >>= λ a. (G a.0).read a.1 >>= λ b. Some ((a.0, b.0), b.1);
}

infixr 5 ◌⊗◌
-- the same where it does not
abbrev pub ◌⊗◌ : {A B : Type 0} → Form A → Form B → Form (A × B)
F ⊗ G = both F (λ _. G)

-- A form of other values: of those that stand for values of this one.
abbrev pub via : {A B : Type 0} → Form A → (B → A) → (A → Option B) → Form B
via F from to = record {
  Fits = λ b. F.Fits (from b) × (to (from b) ≡ Some b);
  spell = λ b. F.spell (from b);
  read = λ bytes. F.read bytes >>= λ a. to a.0 >>= λ b. Some (b, a.1);
}

-- A value, and so many zeros behind it, which its reader doesn't look at.
abbrev pub padded : {A : Type 0} → Form A → ℕ → Form A
padded F n = record { Fits = F.Fits; spell = λ x. F.spell x ++ zeros n; read = λ bytes. F.read bytes >>= λ a. part n a.1 >>= λ z. Some (a.0, z.1) }

-- A value behind the mark of its format, which its reader doesn't look at either.
abbrev pub marked : {A : Type 0} → List ℕ → Form A → Form A
marked mark F = record { Fits = F.Fits; spell = λ x. mark ++ F.spell x; read = λ bytes. part (length mark) bytes >>= λ m. F.read m.1 }

-- so many values, one after another
unfoldable pub each : {A : Type 0} → (List ℕ → Option (A × List ℕ)) → ℕ → List ℕ → Option (List A × List ℕ)
each read zero bytes = Some ([], bytes)
each read (suc n) bytes = read bytes >>= λ x. each read n x.1 >>= λ xs. Some (x.0 ∷ xs.0, xs.1)

-- Values one after another, so many of them, and no more than the limit.
pub record AreMany {A : Type 0} (F : Form A) (limit n : ℕ) (xs : List A) : Type 0 where
  pub size : length xs ≡ n
  pub few : n ≤ limit
  pub each : AllByRecursion F.Fits xs

abbrev pub many : {A : Type 0} → ℕ → ℕ → Form A → Form (List A)
many limit n F = record {
  Fits = AreMany F limit n;
  spell = flat_map F.spell;
  read = λ bytes. if nat_lt limit n then None else each F.read n bytes;
}

-- The same values and spellings in other words, read as before.
abbrev pub as_named : {A : Type 0} → Form A → (A → Type 0) → (A → List ℕ) → Form A
as_named F Fits spell = record { Fits = Fits; spell = spell; read = F.read }

-- What a reader answers that takes from the front of bytes exactly what is spelled there.
pub record TakesFront {A : Type 0} (F : Form A) (bytes : List ℕ) (result : Option (A × List ℕ)) : Type 0 where
  pub found : IfSome result (λ x. F.Fits x.0 × (bytes ≡ F.spell x.0 ++ x.1))
  pub only : (x : A) (rest : List ℕ) → F.Fits x → bytes ≡ F.spell x ++ rest → result ≡ Some (x, rest)

-- Whether all of the bytes are the spelling of a value, and of which.
pub record TakesAll {A : Type 0} (F : Form A) (bytes : List ℕ) (result : Bool) (value : A) : Type 0 where
  pub found : result ≡ true → F.Fits value × (bytes ≡ F.spell value)
  pub only : (x : A) → F.Fits x → bytes ≡ F.spell x → (result ≡ true) × (value ≡ x)

-- What stands behind a front, where the bytes begin with it.
pub record Strips (front bytes : List ℕ) (result : Option (List ℕ)) : Type 0 where
  pub found : IfSome result (λ rest. bytes ≡ front ++ rest)
  pub only : (rest : List ℕ) → bytes ≡ front ++ rest → result ≡ Some rest

-- What stands behind the spelling of a value, where the bytes begin with it.
pub record StripsFront {A : Type 0} (F : Form A) (x : A) (bytes : List ℕ) (result : Option (List ℕ)) : Type 0 where
  pub found : IfSome result (λ rest. F.Fits x × (bytes ≡ F.spell x ++ rest))
  pub only : (rest : List ℕ) → F.Fits x → bytes ≡ F.spell x ++ rest → result ≡ Some rest

-- What a writer does to what was put before: the value has a spelling, and that comes behind.
pub record Puts {A : Type 0} (F : Form A) (x : A) (old new : List ℕ) : Type 0 where
  pub fits : F.Fits x
  pub bytes : new ≡ old ++ F.spell x
