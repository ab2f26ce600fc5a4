-- What a reader answers that takes all of the bytes.
use Rattle.std.proofs.Common.{◌≡◌, ◌<◌, List, [], ℕ, length, get_or, Option, None, Some, sym, ap, ◌∙◌}
use Rattle.std.specs.Option.{option_map}
use Rattle.std.specs.Int.{w16, w64, from_be_bytes}
use Rattle.std.proofs.lemmas.List.{append-nil}
use Rattle.std.proofs.lemmas.Nat.{be_bytes_2, be_bytes_8}
use Rattle.rep_forms.specs.Forms.{Form, IsForm, TakesFront, number, number_bytes}
use Rattle.rep_forms.specs.FormLaws.{length_number}
use Rattle.rep_transfer.specs.Pieces.{IsWhole}

-- the bytes behind what was read
abbrev rest_in : {A : Type 0} → Option (A × List ℕ) → List ℕ
rest_in None = []
rest_in (Some x) = x.1

-- ---- where the front is taken

pub front_none : {A : Type 0} (F : Form A) (bytes : List ℕ) (result : Option A) → TakesFront F bytes None → result ≡ None → IsWhole F bytes result
front_none F bytes result t is = rw is (record { found = tt; only = λ x h e. absurd (cc (t.only x [] h (e ∙ sym (append-nil (F.spell x))))) })

pub front_some : {A : Type 0} (F : Form A) (bytes : List ℕ) (value : A) → TakesFront F bytes (Some (value, [])) → IsWhole F bytes (Some value)
front_some F bytes value t = record {
  found = (t.found.0, t.found.1 ∙ append-nil (F.spell value));
  only = λ x h e. ap (option_map (λ p. p.0)) (t.only x [] h (e ∙ sym (append-nil (F.spell x))));
}

pub front_more : {A : Type 0} (F : Form A) (bytes : List ℕ) (value : A) (rest : List ℕ) → TakesFront F bytes (Some (value, rest)) → (rest ≡ [] → ⊥) → IsWhole F bytes None
front_more F bytes value rest t more = record {
  found = tt;
  only = λ x h e. absurd (more (ap rest_in (t.only x [] h (e ∙ sym (append-nil (F.spell x))))));
}

-- ---- where the bytes are a spelling, or no number for their length

again : {A : Type 0} (F : Form A) → IsForm F → (bytes : List ℕ) (x : A) → F.Fits x → bytes ≡ F.spell x → F.read bytes ≡ Some (x, [])
again F f bytes x h e = ap F.read (e ∙ sym (append-nil (F.spell x))) ∙ f.again x [] h

pub spelled_whole : {A : Type 0} (F : Form A) → IsForm F → (bytes : List ℕ) (x : A) → F.Fits x → bytes ≡ F.spell x → IsWhole F bytes (Some x)
spelled_whole F f bytes x fits same = record {
  found = (fits, same);
  only = λ y h e. ap (option_map (λ p. p.0)) (sym (again F f bytes x fits same) ∙ again F f bytes y h e);
}

pub other_size : (n : ℕ) (bytes : List ℕ) (result : Option ℕ) → (length bytes ≡ n → ⊥) → result ≡ None → IsWhole (number n) bytes result
other_size n bytes result other is = rw is (record { found = tt; only = λ x h e. absurd (other (ap length e ∙ length_number n x)) })

pub spelled_2 : (bytes : List ℕ) (n : ℕ) → length bytes ≡ 2 → ((i : ℕ) → get_or bytes i 0 < 256) → n ≡ from_be_bytes w16 bytes → bytes ≡ number_bytes 2 n
unfolding number_bytes
spelled_2 bytes n size each is = sym (be_bytes_2 bytes n size each is)

pub spelled_8 : (bytes : List ℕ) (n : ℕ) → length bytes ≡ 8 → ((i : ℕ) → get_or bytes i 0 < 256) → n ≡ from_be_bytes w64 bytes → bytes ≡ number_bytes 8 n
unfolding number_bytes
spelled_8 bytes n size each is = sym (be_bytes_8 bytes n size each is)
