-- What is answered, and what of it waits.
use Rattle.std.proofs.Common.{ℕ, ◌+◌, List, [], ◌++◌, length, take, Option, Some, Err, refl, sym, ap, ◌∙◌, arith, append_assoc}
use Rattle.std.specs.Io.KnownBytes.{Appends, Keeps}
use Rattle.std.proofs.KnownBytes.{Appends-trans, Appends-nil, Appends-kept}
use Rattle.std.proofs.lemmas.List.{take_all}
use Rattle.std.proofs.Math.Seq.{take-append-add}
use Rattle.rep_types.specs.declared.refusal.Refusal.{Refusal}
use Rattle.rep_types.specs.declared.refusal.Refusal.TheVariants.{StreamFault}
use Rattle.rep_script.specs.Answering.{Answered, Tells}

-- nothing is answered yet
pub nothing_answered : (before : Option (List ℕ)) → Answered before before [] []
nothing_answered before = ([], refl, Appends-nil before)

-- all of what waits is a front of it
pub whole_front : (before after : Option (List ℕ)) (waiting bytes : List ℕ) → Answered before after waiting bytes → (k : ℕ) × Answered before after waiting (take k bytes)
whole_front before after waiting bytes answered = (length bytes, rw (take_all (length bytes) bytes (omega arith)) answered)

-- all that waits was written, and then the writer given up
pub given_up : (before mid after : Option (List ℕ)) (waiting : List ℕ) → Appends before mid waiting → Keeps mid after → (k : ℕ) × Appends before after (take k waiting)
given_up before mid after waiting first kept = (length waiting, rw (take_all (length waiting) waiting (omega arith)) (Appends-kept before mid after waiting first kept))

-- some of what waits was written
pub answered_on : (before mid after : Option (List ℕ)) (waiting left bytes : List ℕ) → Answered before mid waiting bytes → Answered mid after left waiting → Answered before after left bytes
answered_on before mid after waiting left bytes (sent, is, first) (more, rest, second) =
    (sent ++ more, is ∙ (ap (λ w. sent ++ w) rest ∙ sym (append_assoc sent more left)), Appends-trans before mid after sent more first second)

-- a front of what waits was written, and the rest let go
pub answered_cut : (before mid after : Option (List ℕ)) (waiting left bytes : List ℕ) (k : ℕ) → Answered before mid waiting bytes → Answered mid after left (take k waiting) →
    (n : ℕ) × Answered before after left (take n bytes)
answered_cut before mid after waiting left bytes k (sent, is, first) (more, rest, second) = (
  length sent + k,
  (
    sent ++ more,
    ap (take (length sent + k)) is ∙ (take-append-add sent waiting k ∙ (ap (λ w. sent ++ w) rest ∙ sym (append_assoc sent more left))),
    Appends-trans before mid after sent more first second,
  ),
)

-- more is answered, and waits
pub answered_more : (before after : Option (List ℕ)) (waiting more line bytes : List ℕ) → Answered before after waiting bytes → Appends (Some waiting) (Some more) line →
    Answered before after more (bytes ++ line)
answered_more before after waiting more line bytes (sent, is, written) grown =
    (sent, ap (λ b. b ++ line) is ∙ (append_assoc sent waiting line ∙ ap (λ w. sent ++ w) (sym grown)), written)

-- all that waits was written
pub answered_all : (before mid after : Option (List ℕ)) (waiting bytes : List ℕ) → Answered before mid waiting bytes → Appends mid after waiting → Appends before after bytes
answered_all before mid after waiting bytes (sent, is, first) second = rw is (Appends-trans before mid after sent waiting first second)

-- a front of it was
pub answered_front : (before mid after : Option (List ℕ)) (waiting bytes : List ℕ) (k : ℕ) → Answered before mid waiting bytes → Appends mid after (take k waiting) →
    (n : ℕ) × Appends before after (take n bytes)
answered_front before mid after waiting bytes k (sent, is, first) second =
    (length sent + k, rw (is, take-append-add sent waiting k) (Appends-trans before mid after sent (take k waiting) first second))

-- where it is refused before, nothing of the line is written
pub nothing_told : (line : List ℕ) (at : Option (List ℕ)) (e : Refusal) → Tells line at at (Err e)
nothing_told line at StreamFault = (0, Appends-nil at)
nothing_told line at e = Appends-nil at
