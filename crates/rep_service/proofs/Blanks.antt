-- Lines without words, before the first with words.
use Rattle.std.proofs.Common.{◌≡◌, ℕ, ◌+◌, Bool, true, false, ◌⊎◌, inl, inr, List, [], ◌∷◌, ◌++◌, length, Option, None, Some, Result, Ok, Err, refl, sym, ap, subst, ◌∙◌, append-nil, length-append, arith}
use Rattle.std.specs.Prelude.{nat_lt, if◌then◌else◌}
use Rattle.std.specs.List.{AllByRecursion}
use Rattle.std.specs.Io.KnownBytes.{Keeps, Consumes, IsAtEnd}
use Rattle.std.proofs.KnownBytes.{Consumes-nil, Consumes-trans, Consumes-kept}
use Rattle.std.proofs.lemmas.List.Concat.{flat_map-append}
use Rattle.rep_types.specs.declared.refusal.Refusal.{Refusal}
use Rattle.rep_types.specs.declared.refusal.Refusal.TheVariants.{Malformed, StreamFault, Exhausted}
use Rattle.rep_types.specs.Gtids.{Gtid}
use Rattle.rep_types.proofs.Lists.{all_push}
use Rattle.rep_record.specs.Words.{words, is_blank}
use Rattle.rep_streams.specs.Streams.{Notes}
use Rattle.rep_lines.specs.Lines.{HasNoFeed}
use Rattle.rep_requests.specs.Requests.{order_said, ordered, order_in}
use Rattle.rep_follow.specs.Taking.{text_of}
use Rattle.rep_service.specs.Inputs.{counted}
use Rattle.rep_service.specs.Opening.{HasNoWords, IsFirst, FindsFirst}

-- a line without words has none whatever its number is
no_words_by : (long blank : Bool) (o : Option Gtid) (n m : ℕ) → (if long then Err (Malformed n) else if blank then Ok None else ordered n o) ≡ Ok None → (if long then Err (Malformed m) else if blank then Ok None else ordered m o) ≡ Ok None
no_words_by true blank o n m is = absurd cc
no_words_by false true o n m is = refl
no_words_by false false None n m is = absurd cc
no_words_by false false (Some g) n m is = absurd cc

no_words : (n : ℕ) (line : List ℕ) → order_said n line ≡ Ok None → HasNoWords line
no_words n line is = λ m. no_words_by (nat_lt 4096 (length line)) (is_blank line) (order_in (words line)) n m is

-- another line is malformed at its number
refused_by : (long blank : Bool) (o : Option Gtid) (n : ℕ) (e : Refusal) → (if long then Err (Malformed n) else if blank then Ok None else ordered n o) ≡ Err e → e ≡ Malformed n
refused_by true blank o n e is = cc
refused_by false true o n e is = absurd cc
refused_by false false None n e is = cc
refused_by false false (Some g) n e is = absurd cc

pub refused_so : (n : ℕ) (line : List ℕ) (e : Refusal) → order_said n line ≡ Err e → e ≡ Malformed n
refused_so n line e is = refused_by (nat_lt 4096 (length line)) (is_blank line) (order_in (words line)) n e is

-- So many lines were handed out, none of which has words.
pub record Blank (number : ℕ) (text behind : Option (List ℕ)) (now : ℕ) : Type 0 where
  pub before : List (List ℕ)
  pub are : AllByRecursion HasNoWords before
  pub handed : Consumes text behind (text_of before)
  pub now_is : now ≡ counted number (length before)

pub blank_none : (number : ℕ) (text : Option (List ℕ)) → number ≡ counted number 0 → Blank number text text number
blank_none number text is = record { before = []; are = tt; handed = Consumes-nil text; now_is = is }

pub text_push : (lines : List (List ℕ)) (line : List ℕ) → text_of (lines ++ line ∷ []) ≡ text_of lines ++ (line ++ 10 ∷ [])
text_push lines line = flat_map-append (λ (l : List ℕ). l ++ 10 ∷ []) lines (line ∷ []) ∙ ap (λ l. text_of lines ++ l) (append-nil (line ++ 10 ∷ []))

counted_more : (number count : ℕ) → counted (counted number count) 1 ≡ counted number (count + 1)
counted_more number count = omega arith

module _ (number now : ℕ) (text mid behind : Option (List ℕ)) (blank : Blank number text mid now) where
  handed_more : (line : List ℕ) → Consumes mid behind (line ++ 10 ∷ []) → Consumes text behind (text_of (blank.before ++ line ∷ []))
  handed_more line handed = subst (Consumes text behind) (sym (text_push blank.before line)) (Consumes-trans text mid behind (text_of blank.before) (line ++ 10 ∷ []) blank.handed handed)

  -- another one has none
  pub blank_more : (line : List ℕ) (next : ℕ) → Consumes mid behind (line ++ 10 ∷ []) → next ≡ counted now 1 → order_said next line ≡ Ok None → Blank number text behind next
  blank_more line next handed is said = record {
    before = blank.before ++ line ∷ [];
    are = all_push HasNoWords blank.before line blank.are (no_words next line said);
    handed = handed_more line handed;
    now_is = is ∙ ap (λ n. counted n 1) blank.now_is ∙ counted_more number (length blank.before) ∙ ap (counted number) (sym (length-append blank.before (line ∷ [])));
  }

  -- the next one says this
  pub is_first : (line : List ℕ) (next : ℕ) (said : Result (Option Gtid) Refusal) → Consumes mid behind (line ++ 10 ∷ []) → next ≡ counted now 1 → order_said next line ≡ said
      → IsFirst (counted number (length blank.before)) blank.before text behind said
  is_first line next said handed is says = record {
    line = line;
    says = ap (λ n. order_said n line) (sym (is ∙ ap (λ n. counted n 1) blank.now_is)) ∙ says;
    handed = handed_more line handed;
  }

  pub finds_position : (left : List ℕ) (rest : Option (List ℕ)) (line : List ℕ) (next : ℕ) (g : Gtid) → Consumes mid behind (line ++ 10 ∷ []) → next ≡ counted now 1 → order_said next line ≡ Ok (Some g)
      → FindsFirst number left rest text behind (Ok g)
  finds_position left rest line next g handed is says = record { before = blank.before; are = blank.are; says = is_first line next (Ok (Some g)) handed is says }

  -- it is another line
  pub finds_other : (left : List ℕ) (rest : Option (List ℕ)) (line : List ℕ) (next : ℕ) (e : Refusal) → Consumes mid behind (line ++ 10 ∷ []) → next ≡ counted now 1 → order_said next line ≡ Err e
      → FindsFirst number left rest text behind (Err e)
  finds_other left rest line next e handed is says =
      let malformed = refused_so next line e says in
      subst (λ r. FindsFirst number left rest text behind (Err r)) (sym malformed)
      (record { before = blank.before; are = blank.are; says = inl (is_first line next (Err (Malformed next)) handed is (says ∙ ap Err malformed)) })

  -- there is none
  pub finds_none : (left : List ℕ) (rest : Option (List ℕ)) (k : ℕ) → HasNoFeed left → IsAtEnd rest → Keeps mid behind → k ≡ counted now 1 → FindsFirst number left rest text behind (Err (Malformed k))
  finds_none left rest k none ended kept is = record {
    before = blank.before;
    are = blank.are;
    says = inr (record { whole = none; ended = ended; handed = Consumes-kept text mid behind (text_of blank.before) blank.handed kept }, ap Malformed (is ∙ ap (λ n. counted n 1) blank.now_is));
  }

  -- the source failed, or too much was read
  pub finds_failed : (left : List ℕ) (rest : Option (List ℕ)) (e : Refusal) → (e ≡ StreamFault) ⊎ (e ≡ Exhausted) → FindsFirst number left rest text behind (Err e)
  finds_failed left rest e (inl is) = subst (λ r. FindsFirst number left rest text behind (Err r)) (sym is) (record { before = blank.before; are = blank.are; says = tt })
  finds_failed left rest e (inr is) = subst (λ r. FindsFirst number left rest text behind (Err r)) (sym is) (record { before = blank.before; are = blank.are; says = tt })

-- a malformed line is no stream's fault
pub noted_malformed : {T : Type 0} (old new : Bool) (k : ℕ) (e : Refusal) → new ≡ old → e ≡ Malformed k → Notes {T = T} old new (Err e)
noted_malformed {T} old new k e same is = subst (λ r. Notes {T = T} old new (Err r)) (sym is) (record { fault = λ never. absurd cc; fine = λ other. same })
