-- Saved states as texts.
use Rattle.std.specs.Prelude.{IfSome, IsTrue, ℕ, ℤ, ◌+◌, Bool, true, false, ◌==◌, if◌then◌else◌, List, [], ◌∷◌, ◌++◌, length, Option, None, Some, Result, Ok, Err, codes}
use Rattle.std.specs.List.{slice_split}
use Rattle.std.specs.Option.{option_or}
use Rattle.std.specs.Fmt.{signed_decimal}
use Rattle.uuid.specs.Text.{lower, hyphenated_text}
use Rattle.rep_types.specs.Gtids.{is_seqno}
use Rattle.rep_types.specs.declared.refusal.Refusal.{Refusal}
use Rattle.rep_types.specs.declared.refusal.Refusal.TheVariants.{Malformed}
use Rattle.rep_saved.specs.declared.line.Said.{Said}
use Rattle.rep_saved.specs.declared.line.Said.TheVariants.{Nothing, Uuid, Seqno, Safe, Bad}
use Rattle.rep_saved.specs.declared.saved.SavedState.{SavedState}
use Rattle.rep_saved.specs.declared.saved.Found.{Found}
use Rattle.rep_saved.specs.Lines.{said, without_return}

-- ---- what is written

abbrev pub bit_text : Bool → List ℕ
bit_text true = codes "1"
bit_text false = codes "0"

-- how a saved state is written
abbrev pub saved_text : SavedState → List ℕ
saved_text s =
    codes "# GALERA saved state\nversion: 2.1\nuuid:    " ++ hyphenated_text lower s.gtid.uuid
    ++ codes "\nseqno:   " ++ signed_decimal s.gtid.seqno
    ++ codes "\nsafe_to_bootstrap: " ++ bit_text s.safe_to_bootstrap ++ codes "\n"

-- ---- what is read

-- what a line says, and the offset of its first byte
pub record Saying : Type 0 where
  pub at : ℕ
  pub says : Said

abbrev pub saying : ℕ → Said → Saying
saying at says = record { at = at; says = says }

-- What the lines say, the first one at this offset. A carriage return before the line feed belongs to no line; the last line has
-- no line feed.
abbrev pub sayings : ℕ → List (List ℕ) → List Saying
sayings at [] = []
sayings at (line ∷ []) = saying at (said line) ∷ []
sayings at (line ∷ next ∷ lines) = saying at (said (without_return line)) ∷ sayings (at + length line + 1) (next ∷ lines)

-- the same of a text, whose lines are what stands between its line feeds
abbrev pub sayings_of : List ℕ → List Saying
sayings_of text = sayings 0 (slice_split (λ b. b == 10) text)

abbrev pub is_bad : Said → Bool
is_bad Bad = true
is_bad Nothing = false
is_bad (Uuid uuid) = false
is_bad (Seqno seqno) = false
is_bad (Safe safe) = false

abbrev pub nothing_found : Found
nothing_found = record { uuid = None; seqno = None; safe = None }

-- what a line says of each of the three values
abbrev pub told : Said → Found
told Nothing = nothing_found
told (Uuid uuid) = record nothing_found { uuid = Some uuid }
told (Seqno seqno) = record nothing_found { seqno = Some seqno }
told (Safe safe) = record nothing_found { safe = Some safe }
told Bad = nothing_found

-- where the first line lies that says something bad
abbrev pub first_bad : List Saying → Option ℕ
first_bad [] = None
first_bad (s ∷ ss) = if is_bad s.says then Some s.at else first_bad ss

-- what the last line says of a value, of those that say something of it
abbrev pub last_said : {A : Type 0} → (Found → Option A) → List Saying → Option A
last_said value [] = None
last_said value (s ∷ ss) = option_or (last_said value ss) (value (told s.says))

abbrev pub last_uuid : List Saying → Option (List ℕ)
last_uuid ss = last_said (λ (f : Found). f.uuid) ss

abbrev pub last_seqno : List Saying → Option ℤ
last_seqno ss = last_said (λ (f : Found). f.seqno) ss

abbrev pub last_safe : List Saying → Option Bool
last_safe ss = last_said (λ (f : Found). f.safe) ss

abbrev pub or_false : Option Bool → Bool
or_false None = false
or_false (Some b) = b

-- the saved state of a UUID and a seqno, which both must be there
abbrev pub whole : ℕ → Option (List ℕ) → Option ℤ → Option Bool → Result SavedState Refusal
whole size (Some uuid) (Some seqno) safe = Ok (record { gtid = record { uuid = uuid; seqno = seqno }; safe_to_bootstrap = or_false safe })
whole size (Some uuid) None safe = Err (Malformed size)
whole size None seqno safe = Err (Malformed size)

abbrev pub unless_bad : Option ℕ → Result SavedState Refusal → Result SavedState Refusal
unless_bad None r = r
unless_bad (Some at) r = Err (Malformed at)

-- what such lines of a text of this size say together: the last of each kind counts, and no line may be bad
abbrev pub together : ℕ → List Saying → Result SavedState Refusal
together size ss = unless_bad (first_bad ss) (whole size (last_uuid ss) (last_seqno ss) (last_safe ss))

-- The saved state that the text is, or where its first fault lies: the offset of the first line with a bad value, or the size of
-- the text where the UUID or the seqno is missing.
abbrev pub saved_in : List ℕ → Result SavedState Refusal
saved_in text = together (length text) (sayings_of text)

-- ---- as it is read

-- a seqno that is said is one of a GTID
abbrev pub IsWithin : Said → Type 0
IsWithin said = IfSome (told said).seqno (λ n. IsTrue (is_seqno n))

-- with what one more line says
abbrev pub found_with : Found → Said → Option Found
found_with f Nothing = Some f
found_with f (Uuid uuid) = Some (record f { uuid = Some uuid })
found_with f (Seqno seqno) = Some (record f { seqno = Some seqno })
found_with f (Safe safe) = Some (record f { safe = Some safe })
found_with f Bad = None

-- with what all further lines say
abbrev pub rest_of : ℕ → Found → List Saying → Result SavedState Refusal
rest_of size f ss =
    unless_bad (first_bad ss) (whole size (option_or (last_uuid ss) f.uuid) (option_or (last_seqno ss) f.seqno) (option_or (last_safe ss) f.safe))
