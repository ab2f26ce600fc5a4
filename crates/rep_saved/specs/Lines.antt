-- What a line of a saved state says (the layout of the lines is that of Galera's grastate.dat).
use Rattle.std.specs.Prelude.{ℕ, ℤ, ◌-◌, Bool, true, false, ◌==◌, ◌||◌, if◌then◌else◌, List, [], ◌∷◌, length, take, slice_index, Option, None, Some, codes}
use Rattle.std.specs.Str.{bytes_eq}
use Rattle.rep_types.specs.Gtids.{seqno_in, uuid_in}
use Rattle.rep_record.specs.Words.{cut}
use Rattle.rep_saved.specs.declared.line.Said.{Said}
use Rattle.rep_saved.specs.declared.line.Said.TheVariants.{Nothing, Uuid, Seqno, Safe, Bad}

-- whether the byte is a space or a tab
abbrev pub is_blank : ℕ → Bool
is_blank b = (b == 32) || (b == 9)

-- without a carriage return at the end
abbrev pub without_return : List ℕ → List ℕ
without_return line = if slice_index line (length line - 1) == 13 then take (length line - 1) line else line

-- without the blanks in front
abbrev pub from_first : List ℕ → List ℕ
from_first [] = []
from_first (b ∷ bs) = if is_blank b then from_first bs else b ∷ bs

-- a byte before others, unless it is a blank and there is none
abbrev pub before : ℕ → List ℕ → List ℕ
before b [] = if is_blank b then [] else b ∷ []
before b (c ∷ cs) = b ∷ c ∷ cs

-- without the blanks at the end
abbrev pub up_to_last : List ℕ → List ℕ
up_to_last [] = []
up_to_last (b ∷ bs) = before b (up_to_last bs)

abbrev pub trimmed : List ℕ → List ℕ
trimmed line = up_to_last (from_first line)

-- what a value says that was read, or that it is not of its form
abbrev pub uuid_said : Option (List ℕ) → Said
uuid_said None = Bad
uuid_said (Some uuid) = Uuid uuid

abbrev pub seqno_said : Option ℤ → Said
seqno_said None = Bad
seqno_said (Some seqno) = Seqno seqno

-- What a value says under its key: 36 characters of a UUID, the seqno of a GTID, or 0 or 1. Under any other key it says nothing.
abbrev pub said_by : List ℕ → List ℕ → Said
said_by key value =
    if bytes_eq key (codes "uuid") then (if length value == 36 then uuid_said (uuid_in value) else Bad)
    else if bytes_eq key (codes "seqno") then seqno_said (seqno_in value)
    else if bytes_eq key (codes "safe_to_bootstrap") then
    (if bytes_eq value (codes "0") then Safe false else if bytes_eq value (codes "1") then Safe true else Bad)
    else Nothing

-- the key stands before the first colon, the value behind it and the blanks there
abbrev pub parted : Option (List ℕ × List ℕ) → Said
parted None = Nothing
parted (Some parts) = said_by parts.0 (from_first parts.1)

-- What a line says: nothing where it has no colon, as an empty one. A comment, which begins with `#`, has no key of ours either.
abbrev pub said : List ℕ → Said
said line = parted (cut 58 (trimmed line))
