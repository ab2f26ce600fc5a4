-- Global transaction identifiers as texts.
use Rattle.std.specs.Prelude.{◌≡◌, ℕ, ℤ, pos, negsuc, ◌^◌, ◌≤◌, ◌==◌, Bool, nat_lt, nat_le, if◌then◌else◌, List, [], ◌∷◌, ◌++◌, length, take, drop, codes, Option, None, Some, Result, Ok, Err}
use Rattle.std.specs.Option.{option_map}
use Rattle.std.specs.Str.{bytes_eq}
use Rattle.std.specs.Fmt.{signed_decimal}
use Rattle.uuid.specs.Text.{lower, hyphenated_text, parsed}
use Rattle.rep_types.specs.declared.refusal.Refusal.{Refusal}
use Rattle.rep_types.specs.declared.refusal.Refusal.TheVariants.{Malformed}
use Rattle.rep_types.specs.Numbers.{number_in}

-- A GTID (Galera documentation): a state UUID and a seqno.
pub record Gtid : Type 0 where
  pub uuid : List ℕ
  pub seqno : ℤ

-- whether the number is the seqno of a GTID: -1, or from 0 on, below 2^63
abbrev pub is_seqno : ℤ → Bool
is_seqno (pos n) = nat_lt n (2 ^ 63)
is_seqno (negsuc n) = n == 0

-- how a GTID is written (Galera documentation): the UUID with hyphens and in lower case, a colon, and the seqno
abbrev pub gtid_text : Gtid → List ℕ
gtid_text g = hyphenated_text lower g.uuid ++ codes ":" ++ signed_decimal g.seqno

-- A seqno: `-1`, or 1 to 19 digits of a number below 2^63, zeros in front allowed.
abbrev pub IsSeqno : List ℕ → ℤ → Type 0
IsSeqno text (pos n) = (length text ≤ 19) × (number_in (2 ^ 63) text ≡ Some n)
IsSeqno text (negsuc n) = (n ≡ 0) × (text ≡ codes "-1")

-- What a text of a GTID is: 36 characters of a UUID, in either case (RFC 9562), a colon, and a seqno.
pub record IsGtid (text : List ℕ) (g : Gtid) : Type 0 where
  pub head : List ℕ
  pub tail : List ℕ
  pub whole : text ≡ head ++ 58 ∷ tail
  pub size : length head ≡ 36
  pub is_uuid : parsed head ≡ Some g.uuid
  pub is_seqno : IsSeqno tail g.seqno

-- the seqno that the text is
unfoldable pub seqno_in : List ℕ → Option ℤ
seqno_in text =
    if bytes_eq text (codes "-1") then Some (negsuc 0)
    else if nat_le (length text) 19 then option_map pos (number_in (2 ^ 63) text)
    else None

-- the UUID in front of the text
abbrev pub uuid_in : List ℕ → Option (List ℕ)
uuid_in text = if nat_le 36 (length text) then parsed (take 36 text) else None

-- the GTID of the UUID and the seqno, or that the seqno is not of its form
abbrev pub gtid_of : List ℕ → Option ℤ → Result Gtid Refusal
gtid_of uuid None = Err (Malformed 37)
gtid_of uuid (Some n) = Ok (record { uuid = uuid; seqno = n })

-- the same of the UUID, if there is one, and what stands behind it
abbrev pub gtid_with : Option (List ℕ) → List ℕ → Result Gtid Refusal
gtid_with None rest = Err (Malformed 0)
gtid_with (Some uuid) [] = Err (Malformed 36)
gtid_with (Some uuid) (mark ∷ rest) = if mark == 58 then gtid_of uuid (seqno_in rest) else Err (Malformed 36)

-- The GTID that the text is, or where its first fault lies: at 0 for the UUID, 36 for the colon, 37 for the seqno.
abbrev pub gtid_in : List ℕ → Result Gtid Refusal
gtid_in text = gtid_with (uuid_in text) (drop 36 text)
