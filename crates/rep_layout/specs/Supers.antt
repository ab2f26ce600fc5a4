-- Superblocks as bytes: what a superblock's body says, and the one spelling that it has.
use Rattle.std.specs.Prelude.{◌≡◌, ℕ, ◌+◌, ◌*◌, ◌-◌, ◌≤◌, ◌==◌, ◌&&◌, ◌||◌, not, Bool, nat_le, List, ◌∷◌, ◌++◌, length, codes, replicate, IsTrue, Option, Some}
use Rattle.std.specs.List.{flat_map}
use Rattle.std.specs.Result.{result_ok}
use Rattle.uuid.specs.Parts.{is_nil_bytes}
use Rattle.rep_types.specs.declared.limits.TheConstants.{MAX_SEQNO, MAX_TABLES}
use Rattle.rep_types.specs.Settings.{Setting, setting, allowed, pages_of, is_setting}
use Rattle.rep_forms.specs.Forms.{Form, IsPart, byte, number, number_bytes, part_of, zeros, both, ◌⊗◌, padded, marked, many, via, as_named}
use Rattle.rep_layout.specs.declared.format.Format.{Format}
use Rattle.rep_layout.specs.declared.super_body.SuperBody.{SuperBody}
use Rattle.rep_layout.specs.Formats.{digit_of, format_form}
use Rattle.rep_layout.specs.declared.page_state.PageState.{PageState}
use Rattle.rep_layout.specs.PageStates.{state_bytes, states_form}

-- the UUID of a node that belongs to no cluster yet
abbrev pub IsNil : List ℕ → Type 0
IsNil uuid = uuid ≡ replicate 16 0

-- What a superblock can say. Its number rises by one with each checkpoint and each snapshot, of which each raises the position
-- or gives the node its UUID; and each block of the log that a checkpoint lets go has a record at least.
pub record IsSuper (s : SuperBody) : Type 0 where
  pub number : s.number ≤ s.position + 1
  pub uuid : IsPart 16 s.uuid
  pub undefined : IsNil s.uuid → (s.number ≡ 0) × (s.position ≡ 0)
  pub setting : IsTrue (is_setting s.params)
  pub position : s.position ≤ MAX_SEQNO
  pub start : s.start ≤ s.position
  pub pages : length s.pages.items ≡ pages_of s.params.rows

-- whether it can be said: what the types of the fields leave open
abbrev pub is_super : SuperBody → Bool
is_super s =
    nat_le s.position MAX_SEQNO && nat_le s.number (s.position + 1) && nat_le s.start s.position
    && (not (is_nil_bytes s.uuid) || ((s.number == 0) && (s.position == 0))) && (length s.pages.items == pages_of s.params.rows)

-- ---- the spelling

-- the first seven bytes, in front of the format's digit
unfoldable pub super_mark : List ℕ
super_mark = codes "REPSUPR"

-- the parameters: the window, the cells of the log, how many tables there are, and the rows of eight tables, zero where there is none
abbrev pub setting_bytes : Setting → List ℕ
setting_bytes p =
    number_bytes 2 p.window ++ (number_bytes 2 p.cells ++ (length p.rows ∷ (zeros 3 ++ (flat_map (number_bytes 4) p.rows ++ zeros (32 - 4 * length p.rows)))))

-- the mark, the format's digit, the number, the UUID, and the parameters
abbrev pub head_bytes : SuperBody → List ℕ
head_bytes s = super_mark ++ (digit_of s.format ∷ (number_bytes 8 s.number ++ (s.uuid ++ setting_bytes s.params)))

-- the position, the number of the cell whose block begins behind it, and how many pages there are
abbrev pub place_bytes : SuperBody → List ℕ
place_bytes s = number_bytes 8 s.position ++ (number_bytes 8 s.start ++ (number_bytes 2 (length s.pages.items) ++ zeros 38))

-- A superblock's body, of 3,584 bytes.
abbrev pub super_bytes : SuperBody → List ℕ
super_bytes s = head_bytes s ++ (place_bytes s ++ (state_bytes s.pages.items ++ zeros 2432))

-- ---- the form

-- the parameters
abbrev pub setting_fields : Form Setting
setting_fields =
    via (number 2 ⊗ (number 2 ⊗ both (padded byte 3) (λ n. padded (many MAX_TABLES n (number 4)) (32 - 4 * n))))
    (λ (p : Setting). (p.window, (p.cells, (length p.rows, p.rows)))) (λ x. result_ok (allowed (setting x.0 x.1.0 x.1.1.1)))

abbrev pub setting_form : Form Setting
setting_form = as_named setting_fields (λ p. IsTrue (is_setting p)) setting_bytes

-- the format, the number, the UUID and the parameters
abbrev pub Head : Type 0
Head = Format × (ℕ × (List ℕ × Setting))

abbrev pub head_fields : Form Head
head_fields = marked super_mark (format_form ⊗ (number 8 ⊗ (part_of 16 ⊗ setting_form)))

-- the position, the start and the number of pages
abbrev pub Stand : Type 0
Stand = ℕ × (ℕ × ℕ)

abbrev pub stand_fields : Form Stand
stand_fields = number 8 ⊗ (number 8 ⊗ padded (number 2) 38)

-- all fields, and what they say
abbrev pub super_parts : SuperBody → Head × (Stand × List PageState)
super_parts s = ((s.format, (s.number, (s.uuid, s.params))), ((s.position, (s.start, length s.pages.items)), s.pages.items))

abbrev pub super_of : Head × (Stand × List PageState) → Option SuperBody
super_of x = Some (record { format = x.0.0; number = x.0.1.0; uuid = x.0.1.1.0; params = x.0.1.1.1; position = x.1.0.0; start = x.1.0.1.0; pages = record { items = x.1.1 } })

abbrev pub super_fields : Form SuperBody
super_fields = via (head_fields ⊗ both stand_fields (λ x. padded (states_form x.1.1) 2432)) super_parts super_of

abbrev pub super_form : Form SuperBody
super_form = as_named super_fields IsSuper super_bytes

-- The bytes of a superblock's body tell what it says.
abbrev pub SuperblocksAreTold : Type 0
SuperblocksAreTold = (s t : SuperBody) → IsSuper s → IsSuper t → super_bytes s ≡ super_bytes t → s ≡ t
