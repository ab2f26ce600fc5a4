-- Windows as bytes: what a disk keeps of the window at its position, and the one spelling that it has.
use Rattle.std.specs.Prelude.{◌≡◌, ℕ, ◌+◌, ◌-◌, ◌<◌, ◌≤◌, ◌^◌, ◌&&◌, Bool, nat_lt, nat_le, List, ◌∷◌, ◌++◌, length, map, max, codes, IsTrue, Option, None, Some, is_none}
use Rattle.std.specs.List.{flat_map, list_all, AllByRecursion}
use Rattle.std.specs.List.Sorted.{IsStrictlyIncreasing}
use Rattle.rep_types.specs.declared.limits.TheConstants.{MAX_WRITES}
use Rattle.rep_types.specs.Keys.{disorder}
use Rattle.rep_types.specs.Entries.{Entry}
use Rattle.rep_types.specs.Windows.{Window as Kept, fixed, is_window_size}
use Rattle.rep_types.specs.Settings.{Setting, has_row, is_setting}
use Rattle.rep_forms.specs.Options.{given}
use Rattle.rep_forms.specs.Forms.{Form, number, number_bytes, zeros, ◌⊗◌, padded, marked, via, as_named}
use Rattle.rep_forms.specs.Entries.{entry_bytes}
use Rattle.rep_layout.specs.declared.format.Format.{Format}
use Rattle.rep_layout.specs.declared.format.Format.TheVariants.{One, Two}
use Rattle.rep_layout.specs.declared.super_body.SuperBody.{SuperBody}
use Rattle.rep_layout.specs.declared.window_reader.Head.{Head}
use Rattle.rep_layout.specs.Formats.{digit_of, told_by, format_form}

-- what a window's body says: the format, the number of its superblock, the position, and the window there
pub record Window : Type 0 where
  pub format : Format
  pub number : ℕ
  pub position : ℕ
  pub kept : Kept

abbrev pub window : Format → ℕ → ℕ → Kept → Window
window format number position kept = record { format = format; number = number; position = position; kept = kept }

-- the window that stands beside a superblock: of its format, its number and its position
abbrev pub beside : SuperBody → Kept → Window
beside b v = window b.format b.number b.position v

-- the window with one entry more in front
abbrev pub with_first : Entry → Window → Window
with_first e w = record w { kept = record w.kept { entries = e ∷ w.kept.entries } }

-- what can stand in a window of the position that reaches down to the floor: a seqno from there on, and 1 to 16 keys of the schema,
-- strictly ascending
pub record IsEntry (p : Setting) (lowest position : ℕ) (e : Entry) : Type 0 where
  pub past : e.seqno ≤ position
  pub near : lowest ≤ e.seqno
  pub some : 1 ≤ length e.keys
  pub few : length e.keys ≤ MAX_WRITES
  pub ascend : disorder e.keys ≡ None
  pub rows : IsTrue (list_all (has_row p.rows) e.keys)

-- an entry's seqno
abbrev pub seqno_of : Entry → ℕ
seqno_of e = e.seqno

-- What the window of a position can be under these parameters: of a size within the limits, reaching down no less far than this size and
-- no less far than the next item, with no more entries than the size, of strictly ascending seqnos, each one that can stand there.
pub record IsWindowAt (p : Setting) (position : ℕ) (v : Kept) : Type 0 where
  pub size : IsTrue (is_window_size v.size)
  pub least : max 1 (position + 1 - v.size) ≤ v.floor
  pub most : v.floor ≤ max 1 position
  pub few : length v.entries ≤ v.size
  pub ascend : IsStrictlyIncreasing (map seqno_of v.entries)
  pub entries : AllByRecursion (IsEntry p v.floor position) v.entries

-- Which windows a format can tell: in format 1 that whose size is the parameters', and was so from the first item on.
abbrev pub IsOfFormat : Format → Setting → ℕ → Kept → Type 0
IsOfFormat One p position v = v ≡ fixed p.window position v.entries
IsOfFormat Two p position v = Unit {0}

-- What a window's body can say under these parameters.
pub record IsWindowBody (p : Setting) (w : Window) : Type 0 where
  pub number : w.number < 2 ^ 64
  pub position : w.position < 2 ^ 64
  pub format : IsOfFormat w.format p w.position w.kept
  pub kept : IsWindowAt p w.position w.kept

-- ---- the spelling

-- the first seven bytes, in front of the format's digit
unfoldable pub window_mark : List ℕ
window_mark = codes "REPWIND"

-- the entries, one after another
abbrev pub run_bytes : List Entry → List ℕ
run_bytes entries = flat_map entry_bytes entries

-- the fields of fixed length: the mark, the format's digit, the number and the position
abbrev pub front_bytes : Head → List ℕ
front_bytes head = window_mark ++ (digit_of head.format ∷ (number_bytes 8 head.number ++ number_bytes 8 head.position))

-- how many entries there are, the size and the floor, and zeros up to 256
abbrev pub reach_bytes : Head → List ℕ
reach_bytes head = number_bytes 2 head.count ++ (number_bytes 2 head.size ++ (number_bytes 8 head.floor ++ zeros 220))

abbrev pub head_bytes : Head → List ℕ
head_bytes head = front_bytes head ++ reach_bytes head

-- what a head says of a window: format 1 tells neither its size nor its floor, where it has 0 for both
abbrev pub head_with : Format → ℕ → ℕ → ℕ → ℕ → ℕ → Head
head_with format number position count size lowest =
    record { format = format; number = number; position = position; count = count; size = told_by format size; floor = told_by format lowest }

abbrev pub head_of : Window → Head
head_of w = head_with w.format w.number w.position (length w.kept.entries) w.kept.size w.kept.floor

-- A window's body, of 23,040 bytes.
abbrev pub window_bytes : Window → List ℕ
window_bytes w = head_bytes (head_of w) ++ (run_bytes w.kept.entries ++ zeros (22784 - length (run_bytes w.kept.entries)))

-- ---- the form of the head

abbrev pub HeadParts : Type 0
HeadParts = Format × (ℕ × (ℕ × (ℕ × (ℕ × ℕ))))

abbrev pub head_parts : Head → HeadParts
head_parts head = (head.format, (head.number, (head.position, (head.count, (head.size, head.floor)))))

abbrev pub head_from : HeadParts → Option Head
head_from x = Some (record { format = x.0; number = x.1.0; position = x.1.1.0; count = x.1.1.1.0; size = x.1.1.1.1.0; floor = x.1.1.1.1.1 })

abbrev pub head_fields : Form Head
head_fields = via (marked window_mark (format_form ⊗ (number 8 ⊗ (number 8 ⊗ (number 2 ⊗ (number 2 ⊗ padded (number 8) 220)))))) head_parts head_from

-- its numbers are in the range of their types
pub record HeadFits (head : Head) : Type 0 where
  pub number : head.number < 2 ^ 64
  pub position : head.position < 2 ^ 64
  pub count : head.count < 2 ^ 16
  pub size : head.size < 2 ^ 16
  pub floor : head.floor < 2 ^ 64

abbrev pub head_form : Form Head
head_form = as_named head_fields HeadFits head_bytes

-- ---- entries one after another

-- where the next entry stands: under these parameters, in a window of the position that reaches down to the floor, behind one of this
-- seqno
pub record Standing : Type 0 where
  pub params : Setting
  pub floor : ℕ
  pub position : ℕ
  pub before : ℕ

abbrev pub standing : Setting → ℕ → ℕ → ℕ → Standing
standing params lowest position before = record { params = params; floor = lowest; position = position; before = before }

-- whether the entry can stand there
abbrev pub is_entry : Standing → Entry → Bool
is_entry s e =
    nat_le (length e.keys) MAX_WRITES && nat_lt s.before e.seqno && nat_le e.seqno s.position && nat_le s.floor e.seqno
    && nat_lt 0 (length e.keys) && is_none (disorder e.keys) && list_all (has_row s.params.rows) e.keys

-- and where the one behind it does
abbrev pub next_entry : Standing → Entry → Option Standing
next_entry s e = given (is_entry s e) (standing s.params s.floor s.position e.seqno)

-- The bytes of a window's body tell what it says.
abbrev pub WindowsAreTold : Type 0
WindowsAreTold = (p : Setting) (v w : Window) → IsTrue (is_setting p) → IsWindowBody p v → IsWindowBody p w → window_bytes v ≡ window_bytes w → v ≡ w
