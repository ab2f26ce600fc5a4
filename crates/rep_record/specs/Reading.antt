-- How a line of an order text is read: functions of its words and bytes, each None where there is nothing of the form.
use Rattle.std.specs.Prelude.{ℕ, ◌+◌, ◌*◌, ◌^◌, Bool, false, ◌==◌, ◌&&◌, nat_lt, if◌then◌else◌, List, [], ◌∷◌, length, drop, codes, Option, None, Some, Result, Ok, Err}
use Rattle.std.specs.List.{list_any}
use Rattle.std.specs.Option.{option_map, option_map_or}
use Rattle.std.specs.Char.{digit_value, is_digit}
use Rattle.std.specs.Str.{bytes_eq}
use Rattle.rep_types.specs.declared.key.Key.{Key}
use Rattle.rep_types.specs.declared.value.Write.{Write}
use Rattle.rep_types.specs.declared.item.Item.{Item}
use Rattle.rep_types.specs.declared.item.Item.TheVariants.{WriteSet, SetWindow as OfSetWindow}
use Rattle.rep_types.specs.declared.item.SetWindow.{SetWindow}
use Rattle.rep_types.specs.declared.refusal.Refusal.{Refusal}
use Rattle.rep_types.specs.declared.refusal.Refusal.TheVariants.{Malformed, TooManyReads, TooManyWrites, ValueTooLong, BadParams}
use Rattle.rep_types.specs.Transactions.{Transaction, transaction, misplaced}
use Rattle.rep_types.specs.Settings.{Setting, setting, allowed}
use Rattle.rep_types.specs.Windows.{is_window_size}
pub use Rattle.rep_types.specs.Numbers.{given, is_number}
unfoldable pub use Rattle.rep_types.specs.Numbers.{number_in}
use Rattle.rep_forms.specs.Options.{◌>>=◌}
use Rattle.rep_record.specs.Words.{words, cut}

-- ---- how pieces and parts are read together

-- a piece before the first mark, and one behind it
abbrev pub pair_at : {A B : Type 0} → ℕ → (List ℕ → Option A) → (List ℕ → Option B) → List ℕ → Option (A × B)
pair_at mark f g word = do
  parts ← cut mark word
  x ← f parts.0
  y ← g parts.1
  Some (x, y)

-- whether the next word is this text
abbrev pub is_next : List ℕ → List (List ℕ) → Bool
is_next text [] = false
is_next text (word ∷ rest) = bytes_eq word text

-- what the words behind this one are
abbrev pub after : {A : Type 0} → List ℕ → (List (List ℕ) → Option A) → List (List ℕ) → Option A
after text f words = if is_next text words then f (drop 1 words) else None

-- the same with the words behind it, or a value and all of the words
abbrev pub optional : {A : Type 0} → List ℕ → A → (List (List ℕ) → Option (A × List (List ℕ))) → List (List ℕ) → Option (A × List (List ℕ))
optional text value f words = if is_next text words then f (drop 1 words) else Some (value, words)

-- a part, and what the words behind it are
abbrev pub behind : {A B : Type 0} → (List (List ℕ) → Option (A × List (List ℕ))) → (List (List ℕ) → Option B) → List (List ℕ) → Option (A × B)
behind f g words = f words >>= λ x. g x.1 >>= λ y. Some (x.0, y)

-- what the next word is, and the words after it
abbrev pub next : {A : Type 0} → (List ℕ → Option A) → List (List ℕ) → Option (A × List (List ℕ))
next f [] = None
next f (word ∷ rest) = f word >>= λ x. Some (x, rest)

-- nothing, where no word is left
abbrev pub nothing_in : List (List ℕ) → Option (Unit {0})
nothing_in words = given (length words == 0) tt

-- what each word is
unfoldable pub each : {A : Type 0} → (List ℕ → Option A) → List (List ℕ) → Option (List A)
each f [] = Some []
each f (word ∷ rest) = f word >>= λ x. each f rest >>= λ xs. Some (x ∷ xs)

-- what each word is, of one word or more
abbrev pub some_each : {A : Type 0} → (List ℕ → Option A) → List (List ℕ) → Option (List A)
some_each f words = if nat_lt 0 (length words) then each f words else None

-- ---- the pieces

-- a key: `table/row`
unfoldable pub key_in : List ℕ → Option Key
key_in word = pair_at 47 (number_in (2 ^ 8)) (number_in (2 ^ 32)) word >>= λ x. Some (record { table = x.0; row = x.1 })

-- labels: `source:trx`
unfoldable pub label_in : List ℕ → Option (ℕ × ℕ)
label_in word = pair_at 58 (number_in (2 ^ 64)) (number_in (2 ^ 64)) word

-- the byte that two digits write
unfoldable pub byte_in : ℕ → ℕ → Option ℕ
byte_in high low = given (is_digit high 16 && is_digit low 16) (16 * digit_value high + digit_value low)

-- the bytes that hexadecimal digits write
unfoldable pub hex_in : List ℕ → Option (List ℕ)
hex_in [] = Some []
hex_in (high ∷ []) = None
hex_in (high ∷ low ∷ digits) = do
  byte ← byte_in high low
  bytes ← hex_in digits
  Some (byte ∷ bytes)

-- a put, of the key before `=` and the digits behind it
unfoldable pub put_in : List ℕ × List ℕ → Option Write
put_in parts = do
  key ← key_in parts.0
  bytes ← hex_in parts.1
  Some (record { key = key; value = Some bytes })

-- the key before `-`, where nothing stands behind it
unfoldable pub deleted_in : List ℕ → Option Key
deleted_in word = do
  parts ← cut 45 word
  key ← key_in parts.0
  given (length parts.1 == 0) key

-- a delete of the row
abbrev pub delete : Key → Write
delete key = record { key = key; value = None }

-- a put where the word was cut at `=`, and else a delete
abbrev pub write_by : Option (List ℕ × List ℕ) → List ℕ → Option Write
write_by (Some parts) word = put_in parts
write_by None word = option_map delete (deleted_in word)

-- a write: `key=hex` or `key-`
unfoldable pub write_in : List ℕ → Option Write
write_in word = write_by (cut 61 word) word

-- ---- the parts of a line

-- the labels, and the words after them
unfoldable pub labels_in : List (List ℕ) → Option ((ℕ × ℕ) × List (List ℕ))
labels_in words = optional (codes "id") (0, 0) (next label_in) words

-- one key or more up to the word `w`, and the words from there on
unfoldable pub keys_in : List (List ℕ) → Option (List Key × List (List ℕ))
keys_in [] = None
keys_in (word ∷ rest) =
    key_in word >>= λ key. if is_next (codes "w") rest then Some (key ∷ [], rest) else (keys_in rest >>= λ keys. Some (key ∷ keys.0, keys.1))

-- the reads, and the words after them
unfoldable pub reads_in : List (List ℕ) → Option (List Key × List (List ℕ))
reads_in words = optional (codes "r") [] keys_in words

-- the writes: `w` and one write or more
unfoldable pub writes_in : List (List ℕ) → Option (List Write)
writes_in words = after (codes "w") (some_each write_in) words

-- a tail: `last_seen [id source:trx] [r key key ..] w write write ..`
unfoldable pub tail_in : List (List ℕ) → Option Transaction
tail_in words =
    behind (next (number_in (2 ^ 64))) (behind labels_in (behind reads_in writes_in)) words >>= λ x. Some (transaction x.1.0.0 x.1.0.1 x.0 x.1.1.0 x.1.1.1)

-- what stands behind `window`: `size [id source:trx]`
unfoldable pub change_in : List (List ℕ) → Option SetWindow
change_in words =
    behind (next (number_in (2 ^ 64))) (behind labels_in nothing_in) words >>= λ x. Some (record { size = x.0; source = x.1.0.0; trx = x.1.0.1 })

-- what stands behind `params`: `W N rows rows ..`
unfoldable pub setting_in : List (List ℕ) → Option Setting
setting_in words = behind (next (number_in (2 ^ 32))) (behind (next (number_in (2 ^ 32))) (some_each (number_in (2 ^ 32)))) words >>= λ x. Some (setting x.0 x.1.0 x.1.1)

-- What an item's line says, `item` and a tail, where it is of the form.
abbrev pub item_form : List ℕ → Option Transaction
item_form line = after (codes "item") tail_in (words line)

-- What a change's line says, `window` and what stands behind it, where it is of the form.
abbrev pub change_form : List ℕ → Option SetWindow
change_form line = after (codes "window") change_in (words line)

-- What a line says whose first word is `window`, a change's, and what any other says, an item's, where it is of the form.
abbrev pub order_form : List ℕ → Option Item
order_form line = if is_next (codes "window") (words line) then option_map OfSetWindow (change_form line) else option_map WriteSet (item_form line)

-- what the words say of an item: a change, `window` and what stands behind it, or a tail
abbrev pub item_in : List (List ℕ) → Option Item
item_in words = if is_next (codes "window") words then option_map OfSetWindow (change_in (drop 1 words)) else option_map WriteSet (tail_in words)

-- What a params line says, `params` and what stands behind it, where it is of the form.
abbrev pub params_form : List ℕ → Option Setting
params_form line = after (codes "params") setting_in (words line)

-- whether a value of more than 62 bytes is put
abbrev pub is_long : Write → Bool
is_long write = option_map_or (λ (bytes : List ℕ). nat_lt 62 (length bytes)) write.value false

-- the write set, where none of its keys is out of order
abbrev pub well_placed : ℕ → Transaction → Option ℕ → Result Transaction Refusal
well_placed number w None = Ok w
well_placed number w (Some at) = Err (Malformed number)

-- The write set of a line of the form, or the first limit that it passes, in the line with this number.
abbrev pub limited : ℕ → Transaction → Result Transaction Refusal
limited number w =
    if nat_lt 16 (length w.reads) then Err TooManyReads
    else if nat_lt 16 (length w.writes) then Err TooManyWrites
    else if list_any is_long w.writes then Err ValueTooLong
    else well_placed number w (misplaced w.reads w.writes)

-- The change of a line of the form, where its size is inside the limits.
abbrev pub sized : SetWindow → Result SetWindow Refusal
sized c = if is_window_size c.size then Ok c else Err BadParams

-- an item of this kind, or the refusal
abbrev pub of_kind : {A : Type 0} → (A → Item) → Result A Refusal → Result Item Refusal
of_kind kind (Ok x) = Ok (kind x)
of_kind kind (Err refusal) = Err refusal

-- The item of a line of the form, or the first limit that it passes, in the line with this number.
abbrev pub limited_item : ℕ → Item → Result Item Refusal
limited_item number (WriteSet w) = of_kind WriteSet (limited number w)
limited_item number (OfSetWindow c) = of_kind OfSetWindow (sized c)

-- what comes of a line by its number and what it says, where that has to be inside limits
abbrev pub outcome : {A B : Type 0} → (A → Result B Refusal) → ℕ → Option A → Result B Refusal
outcome limit number None = Err (Malformed number)
outcome limit number (Some x) = limit x

-- what comes of an item's line by what it says
abbrev pub item_outcome : ℕ → Option Transaction → Result Transaction Refusal
item_outcome number form = outcome (limited number) number form

-- the same of a change's line
abbrev pub change_outcome : ℕ → Option SetWindow → Result SetWindow Refusal
change_outcome number form = outcome sized number form

-- the same of a line of either kind
abbrev pub order_outcome : ℕ → Option Item → Result Item Refusal
order_outcome number form = outcome (limited_item number) number form

-- the same of a params line
abbrev pub params_outcome : ℕ → Option Setting → Result Setting Refusal
params_outcome number form = outcome allowed number form

-- What comes of an item's line with this number.
abbrev pub item_line : ℕ → List ℕ → Result Transaction Refusal
item_line number line = item_outcome number (item_form line)

-- What comes of a line of an order text behind the parameters, of either kind, with this number.
abbrev pub order_line : ℕ → List ℕ → Result Item Refusal
order_line number line = order_outcome number (order_form line)

-- What comes of a params line with this number.
abbrev pub params_line : ℕ → List ℕ → Result Setting Refusal
params_line number line = params_outcome number (params_form line)
