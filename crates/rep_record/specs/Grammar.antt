-- The grammar of a line of an order text, apart from how a line is read: what each piece of a word and each part of a line
-- says, and how they stand together.
use Rattle.std.specs.Prelude.{◌≡◌, ℕ, ◌+◌, ◌*◌, ◌^◌, ◌<◌, List, [], ◌∷◌, ◌++◌, length, codes, MatchOption, ◌⊎◌}
use Rattle.std.specs.List.{AllZip}
use Rattle.std.specs.Char.{digit_value}
use Rattle.std.specs.Str.Parse.{IsNumeral, digits_value}
use Rattle.rep_types.specs.declared.key.Key.{Key}
use Rattle.rep_types.specs.declared.value.Write.{Write}
use Rattle.rep_types.specs.declared.item.Item.{Item}
use Rattle.rep_types.specs.declared.item.Item.TheVariants.{WriteSet, SetWindow as OfSetWindow}
use Rattle.rep_types.specs.declared.item.SetWindow.{SetWindow}
use Rattle.rep_types.specs.Transactions.{Transaction}
use Rattle.rep_types.specs.Settings.{Setting}
use Rattle.rep_record.specs.Words.{words}

-- A number below the limit: one digit or more, zeros in front allowed.
pub record IsNumber (limit : ℕ) (word : List ℕ) (n : ℕ) : Type 0 where
  pub digits : IsNumeral 10 word
  pub value : digits_value 10 word ≡ n
  pub small : n < limit

-- ---- how pieces and parts stand together

infixr 5 ◌⊗◌
-- One behind another: up to some place the first says its value, and from there on the second.
pub record ◌⊗◌ {W A B : Type 0} (First : List W → A → Type 0) (Second : List W → B → Type 0) (whole : List W) (x : A × B) : Type 0 where
  pub front : List W
  pub back : List W
  pub joined : whole ≡ front ++ back
  pub first : First front x.0
  pub second : Second back x.1

-- What stands behind this mark: a byte in a word, or a word in a line.
abbrev pub After : {W A : Type 0} → W → (List W → A → Type 0) → List W → A → Type 0
After {W} mark Says whole x = (rest : List W) × (whole ≡ mark ∷ rest) × Says rest x

-- The same with its mark; or nothing at all, which says this value.
abbrev pub Optional : {W A : Type 0} → W → A → (List W → A → Type 0) → List W → A → Type 0
Optional mark value Says whole x = ((whole ≡ []) × (x ≡ value)) ⊎ After mark Says whole x

-- One word, which says the value.
abbrev pub One : {A : Type 0} → (List ℕ → A → Type 0) → List (List ℕ) → A → Type 0
One Says part x = (word : List ℕ) × (part ≡ word ∷ []) × Says word x

-- No word, which says nothing.
abbrev pub Nothing : List (List ℕ) → Unit {0} → Type 0
Nothing part said = part ≡ []

-- One word or more, each of which says one of the values, in their order.
abbrev pub More : {A : Type 0} → (List ℕ → A → Type 0) → List (List ℕ) → List A → Type 0
More Says part xs = (0 < length part) × AllZip Says part xs

-- ---- the pieces

-- A key: `table/row`. The byte 47 is `/`.
abbrev pub IsKey : List ℕ → Key → Type 0
IsKey word key = (IsNumber (2 ^ 8) ⊗ After 47 (IsNumber (2 ^ 32))) word (key.table, key.row)

-- Bytes: two hexadecimal digits each, in either case.
abbrev pub IsHex : List ℕ → List ℕ → Type 0
IsHex [] [] = Unit {0}
IsHex [] (byte ∷ bytes) = ⊥
IsHex (high ∷ []) bytes = ⊥
IsHex (high ∷ low ∷ digits) [] = ⊥
IsHex (high ∷ low ∷ digits) (byte ∷ bytes) =
    (digit_value high < 16) × (digit_value low < 16) × (byte ≡ 16 * digit_value high + digit_value low) × IsHex digits bytes

-- A write: `key=hex`, which puts these bytes, or `key-`, a delete. The byte 61 is `=`.
abbrev pub IsWrite : List ℕ → Write → Type 0
IsWrite word write = MatchOption write.value ((key : List ℕ) × (word ≡ key ++ codes "-") × IsKey key write.key) (λ bytes. (IsKey ⊗ After 61 IsHex) word (write.key, bytes))

-- Labels: `source:trx`. The byte 58 is `:`.
abbrev pub IsLabel : List ℕ → ℕ × ℕ → Type 0
IsLabel word label = (IsNumber (2 ^ 64) ⊗ After 58 (IsNumber (2 ^ 64))) word label

-- ---- the parts of a line

-- The labels' part of a line: nothing, for 0:0, or `id source:trx`.
abbrev pub AreLabels : List (List ℕ) → ℕ × ℕ → Type 0
AreLabels part label = Optional (codes "id") (0, 0) (One IsLabel) part label

-- The reads' part of a line: nothing, or `r` and one key or more.
abbrev pub AreReads : List (List ℕ) → List Key → Type 0
AreReads part keys = Optional (codes "r") [] (More IsKey) part keys

-- The writes' part of a line: `w` and one write or more.
abbrev pub AreWrites : List (List ℕ) → List Write → Type 0
AreWrites part writes = After (codes "w") (More IsWrite) part writes

-- A tail: `last_seen [id source:trx] [r key key ..] w write write ..`. It stands for a write set whatever its counts, its
-- lengths and the order of its keys are.
abbrev pub IsTail : List (List ℕ) → Transaction → Type 0
IsTail tail w = (One (IsNumber (2 ^ 64)) ⊗ (AreLabels ⊗ (AreReads ⊗ AreWrites))) tail (w.last_seen, ((w.source, w.trx), (w.reads, w.writes)))

-- An item's line: `item` and a tail.
abbrev pub IsItemLine : List ℕ → Transaction → Type 0
IsItemLine line w = After (codes "item") IsTail (words line) w

-- A change of the window's size: `size [id source:trx]`. It stands for a change whatever the size is.
abbrev pub IsChange : List (List ℕ) → SetWindow → Type 0
IsChange part c = (One (IsNumber (2 ^ 64)) ⊗ (AreLabels ⊗ Nothing)) part (c.size, ((c.source, c.trx), tt))

-- A change's line: `window` and a change.
abbrev pub IsChangeLine : List ℕ → SetWindow → Type 0
IsChangeLine line c = After (codes "window") IsChange (words line) c

-- A line of an item of either kind.
abbrev pub IsOrderLine : List ℕ → Item → Type 0
IsOrderLine line (WriteSet w) = IsItemLine line w
IsOrderLine line (OfSetWindow c) = IsChangeLine line c

-- A node's parameters: `W N rows rows ..`, one number for each table, one table or more.
abbrev pub IsSetting : List (List ℕ) → Setting → Type 0
IsSetting part p = (One (IsNumber (2 ^ 32)) ⊗ (One (IsNumber (2 ^ 32)) ⊗ More (IsNumber (2 ^ 32)))) part (p.window, (p.cells, p.rows))

-- A params line: `params` and these.
abbrev pub IsParamsLine : List ℕ → Setting → Type 0
IsParamsLine line p = After (codes "params") IsSetting (words line) p
