-- The numbers of a window of a position are in the range of their types, and such windows there are.
use Rattle.std.proofs.Common.{◌≡◌, ℕ, ◌^◌, ◌<◌, ◌≤◌, true, List, [], ◌∷◌, length, refl, arith}
use Rattle.std.specs.List.{list_all, AllByRecursion}
use Rattle.std.proofs.lemmas.Bool.Decides.{nat_tests}
use Rattle.rep_types.specs.declared.key.Key.{Key}
use Rattle.rep_types.specs.Entries.{Entry}
use Rattle.rep_types.specs.Settings.{Setting, is_setting, has_row}
use Rattle.rep_types.specs.Windows.{Window, fixed, is_window_size}
use Rattle.rep_types.proofs.Lists.{below_one_of}
use Rattle.rep_forms.specs.Keys.{KeyFits}
use Rattle.rep_forms.specs.Entries.{EntryFits}
use Rattle.rep_layout.specs.declared.format.Format.{Format}
use Rattle.rep_layout.specs.declared.format.Format.TheVariants.{One, Two}
use Rattle.rep_layout.specs.SuperLaws.{limits_of, rows_fit}
use Rattle.rep_layout.specs.Windows.{IsEntry, IsOfFormat, IsWindowAt}

-- a size is 256 at most
pub size_few : (size : ℕ) → is_window_size size ≡ true → size ≤ 256
size_few size is = grind (arith, nat_tests)

pub kept_fits : (p : Setting) (position : ℕ) (v : Window) → position < 2 ^ 64 → IsWindowAt p position v → (v.size < 2 ^ 16) × (v.floor < 2 ^ 64) × (length v.entries < 2 ^ 16)
kept_fits p position v small w =
    let few = size_few v.size w.size in
    (omega (arith, few), omega (arith, w.most, small), omega (arith, w.few, few))

-- ---- its entries can be spelled

keys_fit : (rows : List ℕ) (keys : List Key) → AllByRecursion (λ (n : ℕ). n < 2 ^ 32) rows → length rows ≤ 8 → list_all (has_row rows) keys ≡ true → AllByRecursion KeyFits keys
keys_fit rows [] fit few h = tt
keys_fit rows (key ∷ keys) fit few h = (grind (arith, nat_tests, below_one_of rows key.table key.row fit), keys_fit rows keys fit few (grind (arith, nat_tests)))

pub entries_fit : (p : Setting) (lowest position : ℕ) (es : List Entry) → is_setting p ≡ true → position < 2 ^ 64 → AllByRecursion (IsEntry p lowest position) es → AllByRecursion EntryFits es
entries_fit p lowest position [] setting small h = tt
entries_fit p lowest position (e ∷ es) setting small h =
    let limits = limits_of p setting in (
      record { seqno = omega (arith, h.0.past, small); few = h.0.few; keys = keys_fit p.rows e.keys (rows_fit p.rows limits.pages) limits.tables h.0.rows },
      entries_fit p lowest position es setting small h.1,
    )

-- ---- a window without entries

pub fixed_told : (format : Format) (p : Setting) (position : ℕ) → IsOfFormat format p position (fixed p.window position [])
fixed_told One p position = refl
fixed_told Two p position = tt

first_size : (p : Setting) → is_setting p ≡ true → is_window_size p.window ≡ true
first_size p setting = grind (arith, nat_tests)

some_size : (size : ℕ) → is_window_size size ≡ true → 1 ≤ size
some_size size is = grind (arith, nat_tests)

pub fixed_stands : (p : Setting) (position : ℕ) → is_setting p ≡ true → IsWindowAt p position (fixed p.window position [])
fixed_stands p position setting =
    let size = first_size p setting in
    let some = some_size p.window size in
    record { size = size; least = omega arith; most = omega (arith, some); few = omega arith; ascend = λ k lt. absurd (omega (arith, lt)); entries = tt }
