-- The window of a snapshot, as a joiner takes it.
use Rattle.std.proofs.Common.{◌≡◌, ℕ, ◌<◌, ◌^◌, true, List, [], ◌∷◌, ◌++◌, length, Option, None, Some, refl, sym, ap, subst, ◌∙◌, append_assoc, append-nil, arith, length-append}
use Rattle.std.specs.Prelude.{IfSome}
use Rattle.std.specs.List.{flat_map, AllByRecursion}
use Rattle.std.specs.Io.KnownBytes.{Consumes}
use Rattle.rep_types.specs.declared.reach.Reach.{Reach}
use Rattle.rep_types.specs.Settings.{Setting}
use Rattle.rep_types.specs.Entries.{Entry}
use Rattle.rep_types.specs.Windows.{Window, is_window_size}
use Rattle.rep_forms.specs.Forms.{number, number_bytes}
use Rattle.rep_forms.specs.FormLaws.{number_is_form}
use Rattle.rep_forms.specs.Entries.{EntryFits, entry_bytes, entry_form}
use Rattle.rep_forms.specs.EntryLaws.{entry_is_form}
use Rattle.rep_layout.specs.declared.format.Format.{Format}
use Rattle.rep_layout.specs.declared.format.Format.TheVariants.{One, Two}
use Rattle.rep_layout.specs.Windows.{IsWindowAt, IsOfFormat}
use Rattle.rep_transfer.specs.Taking.{BeginWithNone}
use Rattle.rep_transfer.specs.Transfers.{reach_bytes, kept_bytes}
use Rattle.rep_catchup.specs.Snapshots.{reaching, TakesReach, NoReachComes, TakesEntries, NoEntriesCome, IsKept, NoneKeptComes}
use Rattle.rep_catchup.proofs.WindowLimits.{size_few, kept_fits}
use Rattle.rep_catchup.proofs.JoinTaking.{same_first, same_front, none_more}

-- ---- what the same bytes could have been

-- how far it reaches
same_reach : (format : Format) (p : Setting) (position : ℕ) (v w : Window) (rest more : List ℕ) → v.size < 2 ^ 16 → w.size < 2 ^ 16 → v.floor < 2 ^ 64 → w.floor < 2 ^ 64 → IsOfFormat format p position v → IsOfFormat format p position w
    → reach_bytes format v ++ rest ≡ reach_bytes format w ++ more → (v.size ≡ w.size) × (v.floor ≡ w.floor) × (rest ≡ more)
same_reach One p position v w rest more a b c d told says is = (ap (λ (u : Window). u.size) told ∙ sym (ap (λ (u : Window). u.size) says), ap (λ (u : Window). u.floor) told ∙ sym (ap (λ (u : Window). u.floor) says), is)
same_reach Two p position v w rest more a b c d told says is =
    let one = same_first (number 2) (number_is_form 2) v.size w.size (number_bytes 8 v.floor ++ rest) (number_bytes 8 w.floor ++ more) a b
    (sym (append_assoc (number_bytes 2 v.size) (number_bytes 8 v.floor) rest) ∙ is ∙ append_assoc (number_bytes 2 w.size) (number_bytes 8 w.floor) more) in
    let two = same_first (number 8) (number_is_form 8) v.floor w.floor rest more c d one.1 in
    (one.0, two.0, two.1)

no_length : (zs : List Entry) → length zs ≡ 0 → zs ≡ []
no_length [] none = refl
no_length (z ∷ zs) none = absurd (omega (arith, none))

-- as many entries
same_all : (xs ys : List Entry) (rest more : List ℕ) → length xs ≡ length ys → AllByRecursion EntryFits xs → AllByRecursion EntryFits ys → flat_map entry_bytes xs ++ rest ≡ flat_map entry_bytes ys ++ more → (ys ≡ xs) × (rest ≡ more)
same_all xs ys rest more size one two is =
    let front = same_front entry_form entry_is_form xs ys rest more one two (omega (arith, size)) is in
    let none : front.0 ≡ [] = no_length front.0 (omega (arith, size, ap length front.1, length-append xs front.0)) in
    (front.1 ∙ ap (λ (zs : List Entry). xs ++ zs) none ∙ append-nil xs, front.2 ∙ ap (λ (zs : List Entry). flat_map entry_bytes zs ++ more) none)

-- entries behind their number
abbrev run : List Entry → List ℕ
run entries = number_bytes 2 (length entries) ++ flat_map entry_bytes entries

same_run : (xs ys : List Entry) (rest more : List ℕ) → length xs < 2 ^ 16 → length ys < 2 ^ 16 → AllByRecursion EntryFits xs → AllByRecursion EntryFits ys → run xs ++ rest ≡ run ys ++ more → (ys ≡ xs) × (rest ≡ more)
same_run xs ys rest more few less one two is =
    let count = same_first (number 2) (number_is_form 2) (length xs) (length ys) (flat_map entry_bytes xs ++ rest) (flat_map entry_bytes ys ++ more) few less
    (sym (append_assoc (number_bytes 2 (length xs)) (flat_map entry_bytes xs) rest) ∙ is ∙ append_assoc (number_bytes 2 (length ys)) (flat_map entry_bytes ys) more) in
    same_all xs ys rest more count.0 one two count.1

-- a window
pub same_kept : (format : Format) (p : Setting) (position : ℕ) (v w : Window) (rest more : List ℕ) → position < 2 ^ 64 → IsKept format p position v → IsKept format p position w → kept_bytes format v ++ rest ≡ kept_bytes format w ++ more → (w ≡ v) × (rest ≡ more)
same_kept format p position v w rest more small one two is =
    let a = kept_fits p position v small one.is_window in
    let b = kept_fits p position w small two.is_window in
    let reach = same_reach format p position v w (run v.entries ++ rest) (run w.entries ++ more) a.0 b.0 a.1 b.1 one.told two.told
    (sym (append_assoc (reach_bytes format v) (run v.entries) rest) ∙ is ∙ append_assoc (reach_bytes format w) (run w.entries) more) in
    let entries = same_run v.entries w.entries rest more a.2 b.2 one.fit two.fit reach.2 in
    (λ i. record { size = sym reach.0 i; floor = sym reach.1 i; entries = entries.0 i }, entries.1)

-- ---- how far it reaches, where that is told

module _ (p : Setting) (position : ℕ) where
  -- one does that is none of a window
  pub other_size : (size : ℕ) (start between : Option (List ℕ)) → size < 2 ^ 16 → Consumes start between (number_bytes 2 size) → (is_window_size size ≡ true → ⊥) → IfSome start (NoReachComes Two p position)
  other_size size None between small taken never = tt
  other_size size (Some bytes) None small taken never = absurd taken
  other_size size (Some bytes) (Some behind) small taken never = λ v rest is_size floor told is.
      let same = same_first (number 2) (number_is_form 2) size v.size behind (number_bytes 8 v.floor ++ rest) small (omega (arith, size_few v.size is_size)) (sym taken ∙ is ∙ append_assoc (number_bytes 2 v.size) (number_bytes 8 v.floor) rest) in
      never (subst (λ n. is_window_size n ≡ true) (sym same.0) is_size)

  -- no floor stands behind it
  pub no_floor : (size : ℕ) (start between : Option (List ℕ)) → size < 2 ^ 16 → Consumes start between (number_bytes 2 size) → IfSome between (BeginWithNone (λ n. n < 2 ^ 64) (number_bytes 8)) → IfSome start (NoReachComes Two p position)
  no_floor size None between small taken none = tt
  no_floor size (Some bytes) None small taken none = absurd taken
  no_floor size (Some bytes) (Some behind) small taken none = λ v rest is_size floor told is.
      let same = same_first (number 2) (number_is_form 2) size v.size behind (number_bytes 8 v.floor ++ rest) small (omega (arith, size_few v.size is_size)) (sym taken ∙ is ∙ append_assoc (number_bytes 2 v.size) (number_bytes 8 v.floor) rest) in
      none v.floor rest floor same.1

-- ---- the window

module _ (format : Format) (p : Setting) (position : ℕ) (small : position < 2 ^ 64) where
  module _ (r : Reach) (from mid : ℕ) (start between : Option (List ℕ)) (t : TakesReach format p position r from mid start between) where
    -- no entries stand behind that, of a window that reaches so far
    abbrev NoRunStands : List ℕ → Type 0
    NoRunStands bytes = (v : Window) (rest : List ℕ) → v.size ≡ r.size → v.floor ≡ r.floor → IsKept format p position v → bytes ≡ run v.entries ++ rest → ⊥

    none_behind : IfSome between NoRunStands → IfSome start (NoneKeptComes format p position)
    none_behind none = by start between (t.took []).taken none
      where
        by : (a b : Option (List ℕ)) → Consumes a b (reach_bytes format (reaching r [])) → IfSome b NoRunStands → IfSome a (NoneKeptComes format p position)
        by None b taken none = tt
        by (Some bytes) None taken none = absurd taken
        by (Some bytes) (Some behind) taken none = λ v rest kept is.
            let fits = kept_fits p position v small kept.is_window in
            let same = same_reach format p position (reaching r []) v behind (run v.entries ++ rest) (omega (arith, size_few r.size t.size)) fits.0 t.floor fits.1 (t.told []) kept.told
            (sym taken ∙ is ∙ append_assoc (reach_bytes format v) (run v.entries) rest) in
            none v rest (sym same.0) (sym same.1) kept same.2

    -- nor how many they are
    pub no_count : IfSome between (BeginWithNone (λ n. n < 2 ^ 16) (number_bytes 2)) → IfSome start (NoneKeptComes format p position)
    no_count none = none_behind (by between none)
      where
        by : (b : Option (List ℕ)) → IfSome b (BeginWithNone (λ n. n < 2 ^ 16) (number_bytes 2)) → IfSome b NoRunStands
        by None none = tt
        by (Some bytes) none = λ v rest size floor kept is.
            none (length v.entries) (flat_map entry_bytes v.entries ++ rest) (kept_fits p position v small kept.is_window).2 (is ∙ append_assoc (number_bytes 2 (length v.entries)) (flat_map entry_bytes v.entries) rest)

    module _ (count : ℕ) (left : Option (List ℕ)) (few : count < 2 ^ 16) (counted : Consumes between left (number_bytes 2 count)) where
      -- no entries, so many, stand behind their number
      abbrev NoneOfThem : List ℕ → Type 0
      NoneOfThem bytes = (v : Window) (rest : List ℕ) → v.size ≡ r.size → v.floor ≡ r.floor → IsKept format p position v → length v.entries ≡ count → bytes ≡ flat_map entry_bytes v.entries ++ rest → ⊥

      none_counted : IfSome left NoneOfThem → IfSome start (NoneKeptComes format p position)
      none_counted none = none_behind (by between left counted none)
        where
          by : (a b : Option (List ℕ)) → Consumes a b (number_bytes 2 count) → IfSome b NoneOfThem → IfSome a NoRunStands
          by None b taken none = tt
          by (Some bytes) None taken none = absurd taken
          by (Some bytes) (Some behind) taken none = λ v rest size floor kept is.
              let same = same_first (number 2) (number_is_form 2) count (length v.entries) behind (flat_map entry_bytes v.entries ++ rest) few (kept_fits p position v small kept.is_window).2
              (sym taken ∙ is ∙ append_assoc (number_bytes 2 (length v.entries)) (flat_map entry_bytes v.entries) rest) in
              none v rest size floor kept (sym same.0) same.1

      -- they are more than the size
      pub too_many : r.size < count → IfSome start (NoneKeptComes format p position)
      too_many above = none_counted (by left)
        where
          by : (b : Option (List ℕ)) → IfSome b NoneOfThem
          by None = tt
          by (Some bytes) = λ v rest size floor kept same is. (let most = kept.is_window.few in omega (arith, most, size, same, above))

      -- so many don't stand there
      pub no_entries : IfSome left (NoEntriesCome count) → IfSome start (NoneKeptComes format p position)
      no_entries none = none_counted (by left none)
        where
          by : (b : Option (List ℕ)) → IfSome b (NoEntriesCome count) → IfSome b NoneOfThem
          by None none = tt
          by (Some bytes) none = λ v rest size floor kept same is. none v.entries rest same kept.fit is

      -- those that do are no window of the position
      pub no_window : (entries : List Entry) (at now : ℕ) (last : Option (List ℕ)) → TakesEntries count entries at now left last → (IsWindowAt p position (reaching r entries) → ⊥) → IfSome start (NoneKeptComes format p position)
      no_window entries at now last e never = none_counted (by left last e.took.taken)
        where
          by : (a b : Option (List ℕ)) → Consumes a b (flat_map entry_bytes entries) → IfSome a NoneOfThem
          by None b taken = tt
          by (Some bytes) None taken = absurd taken
          by (Some bytes) (Some behind) taken = λ v rest size floor kept same is.
              let are = same_all entries v.entries behind rest (e.size ∙ sym same) e.fit kept.fit (sym taken ∙ is) in
              never (subst (IsWindowAt p position) (λ i. record { size = size i; floor = floor i; entries = are.0 i }) kept.is_window)

-- ---- entries

-- no more of them stand there
pub entries_cut : (index count : ℕ) (entries : List Entry) (from now : ℕ) (start before : Option (List ℕ)) → index < count → TakesEntries index entries from now start before → IfSome before (BeginWithNone EntryFits entry_bytes) → IfSome start (NoEntriesCome count)
entries_cut index count entries from now start before few t none = none_more entry_form entry_is_form entries count start before t.took.taken t.fit (omega (arith, few, t.size)) none
