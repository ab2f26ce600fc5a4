-- The rows of an image, one after another.
use Rattle.std.proofs.Common.{◌≡◌, sym, subst, ◌∙◌, ℕ, ◌+◌, ◌<◌, ◌≤◌, ◌⊎◌, inl, inr, List, [], ◌∷◌, ◌++◌, length, Option, None, arith, length-append}
use Rattle.std.proofs.lemmas.Bool.{cases_lt}
use Rattle.std.proofs.lemmas.List.{get_or_push, get_or_append_left}
use Rattle.rep_types.specs.declared.key.Key.{Key}
use Rattle.rep_types.specs.Settings.{IsRow}
use Rattle.rep_layout.specs.Rows.{row_place}
use Rattle.rep_versions.specs.Versions.{Kept, IsRowAt}
use Rattle.rep_pages.specs.declared.page.Page.{Page}
use Rattle.rep_pages.specs.Rows.{Rows, row_at}
use Rattle.rep_pages.specs.Pages.{place, IsPastRows}

-- these are the first rows of the image
pub record AreImages (schema : List ℕ) (kept : Kept) (position : ℕ) (base : Page) (count : ℕ) (rows : Rows) : Type 0 where
  pub size : length rows ≡ count
  pub here : (key : Key) (index : ℕ) → index < count → IsRow schema key → row_place schema key ≡ place base.number index → IsRowAt kept key position (row_at base.rows index) (row_at rows index)
  pub past : (index : ℕ) → index < count → IsPastRows schema base.number index → row_at rows index ≡ None

module _ (schema : List ℕ) (kept : Kept) (position : ℕ) (base : Page) (count : ℕ) (rows : Rows) (row : Option (List ℕ)) where
  -- one row more
  pub image_more : ((key : Key) → IsRow schema key → row_place schema key ≡ place base.number count → IsRowAt kept key position (row_at base.rows count) row)
      → (IsPastRows schema base.number count → row ≡ None) → AreImages schema kept position base count rows → AreImages schema kept position base (count + 1) (rows ++ row ∷ [])
  image_more here past so_far = record {
    size = omega (arith, length-append rows (row ∷ []), so_far.size);
    here = λ key index lt is there. by key index (cases_lt index count) lt is there;
    past = λ index lt none. by_past index (cases_lt index count) lt none;
  }
    where
      last : (index : ℕ) → count ≤ index → index < count + 1 → (index ≡ count) × (row_at (rows ++ row ∷ []) index ≡ row)
      last index ge lt = (omega (arith, ge, lt), get_or_push rows row None index (omega (arith, ge, lt, so_far.size)))

      by : (key : Key) (index : ℕ) → ((index < count) ⊎ (count ≤ index)) → index < count + 1 → IsRow schema key → row_place schema key ≡ place base.number index
          → IsRowAt kept key position (row_at base.rows index) (row_at (rows ++ row ∷ []) index)
      by key index (inl before) lt is there = rw (get_or_append_left rows (row ∷ []) None index (omega (arith, before, so_far.size))) (so_far.here key index before is there)
      by key index (inr ge) lt is there =
          let on = last index ge lt in
          rw on.1 (subst (λ i. IsRowAt kept key position (row_at base.rows i) row) (sym on.0) (here key is (subst (λ i. row_place schema key ≡ place base.number i) on.0 there)))

      by_past : (index : ℕ) → ((index < count) ⊎ (count ≤ index)) → index < count + 1 → IsPastRows schema base.number index → row_at (rows ++ row ∷ []) index ≡ None
      by_past index (inl before) lt none = get_or_append_left rows (row ∷ []) None index (omega (arith, before, so_far.size)) ∙ so_far.past index before none
      by_past index (inr ge) lt none =
          let on = last index ge lt in
          on.1 ∙ past (subst (IsPastRows schema base.number) on.0 none)
