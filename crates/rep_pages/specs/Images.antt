-- What a page is at a later position: its rows as the versions up to there made them.
use Rattle.std.specs.Prelude.{◌≡◌, ℕ, ◌≤◌, List, length, Option, None}
use Rattle.rep_types.specs.declared.limits.TheConstants.{ROWS_PER_PAGE}
use Rattle.rep_types.specs.declared.key.Key.{Key}
use Rattle.rep_types.specs.Settings.{Setting, IsRow}
use Rattle.rep_types.specs.Order.{Order, read}
use Rattle.rep_layout.specs.Rows.{row_place}
use Rattle.rep_versions.specs.Versions.{Kept, version_at, IsRowAt, HasChange}
use Rattle.rep_versions.specs.Following.{AreVersionsOf, changes_of}
use Rattle.rep_pages.specs.declared.page.Page.{Page}
use Rattle.rep_pages.specs.Rows.{Rows, row_at}
use Rattle.rep_pages.specs.Pages.{EndWithTheTable}

-- what the rows of a page say of a row of the schema that lies there
abbrev pub row_of : List ℕ → Rows → Key → Option (List ℕ)
row_of schema rows key = row_at rows (row_place schema key).index

-- The page at a position, of what it was below the versions.
pub record IsImage (schema : List ℕ) (kept : Kept) (position : ℕ) (base page : Page) : Type 0 where
  pub number : page.number ≡ base.number
  pub there : page.position ≡ position
  pub size : length page.rows ≡ ROWS_PER_PAGE
  pub rows : (key : Key) → IsRow schema key → (row_place schema key).page ≡ base.number → IsRowAt kept key position (row_of schema base.rows key) (row_of schema page.rows key)
  pub past : EndWithTheTable schema base.number page.rows

-- A page that has no change above a base and at most at a position has there the rows that it has at the base, where there are no
-- versions up to the base: so a checkpoint doesn't write it.
abbrev pub UnchangedPagesStay : Type 0
UnchangedPagesStay = (schema : List ℕ) (kept : Kept) (base position : ℕ) (old new : Page) → ((key : Key) (m : ℕ) → m ≤ base → version_at kept key m ≡ None)
    → length old.rows ≡ ROWS_PER_PAGE → EndWithTheTable schema old.number old.rows → (HasChange kept schema base position old.number → ⊥)
    → IsImage schema kept position old new → new.rows ≡ old.rows

-- The rows of the page are these.
pub record HasRows (schema : List ℕ) (page : Page) (content : Key → Option (List ℕ)) : Type 0 where
  pub rows : (key : Key) → IsRow schema key → (row_place schema key).page ≡ page.number → row_of schema page.rows key ≡ content key
  pub past : EndWithTheTable schema page.number page.rows

-- Where a page has the order's rows at a base, and the versions are those of the items behind it, its image at a later position has
-- the order's rows there. A page without a row has those of the order's beginning.
pub record ImagesFollowTheOrder : Type 0 where
  pub later : (p : Setting) (L : Order) (base position : ℕ) (kept : Kept) (old new : Page) → base ≤ position → AreVersionsOf base (changes_of p L base) kept
      → HasRows p.rows old (λ key. read p L key base) → IsImage p.rows kept position old new → HasRows p.rows new (λ key. read p L key position)
  pub absent : (p : Setting) (L : Order) (page : Page) → ((index : ℕ) → row_at page.rows index ≡ None) → HasRows p.rows page (λ key. read p L key 0)
