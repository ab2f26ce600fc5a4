-- The images of an order's pages have the order's rows.
use Rattle.std.proofs.Common.{◌≡◌, ◌∙◌, ℕ, ◌≤◌, take}
use Rattle.rep_types.specs.Settings.{Setting}
use Rattle.rep_types.specs.Order.{Order, read, rows}
use Rattle.rep_layout.specs.Rows.{row_place}
use Rattle.rep_versions.specs.Versions.{Kept, IsRowAt}
use Rattle.rep_versions.specs.Following.{AreVersionsOf, changes_of, VersionsFollowTheItems}
use Rattle.rep_pages.specs.declared.page.Page.{Page}
use Rattle.rep_pages.specs.Images.{row_of, IsImage, HasRows, ImagesFollowTheOrder}

later_rows : VersionsFollowTheItems → (p : Setting) (L : Order) (base position : ℕ) (kept : Kept) (old new : Page) → base ≤ position → AreVersionsOf base (changes_of p L base) kept
    → HasRows p.rows old (λ key. read p L key base) → IsImage p.rows kept position old new → HasRows p.rows new (λ key. read p L key position)
later_rows laws p L base position kept old new le are has image = record {
  rows = λ key row there.
      let page : (row_place p.rows key).page ≡ old.number = there ∙ image.number in
      let below : IsRowAt kept key position (rows p (take base L) key) (row_of p.rows new.rows key) = rw (← has.rows key row page) (image.rows key row page) in
      laws.row base position (changes_of p L base) kept (rows p (take base L)) key (row_of p.rows new.rows key) le are below ∙ laws.order p L base position key le;
  past = rw image.number image.past;
}

pub follow_order : VersionsFollowTheItems → ImagesFollowTheOrder
follow_order laws = record {
  later = later_rows laws;
  absent = λ p L page none. record { rows = λ key row there. none (row_place p.rows key).index; past = λ index lt past. none index };
}
