-- A page without a change has the same rows later.
use Rattle.std.proofs.Common.{◌≡◌, ◌≢◌, refl, sym, ap, subst, ◌∙◌, ℕ, ◌<◌, ◌≤◌, ◌⊎◌, inl, inr, Bool, true, false, true≢false, List, Option, Some, None, IsSome, arith}
use Rattle.std.specs.Str.{bytes_eq}
use Rattle.std.proofs.lemmas.Bool.{cases_lt}
use Rattle.std.proofs.lemmas.List.{same_lists, get_or_default}
use Rattle.std.proofs.lemmas.Option.{same_Some}
use Rattle.std.proofs.lemmas.Slice.Eq.{bytes_eq-Decides}
use Rattle.rep_types.specs.declared.limits.TheConstants.{ROWS_PER_PAGE}
use Rattle.rep_types.specs.declared.key.Key.{Key}
use Rattle.rep_types.specs.Settings.{IsRow}
use Rattle.rep_layout.specs.declared.rows.RowPlace.{RowPlace}
use Rattle.rep_layout.specs.Rows.{row_place}
use Rattle.rep_versions.specs.Versions.{Kept, Version, version_at, HasChange}
use Rattle.rep_pages.specs.declared.page.Page.{Page}
use Rattle.rep_pages.specs.Rows.{row_at}
use Rattle.rep_pages.specs.Pages.{place, IsPastRows, EndWithTheTable}
use Rattle.rep_pages.specs.Images.{IsImage, UnchangedPagesStay}

-- two lists of bytes are one, or are not
one_or_two : (a b : List ℕ) → ((a ≡ b) ⊎ (a ≢ b))
one_or_two a b = by (bytes_eq a b) refl
  where
    by : (r : Bool) → bytes_eq a b ≡ r → ((a ≡ b) ⊎ (a ≢ b))
    by true e = inl ((bytes_eq-Decides a b).0 e)
    by false e = inr (λ same. true≢false (sym ((bytes_eq-Decides a b).1 same) ∙ e))

-- rows that can't differ are one
undiffering : (a b : Option (List ℕ)) → (a ≢ b → a ≡ b) → a ≡ b
undiffering None None h = refl
undiffering None (Some y) h = h (λ e. absurd cc)
undiffering (Some x) None h = h (λ e. absurd cc)
undiffering (Some x) (Some y) h = by (one_or_two x y)
  where
    by : ((x ≡ y) ⊎ (x ≢ y)) → ◌≡◌ {A = Option (List ℕ)} (Some x) (Some y)
    by (inl e) = ap Some e
    by (inr ne) = h (λ e. ne (same_Some x y e))

module _ (schema : List ℕ) (kept : Kept) (base position : ℕ) (old new : Page) (early : (key : Key) (m : ℕ) → m ≤ base → version_at kept key m ≡ None)
    (past : EndWithTheTable schema old.number old.rows) (none : HasChange kept schema base position old.number → ⊥) (image : IsImage schema kept position old new) where
  -- a row of the page has no version
  unwritten : (key : Key) → IsRow schema key → (row_place schema key).page ≡ old.number → (m : ℕ) → m ≤ position → version_at kept key m ≡ None
  unwritten key row there m le = by (cases_lt base m) (version_at kept key m) refl
    where
      by : ((base < m) ⊎ (m ≤ base)) → (o : Option Version) → version_at kept key m ≡ o → version_at kept key m ≡ None
      by (inr before) o e = early key m before
      by (inl above) None e = e
      by (inl above) (Some v) e =
          absurd (none (record { version = record { key = key; seqno = m }; stands = subst IsSome (sym e) refl; within = record { above = above; up_to = le; row = row }; there = there }))

  -- so a row that lies there stays
  row_stays : (key : Key) (index : ℕ) → IsRow schema key → row_place schema key ≡ place old.number index → row_at new.rows index ≡ row_at old.rows index
  row_stays key index row there =
      let page : (row_place schema key).page ≡ old.number = ap (λ (p : RowPlace). p.page) there in
      let at : (row_place schema key).index ≡ index = ap (λ (p : RowPlace). p.index) there in
      subst (λ i. row_at new.rows i ≡ row_at old.rows i) at ((image.rows key row page).none (unwritten key row page))

  -- and where none lies, the row is absent before and after
  stays : (index : ℕ) → index < ROWS_PER_PAGE → row_at new.rows index ≡ row_at old.rows index
  stays index lt = undiffering (row_at new.rows index) (row_at old.rows index) (λ ne.
      let none_there : IsPastRows schema old.number index = λ key row there. ne (row_stays key index row there) in
      image.past index lt none_there ∙ sym (past index lt none_there))

pub unchanged_stay : UnchangedPagesStay
unchanged_stay schema kept base position old new early size past none image =
    same_lists new.rows old.rows (image.size ∙ sym size) (λ k d lt.
    let within : k < ROWS_PER_PAGE = omega (arith, lt, image.size) in
    get_or_default new.rows k d None lt ∙ stays schema kept base position old new early past none image k within ∙ get_or_default old.rows k None d (omega (arith, within, size)))
