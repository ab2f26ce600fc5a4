-- The law of superblocks as bytes.
use Rattle.std.proofs.Common.{◌≡◌, ℕ, ◌<◌, ◌≤◌, ◌^◌, true, List, [], ◌∷◌, length, refl, append_assoc, arith}
use Rattle.std.specs.List.{AllByRecursion}
use Rattle.std.proofs.lemmas.Bool.Decides.{nat_tests}
use Rattle.std.proofs.lemmas.List.Sums.{sum_by-cons}
use Rattle.rep_types.specs.declared.limits.TheConstants.{MAX_PAGES, MAX_TABLES, MAX_WINDOW, MAX_CELLS}
use Rattle.rep_types.specs.Settings.{Setting, page_count, pages_of, is_setting}
use Rattle.rep_forms.specs.Forms.{IsForm}
use Rattle.rep_forms.specs.FormLaws.{forms, named_is_form}
use Rattle.rep_layout.specs.declared.super_body.SuperBody.{SuperBody}
use Rattle.rep_layout.specs.FormatLaws.{format_is_form}
use Rattle.rep_layout.specs.PageStateLaws.{states_is_form}
use Rattle.rep_layout.specs.Supers.{IsSuper, setting_fields, setting_form, super_fields, super_form}

-- ---- parameters

-- the limits of parameters
pub record Limits (p : Setting) : Type 0 where
  pub window : p.window ≤ MAX_WINDOW
  pub cells : p.cells ≤ MAX_CELLS
  pub tables : length p.rows ≤ MAX_TABLES
  pub pages : pages_of p.rows ≤ MAX_PAGES

pub limits_of : (p : Setting) → is_setting p ≡ true → Limits p
limits_of p h = record { window = grind (arith, nat_tests); cells = grind (arith, nat_tests); tables = grind (arith, nat_tests); pages = grind (arith, nat_tests) }

-- tables of no more pages have few rows
pub rows_fit : (rows : List ℕ) → pages_of rows ≤ MAX_PAGES → AllByRecursion (λ (n : ℕ). n < 2 ^ 32) rows
rows_fit [] h = tt
rows_fit (n ∷ rows) h = (omega (arith, h, sum_by-cons page_count n rows), rows_fit rows (omega (arith, h, sum_by-cons page_count n rows)))

setting_fits : (p : Setting) → is_setting p ≡ true → setting_fields.Fits p
setting_fits p h =
    let limits = limits_of p h in (
      (omega (arith, limits.window), (omega (arith, limits.cells), (omega (arith, limits.tables), record { size = refl; few = limits.tables; each = rows_fit p.rows limits.pages }))),
      rw h refl,
    )

pub setting_is_form : IsForm setting_form
setting_is_form = named_is_form setting_fields _ _ (search forms depth 12) setting_fits (λ p h. refl)

-- ---- superblocks

super_fits : (s : SuperBody) → IsSuper s → super_fields.Fits s
super_fits s h =
    let limits = limits_of s.params h.setting in
    let few : length s.pages.items ≤ MAX_PAGES = omega (arith, h.pages, limits.pages) in (
      (
        (tt, (omega (arith, h.number, h.position), (h.uuid, h.setting))),
        ((omega (arith, h.position), (omega (arith, h.start, h.position), omega (arith, few))), record { size = refl; few = few }),
      ),
      refl,
    )

pub super_is_form : IsForm super_form
super_is_form = named_is_form super_fields _ _ (search (forms, format_is_form, setting_is_form, states_is_form) depth 16) super_fits (λ s h. simp append_assoc)
