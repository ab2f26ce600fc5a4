-- What the bytes say of a row, and what is read of them.
use Rattle.std.proofs.Common.{◌≡◌, ℕ, Bool, true, false, List, Option, None, Some, Result, Ok, Err, refl, sym, ap, subst, ◌∙◌, arith}
use Rattle.std.specs.Prelude.{if◌then◌else◌, not, nat_lt}
use Rattle.std.proofs.lemmas.Bool.Decides.{nat_tests}
use Rattle.rep_types.specs.declared.key.Key.{Key}
use Rattle.rep_types.specs.declared.refusal.Refusal.{Refusal}
use Rattle.rep_types.specs.declared.refusal.Refusal.TheVariants.{Corrupt, BadKey, NotYet, TooOld}
use Rattle.rep_types.specs.declared.refusal.Part.TheVariants.{Pages}
use Rattle.rep_types.specs.Settings.{has_row, IsRow}
use Rattle.rep_layout.specs.declared.rows.RowPlace.{RowPlace}
use Rattle.rep_layout.specs.declared.super_body.SuperBody.{SuperBody}
use Rattle.rep_layout.specs.Rows.{row_place}
use Rattle.rep_cells.specs.Readings.{Reading}
use Rattle.rep_versions.specs.declared.versions.At.{At}
use Rattle.rep_versions.specs.Versions.{Kept, Version, IsNewest, IsAnswer, told}
use Rattle.rep_versions.specs.Following.{VersionsFollowTheItems}
use Rattle.rep_pages.specs.declared.page.Page.{Page as PageBody}
use Rattle.rep_pages.specs.Rows.{row_at}
use Rattle.rep_steps.specs.Standings.{Standing, read_refusal}
use Rattle.rep_pool.specs.BasePages.{IsBadPage, HasPage, IsPageAsSpelled, row_of_page, IsRowOfPage}
use Rattle.rep_checkpoint.specs.Laws.{BytesTellThePage}
use Rattle.rep_engine.specs.Writing.{IsRowAsSpelled}
use Rattle.rep_engine.specs.Reading.{IsOfTheBase, ReadsAt}

-- ---- of the base

-- and a row of the schema is its page's
pub row_spelled : (r : Reading) (b : SuperBody) (key : Key) (place : RowPlace) (result : Result (Option (List ℕ)) Refusal) → IsRow b.params.rows key → place ≡ row_place b.params.rows key → IsRowOfPage r b place.page place.index result → IsRowAsSpelled r b key result
row_spelled r b key place result inside is row = by row.page row.spelled row.row
  where
    by : (page : Result PageBody Refusal) → IsPageAsSpelled r b place.page page → result ≡ row_of_page place.index page → IsRowAsSpelled r b key result
    by (Ok page) spelled row_is = subst (IsRowAsSpelled r b key) (sym row_is) (record {
      row = record {
        inside = λ _. (page, subst (λ (p : RowPlace). HasPage r b p.page page) is spelled.page, ap (λ (p : RowPlace). row_at page.rows p.index) is);
        outside = λ out. absurd (out inside);
      };
      corrupt = λ e. absurd cc;
    })
    by (Err e) spelled row_is = subst (IsRowAsSpelled r b key) (sym row_is) (record {
      row = tt;
      corrupt = λ f. (inside, subst (λ (p : RowPlace). IsBadPage r b p.page) is (spelled.corrupt (as_page f)));
    })
      where
        as_page : ◌≡◌ {A = Result (Option (List ℕ)) Refusal} (Err e) (Err (Corrupt Pages)) → ◌≡◌ {A = Result PageBody Refusal} (Err e) (Err (Corrupt Pages))
        as_page f = cc

-- ---- at a position

-- a version decides
pub read_newest : VersionsFollowTheItems → (r : Reading) (b : SuperBody) (kept : Kept) (key : Key) (s : ℕ) (answer : At) (value : Option (List ℕ)) → IsAnswer kept key s answer → ((below : Option (List ℕ)) → told answer below ≡ value) → (IsOfTheBase kept key s → ⊥)
    → ReadsAt r b kept key s (Ok value)
read_newest law r b kept key s answer value is told_is above = record {
  newest = λ m version newest. sym (told_is None) ∙ (law.answers kept key s answer None is).newest m version newest;
  row = λ none. absurd (above none);
  bad = λ none bad. absurd (above none);
  corrupt = λ e. absurd cc;
}

-- where one was found there is one
pub found_above : (kept : Kept) (key : Key) (s m : ℕ) (version : Version) → IsNewest kept key s m version → IsOfTheBase kept key s → ⊥
found_above kept key s m version newest none = let never : None ≡ Some version = sym (none m newest.within) ∙ newest.stands in absurd cc

-- below them all the bytes do
pub read_below : BytesTellThePage → (r : Reading) (b : SuperBody) (kept : Kept) (key : Key) (s : ℕ) (result : Result (Option (List ℕ)) Refusal) → IsRow b.params.rows key → IsOfTheBase kept key s → IsRowAsSpelled r b key result → ReadsAt r b kept key s result
read_below law r b kept key s (Ok row) inside none is = record {
  newest = λ m version newest. absurd (found_above kept key s m version newest none);
  row = λ _. is.row;
  bad = λ _ bad. let has = is.row.inside inside in absurd (law.none r b (row_place b.params.rows key).page has.0 has.1 bad);
  corrupt = λ e. absurd cc;
}
read_below law r b kept key s (Err e) inside none is = record {
  newest = tt;
  row = λ _. tt;
  bad = λ _ bad. refl;
  corrupt = λ f. (none, (is.corrupt f).1);
}

-- ---- where it is refused

pub read_refused : (r : Reading) (b : SuperBody) (kept : Kept) (key : Key) (s : ℕ) (e : Refusal) → (e ≡ Corrupt Pages → ⊥) → ReadsAt r b kept key s (Err e)
read_refused r b kept key s e other = record {
  newest = tt;
  row = λ _. tt;
  bad = λ _ bad. refl;
  corrupt = λ f. absurd (other (same_error f));
}
  where
    same_error : {f : Refusal} → ◌≡◌ {A = Result (Option (List ℕ)) Refusal} (Err e) (Err f) → e ≡ f
    same_error p = cc

refused_by : (base durable : ℕ) (row late early : Bool) (e : Refusal) → (if not row then Some BadKey else if late then Some (NotYet durable) else if early then Some (TooOld base) else None) ≡ Some e → e ≡ Corrupt Pages → ⊥
refused_by base durable false late early e some is = absurd cc
refused_by base durable true true early e some is = absurd cc
refused_by base durable true false true e some is = absurd cc
refused_by base durable true false false e some is = absurd cc

pub refused_elsewise : (t : Standing) (key : Key) (s : ℕ) (e : Refusal) → read_refusal t key s ≡ Some e → e ≡ Corrupt Pages → ⊥
refused_elsewise t key s e some is = refused_by t.base t.durable (has_row t.setting.rows key) (nat_lt t.durable s) (nat_lt s t.base) e some is

-- a read that isn't refused is of a row
row_by : (base durable : ℕ) (row late early : Bool) → (if not row then Some BadKey else if late then Some (NotYet durable) else if early then Some (TooOld base) else None) ≡ None → row ≡ true
row_by base durable false late early e = absurd cc
row_by base durable true late early e = refl

pub row_inside : (t : Standing) (key : Key) (s : ℕ) → read_refusal t key s ≡ None → IsRow t.setting.rows key
row_inside t key s none =
    let has : has_row t.setting.rows key ≡ true = row_by t.base t.durable (has_row t.setting.rows key) (nat_lt t.durable s) (nat_lt s t.base) none in
    grind (arith, nat_tests)
