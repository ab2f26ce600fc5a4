-- What is so of each page that is kept goes on being so.
use Rattle.std.proofs.Common.{◌≡◌, ◌≢◌, refl, sym, ap, subst, ◌∙◌, ℕ, ◌-◌, inl, inr, Bool, true, false, cond, ◌∷◌, take, Option, None, Some, option_map, Contains, nat_eq}
use Rattle.std.specs.Cmp.{nat_eq_equiv}
use Rattle.std.specs.List.{IsDistinct}
use Rattle.std.specs.Map.{keys_of, lookup, lookup_entry, remove_entry, set_value}
use Rattle.std.specs.Option.{option_map_or}
use Rattle.std.proofs.lemmas.Bool.{eqb-true}
use Rattle.std.proofs.lemmas.Map.{lookup-remove_entry}
use Rattle.lru.specs.LruCache.{LruCache, lru_cache, promoted, put_entries}
use Rattle.lru.proofs.CallerLemmas.{Contains-lookup, Contains-lookup_entry, Contains-promoted, Contains-put_entries, Contains-remove_entry}
use Rattle.lru.proofs.Matching.{none_found}
use Rattle.lru.proofs.Pairs.{lookup-lookup_entry}
use Rattle.rep_layout.specs.declared.place.Slot.{Slot}
use Rattle.rep_layout.specs.declared.place.Slot.TheVariants.{First, Second}
use Rattle.rep_layout.specs.declared.place.Place.{Place}
use Rattle.rep_layout.specs.declared.place.Place.TheVariants.{Super, Window, Log, Page}
use Rattle.rep_pages.specs.declared.page.Page.{Page as PageBody}
use Rattle.rep_pool.specs.declared.pool.Kept.{Kept}
use Rattle.rep_pool.specs.declared.pool.TheConstants.{POOL_PAGES}
use Rattle.rep_pool.specs.Pools.{Pooled, is_slot, page_in, found, used, without_page, IsKept, AreEach, AreNumbered, IsFree}

same_slot : (a b : Slot) → is_slot a b ≡ true → a ≡ b
same_slot First First is = refl
same_slot First Second is = absurd cc
same_slot Second First is = absurd cc
same_slot Second Second is = refl

-- ---- without a page

-- nothing is kept of it
gone : (number : ℕ) (pages : Pooled) → IsDistinct nat_eq (keys_of pages) → lookup (nat_eq number) (without_page number pages) ≡ None
gone number pages once =
    lookup-remove_entry nat_eq_equiv (nat_eq number) (λ x y is. ap (λ (n : ℕ). nat_eq n y) (eqb-true number x is)) number pages once
    ∙ ap (λ (b : Bool). cond b None (lookup (nat_eq number) pages)) (nat_eq_equiv.refl number)

pub not_found_then : (number : ℕ) (slot : Slot) (pages : Pooled) → IsDistinct nat_eq (keys_of pages) → found number slot (without_page number pages) ≡ None
not_found_then number slot pages once = ap (page_in slot) (gone number pages once)

other_there : (number : ℕ) (pages : Pooled) (other : ℕ) (kept : Kept) → IsDistinct nat_eq (keys_of pages) → Contains (without_page number pages) (other, kept) → other ≢ number
other_there number pages other kept once there same =
    let no : nat_eq number other ≡ false = none_found (nat_eq number) (without_page number pages) (gone number pages once) (other, kept) there in
    let yes : nat_eq number other ≡ true = ap (nat_eq number) same ∙ nat_eq_equiv.refl number in
    absurd cc

-- the number of a page's place
abbrev page_number : Place → ℕ
page_number (Super side) = 0
page_number (Window side) = 0
page_number (Log cell) = 0
page_number (Page number slot) = number

-- nor of its slots
pub free_then : (number : ℕ) (slot : Slot) (pages : Pooled) → IsDistinct nat_eq (keys_of pages) → IsFree (Page number slot) (without_page number pages)
free_then number slot pages once other kept there same = other_there number pages other kept once there (ap page_number same)

-- ---- each page

module _ (Is : ℕ → Slot → PageBody → Type 0) where
  in_slot : (number : ℕ) (slot : Slot) (kept : Kept) (page : PageBody) (b : Bool) → is_slot kept.slot slot ≡ b → cond b (Some kept.page) None ≡ Some page → Is number kept.slot kept.page → Is number slot page
  in_slot number slot kept page true here same is =
      let at : kept.page ≡ page = cc in
      subst (Is number slot) at (subst (λ (s : Slot). Is number s kept.page) (same_slot kept.slot slot here) is)
  in_slot number slot kept page false here same is = absurd cc

  found_in : (number : ℕ) (slot : Slot) (pages : Pooled) (page : PageBody) (o : Option Kept) → lookup (nat_eq number) pages ≡ o → page_in slot o ≡ Some page → AreEach Is pages → Is number slot page
  found_in number slot pages page None at same each = absurd cc
  found_in number slot pages page (Some kept) at same each =
      let was = Contains-lookup (nat_eq number) pages kept at in
      let is : Is number kept.slot kept.page = subst (λ (n : ℕ). Is n kept.slot kept.page) (sym (eqb-true number was.0 was.2)) (each was.0 kept was.1) in
      in_slot number slot kept page (is_slot kept.slot slot) refl same is

  -- what is found is one of them
  pub found_is : (number : ℕ) (slot : Slot) (pages : Pooled) (page : PageBody) → found number slot pages ≡ Some page → AreEach Is pages → Is number slot page
  found_is number slot pages page same each = found_in number slot pages page (lookup (nat_eq number) pages) refl same each

  -- a page that is used is one of them
  pub used_each : (number : ℕ) (pages : Pooled) → AreEach Is pages → AreEach Is (used number pages)
  used_each number pages each n kept there = each n kept (Contains-promoted (nat_eq number) pages (n, kept) there)

  -- so are those beside one that is put
  put_each : (number : ℕ) (kept : Kept) (old : LruCache ℕ Kept) → Is number kept.slot kept.page → AreEach Is old.entries → AreEach Is (put_entries nat_eq old number kept)
  put_each number kept old is each n other there = elim (Contains-put_entries nat_eq old number kept (n, other) there) [
    | inl was ↦ each n other was
    | inr new ↦ (
        let same : n ≡ number = elim new.1 [
          | inl at ↦ at
          | inr at ↦ sym (eqb-true number n at.2)
        ] in
        subst (λ (m : ℕ). Is m other.slot other.page) (sym same) (subst (λ (k : Kept). Is number k.slot k.page) (sym new.0) is))
  ]

  pub kept_each : (number : ℕ) (kept : Kept) (before after : Pooled) → IsKept number kept before after → Is number kept.slot kept.page → AreEach Is before → AreEach Is after
  kept_each number kept before after (inr stays) is each n other there = each n other (subst (λ (pages : Pooled). Contains pages (n, other)) stays.0 there)
  kept_each number kept before after (inl put) is each n other there = put_each number kept (lru_cache before POOL_PAGES) is each n other (subst (λ (pages : Pooled). Contains pages (n, other)) put there)

  -- and those beside one that goes
  pub without_each : (number : ℕ) (pages : Pooled) → AreEach Is pages → AreEach Is (without_page number pages)
  without_each number pages each n kept there = each n kept (Contains-remove_entry (nat_eq number) pages (n, kept) there)

-- ---- a page in the place of what is kept of it

over : (number : ℕ) (kept was : Kept) (old : LruCache ℕ Kept) (o : Option (ℕ × Kept)) → lookup_entry (nat_eq number) old.entries ≡ o → option_map (λ e. e.1) o ≡ Some was
    → set_value (nat_eq number) (option_map_or (λ e. e ∷ remove_entry (nat_eq number) old.entries) o old.entries) kept
    ≡ option_map_or (λ e. (e.0, kept) ∷ remove_entry (nat_eq number) old.entries) o ((number, kept) ∷ take (old.cap - 1) old.entries)
over number kept was old None at is = absurd cc
over number kept was old (Some e) at is = rw (Contains-lookup_entry (nat_eq number) old.entries e at).1

-- to write it over what is kept, once that is in front, is to put it
written_over : (number : ℕ) (kept was : Kept) (old : LruCache ℕ Kept) → lookup (nat_eq number) old.entries ≡ Some was → set_value (nat_eq number) (promoted (nat_eq number) old.entries) kept ≡ put_entries nat_eq old number kept
written_over number kept was old is = over number kept was old (lookup_entry (nat_eq number) old.entries) refl (lookup-lookup_entry (nat_eq number) old.entries ∙ is)

pub over_kept : (number : ℕ) (kept was : Kept) (old : LruCache ℕ Kept) (before : Pooled) → old.cap ≡ POOL_PAGES → old.entries ≡ before → lookup (nat_eq number) old.entries ≡ Some was
    → IsKept number kept before (set_value (nat_eq number) (promoted (nat_eq number) old.entries) kept)
over_kept number kept was old before cap view is =
    inl (written_over number kept was old is ∙ (ap (λ (n : ℕ). put_entries nat_eq (lru_cache old.entries n) number kept) cap ∙ ap (λ (es : Pooled). put_entries nat_eq (lru_cache es POOL_PAGES) number kept) view))

-- ---- what holds of every pool

abbrev Holds : LruCache ℕ Kept → Type 0
Holds cache = (cache.cap ≡ POOL_PAGES) × AreNumbered cache.entries

abbrev is_numbered : ℕ → Slot → PageBody → Type 0
is_numbered number slot page = page.number ≡ number

pub promoted_holds : (number : ℕ) (old new : LruCache ℕ Kept) → new ≡ lru_cache (promoted (nat_eq number) old.entries) old.cap → Holds old → Holds new
promoted_holds number old new is holds = subst Holds (sym is) (holds.0, used_each is_numbered number old.entries holds.1)

pub removed_holds : (number : ℕ) (old new : LruCache ℕ Kept) → new ≡ lru_cache (remove_entry (nat_eq number) old.entries) old.cap → Holds old → Holds new
removed_holds number old new is holds = subst Holds (sym is) (holds.0, without_each is_numbered number old.entries holds.1)
