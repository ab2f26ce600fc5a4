-- A pool goes on to agree with its device.
use Rattle.std.proofs.Common.{◌≡◌, ◌≢◌, refl, sym, ap, subst, ◌∙◌, ℕ, ◌+◌, ◌≤◌, ◌⊎◌, inl, inr, List, length, Some, arith}
use Rattle.rep_disk.specs.History.{History, Wrote, Synced, seen, stable}
use Rattle.rep_disk.proofs.Bytes.{part-put_apart}
use Rattle.rep_disk.proofs.Images.{length-seen}
use Rattle.rep_layout.specs.declared.place.Layout.{Layout}
use Rattle.rep_layout.specs.declared.place.Slot.{Slot}
use Rattle.rep_layout.specs.declared.place.Place.{Place}
use Rattle.rep_layout.specs.declared.place.Place.TheVariants.{Page}
use Rattle.rep_layout.specs.Places.{body_len, offset_of, end_of, need_of}
use Rattle.rep_layout.proofs.PlacesApart.{lie_apart, lies_inside}
use Rattle.rep_cells.specs.Readings.{IsPlace, reading_of}
use Rattle.rep_cells.specs.Calls.{IsWithin}
use Rattle.rep_pool.specs.declared.pool.Kept.{Kept}
use Rattle.rep_pool.specs.Pools.{Pooled, used, without_page, IsKept, IsAsRead, Agrees, IsFree, PoolsGoOn}
use Rattle.rep_pool.proofs.Each.{kept_each, used_each, without_each}

-- what a page's slot reads as stays where the write lies in another place
reads_on : (l : Layout) (h : History) (place : Place) (number : ℕ) (slot : Slot) (at : ℕ) (bytes : List ℕ) → need_of l ≤ length (stable h) → IsWithin l place at (length bytes) → IsPlace l (Page number slot) → Page number slot ≢ place
    → reading_of l (seen (Wrote at bytes h)) (Page number slot) ≡ reading_of l (seen h) (Page number slot)
reads_on l h place number slot at bytes fits within there other =
    let apart : (end_of l (Page number slot) ≤ offset_of l place) ⊎ (end_of l place ≤ offset_of l (Page number slot)) = lie_apart l (Page number slot) place there within.there other in
    let inside : end_of l (Page number slot) ≤ need_of l = lies_inside l (Page number slot) there in
    let away : (at + length bytes ≤ offset_of l (Page number slot)) ⊎ (offset_of l (Page number slot) + body_len (Page number slot) ≤ at) = elim apart [
      | inl before ↦ inr (omega (arith, before, within.begins))
      | inr behind ↦ inl (omega (arith, behind, within.ends))
    ] in
    ap Some (part-put_apart (seen h) at bytes (offset_of l (Page number slot)) (body_len (Page number slot)) away (omega (arith, fits, inside, length-seen h)))

written : (rows : List ℕ) (l : Layout) (h : History) (pages : Pooled) (place : Place) (at : ℕ) (bytes : List ℕ) → IsWithin l place at (length bytes) → IsFree place pages → Agrees rows l h pages → Agrees rows l (Wrote at bytes h) pages
written rows l h pages place at bytes within free agrees = record {
  fits = agrees.fits;
  unfailed = agrees.unfailed;
  each = λ number kept there.
      let is = agrees.each number kept there in (
        is.0,
        record {
          body = is.1.body;
          shown = reads_on l h place number kept.slot at bytes agrees.fits within is.0 (free number kept there) ∙ is.1.shown;
          is_page = is.1.is_page;
          is_it = is.1.is_it;
        },
      );
}

synced : (rows : List ℕ) (l : Layout) (h : History) (pages : Pooled) → Agrees rows l h pages → Agrees rows l (Synced h) pages
synced rows l h pages agrees = record {
  fits = omega (arith, agrees.fits, length-seen h);
  unfailed = refl;
  each = agrees.each;
}

pub pools_go_on : PoolsGoOn
pools_go_on = record {
  begins = λ rows l h fits unfailed. record { fits = fits; unfailed = unfailed; each = λ number kept there. absurd (omega (arith, there.1)) };
  written = λ rows l old new pages place wrote free agrees. subst (λ (h : History). Agrees rows l h pages) (sym wrote.is) (written rows l old pages place wrote.at wrote.bytes wrote.within free agrees);
  synced = synced;
}

-- ---- what the calls make of it, where the device's history stays

module _ (rows : List ℕ) (l : Layout) (h : History) where
  pub used_agrees : (number : ℕ) (pages : Pooled) → Agrees rows l h pages → Agrees rows l h (used number pages)
  used_agrees number pages agrees = record { fits = agrees.fits; unfailed = agrees.unfailed; each = used_each (IsAsRead rows l h) number pages agrees.each }

  pub without_agrees : (number : ℕ) (pages : Pooled) → Agrees rows l h pages → Agrees rows l h (without_page number pages)
  without_agrees number pages agrees = record { fits = agrees.fits; unfailed = agrees.unfailed; each = without_each (IsAsRead rows l h) number pages agrees.each }

  pub kept_agrees : (number : ℕ) (kept : Kept) (before after : Pooled) → IsKept number kept before after → IsAsRead rows l h number kept.slot kept.page → Agrees rows l h before → Agrees rows l h after
  kept_agrees number kept before after keeps is agrees = record { fits = agrees.fits; unfailed = agrees.unfailed; each = kept_each (IsAsRead rows l h) number kept before after keeps is agrees.each }
