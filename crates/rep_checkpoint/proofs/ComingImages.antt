-- What a sync makes of a snapshot, and what an image has of it.
use Rattle.std.proofs.Common.{◌≡◌, refl, ap, subst, ◌∙◌, ℕ, inl, inr, None}
use Rattle.rep_types.specs.Order.{State}
use Rattle.rep_layout.specs.declared.super_body.SuperBody.{SuperBody}
use Rattle.rep_layout.specs.declared.place.Layout.{Layout}
use Rattle.rep_layout.specs.declared.place.Place.TheVariants.{Super}
use Rattle.rep_layout.specs.Places.{layout_of, TurnsAreTaken}
use Rattle.rep_layout.specs.Supers.{super_bytes}
use Rattle.rep_cells.specs.Readings.{Reading}
use Rattle.rep_cells.specs.States.{States, Allowed, synced, Syncs}
use Rattle.rep_checkpoint.specs.declared.stage.Part.{Part}
use Rattle.rep_checkpoint.specs.declared.stage.Part.TheVariants.{Flushing, Saving, Ready, SuperFilling, SuperFilled, SuperOpening}
use Rattle.rep_checkpoint.specs.Next.{Next}
use Rattle.rep_checkpoint.specs.Standing.{spare_side}
use Rattle.rep_checkpoint.specs.States.{IsFar, cell_in}
use Rattle.rep_checkpoint.specs.Laws.{HasBase}
use Rattle.rep_checkpoint.specs.Coming.{Coming, InstallationIs, synced_part}
use Rattle.rep_checkpoint.specs.Installing.{InstallationsSettle, IsOldOrNew, TheOldBaseOrTheSnapshot}
use Rattle.rep_checkpoint.proofs.Frames.{IsOpening}
use Rattle.rep_checkpoint.proofs.Synced.{base_synced, flushing_synced, saving_synced, saved_synced, risen}
use Rattle.rep_checkpoint.proofs.Images.{reads_as, lesser_none, base_in, next_in}
use Rattle.rep_checkpoint.proofs.ComingOn.{coming_as}

-- a snapshot whose gate opens
opens : (size : ℕ) (base : SuperBody) (i : Coming) (x y : State) (s : States) → i.part ≡ SuperOpening → InstallationIs size base i x y s → IsOpening base i.next y s
opens size base i x y s at is =
    let saved : IsFar SuperOpening (spare_side base) i.next y s = subst (λ (part : Part). IsFar part (spare_side base) i.next y s) at is.far in
    let cell : s (Super (spare_side base)) ≡ cell_in SuperOpening (super_bytes i.next.super) = is.cell ∙ ap (λ (part : Part). cell_in part (super_bytes i.next.super)) at in
    search

-- ---- a sync

-- it brings the snapshot so far
further : (size : ℕ) (base : SuperBody) (next : Next) (part to : Part) (x y : State) (s t : States) → Syncs s t → InstallationIs size base (record { next = next; part = part }) x y s → synced (cell_in part (super_bytes next.super)) ≡ cell_in to (super_bytes next.super)
    → IsFar to (spare_side base) next y t → InstallationIs size base (record { next = next; part = to }) x y t
further size base next part to x y s t syncs is cell far = coming_as part to is (base_synced size base x s t syncs is.stands) far (syncs _ ∙ ap synced is.cell ∙ cell)

-- what was written is stable
goes_on : (size : ℕ) (base : SuperBody) (next : Next) (part : Part) (x y : State) (s t : States) → (part ≡ SuperOpening → ⊥) → Syncs s t → InstallationIs size base (record { next = next; part = part }) x y s
    → InstallationIs size base (record { next = next; part = synced_part part }) x y t
goes_on size base next Flushing x y s t apart syncs is = further size base next Flushing Flushing x y s t syncs is refl (flushing_synced next y s t syncs is.far)
goes_on size base next Saving x y s t apart syncs is = further size base next Saving Ready x y s t syncs is refl (saving_synced (spare_side base) next y s t syncs is.far)
goes_on size base next Ready x y s t apart syncs is = further size base next Ready Ready x y s t syncs is refl (saved_synced (spare_side base) next y s t syncs is.far)
goes_on size base next SuperFilling x y s t apart syncs is = further size base next SuperFilling SuperFilled x y s t syncs is refl (saved_synced (spare_side base) next y s t syncs is.far)
goes_on size base next SuperFilled x y s t apart syncs is = further size base next SuperFilled SuperFilled x y s t syncs is refl (saved_synced (spare_side base) next y s t syncs is.far)
goes_on size base next SuperOpening x y s t apart syncs is = absurd (apart refl)

-- and where its gate was opened it is the base
pub settles : TurnsAreTaken → InstallationsSettle
settles turns = record {
  goes_on = λ size base i x y s t apart syncs is. goes_on size base i.next i.part x y s t apart syncs is;
  ends = λ size base i x y z s t at syncs is. risen turns size base i.next x y z s t is.stands (opens size base i x y s at is) syncs;
}

-- ---- an image

-- where it isn't shown, the base is the one that stands
still : (size : ℕ) (base : SuperBody) (i : Coming) (x y : State) (s : States) (r : Reading) → Allowed (layout_of base.params) s r → InstallationIs size base i x y s → r (Super (spare_side base)) ≡ None
    → (b : SuperBody) × (z : State) × IsOldOrNew base i x y b z × HasBase size r b z
still size base i x y s r allowed is none = (base, x, inl (refl, refl), base_in size base x s r allowed is.stands (lesser_none size base.number (spare_side base) (r (Super (spare_side base))) none))

-- the base is one of both
told : TurnsAreTaken → (size : ℕ) (base : SuperBody) (next : Next) (part : Part) (x y : State) (s : States) (r : Reading) → Allowed (layout_of base.params) s r → InstallationIs size base (record { next = next; part = part }) x y s
    → (b : SuperBody) × (z : State) × IsOldOrNew base (record { next = next; part = part }) x y b z × HasBase size r b z
told turns size base next Flushing x y s r allowed is = still size base _ x y s r allowed is (reads_as _ _ _ is.cell (allowed (Super (spare_side base)) refl))
told turns size base next Saving x y s r allowed is = still size base _ x y s r allowed is (reads_as _ _ _ is.cell (allowed (Super (spare_side base)) refl))
told turns size base next Ready x y s r allowed is = still size base _ x y s r allowed is (reads_as _ _ _ is.cell (allowed (Super (spare_side base)) refl))
told turns size base next SuperFilling x y s r allowed is = still size base _ x y s r allowed is (reads_as _ _ _ is.cell (allowed (Super (spare_side base)) refl))
told turns size base next SuperFilled x y s r allowed is = still size base _ x y s r allowed is (reads_as _ _ _ is.cell (allowed (Super (spare_side base)) refl))
told turns size base next SuperOpening x y s r allowed is = elim (reads_as _ _ _ is.cell (allowed (Super (spare_side base)) refl)) [
  | inl none ↦ still size base _ x y s r allowed is none
  | inr some ↦ (next.super, y, inr (refl, refl, refl), next_in turns size base next x y s r allowed is.stands (opens size base (record { next = next; part = SuperOpening }) x y s refl is) some)
]

-- so it is in every image
pub old_or_snapshot : TurnsAreTaken → TheOldBaseOrTheSnapshot
old_or_snapshot turns size l s r base i x y same is allowed = told turns size base i.next i.part x y s r (subst (λ (k : Layout). Allowed k s r) same allowed) is
