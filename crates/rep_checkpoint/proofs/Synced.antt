-- What a sync makes of a checkpoint.
use Rattle.std.proofs.Common.{◌≡◌, refl, sym, ap, subst, ◌∙◌, ℕ, ◌≤◌, inl, inr, true, false, List, arith}
use Rattle.rep_types.specs.Settings.{Setting}
use Rattle.rep_types.specs.Order.{State}
use Rattle.rep_types.specs.Windows.{Window as WindowOf}
use Rattle.rep_layout.specs.declared.super_body.SuperBody.{SuperBody}
use Rattle.rep_layout.specs.declared.place.Side.{Side}
use Rattle.rep_layout.specs.declared.place.Place.TheVariants.{Super, Window}
use Rattle.rep_layout.specs.Places.{side_of, layout_of, need_of, TurnsAreTaken}
use Rattle.rep_layout.specs.Supers.{super_bytes}
use Rattle.rep_layout.specs.Windows.{window_bytes, IsWindowBody, beside}
use Rattle.rep_cells.specs.States.{State as StateOf, States, Stable, synced, Syncs}
use Rattle.rep_image.specs.Bases.{other, IsSuperAt}
use Rattle.rep_checkpoint.specs.declared.stage.Part.{Part}
use Rattle.rep_checkpoint.specs.declared.stage.Part.TheVariants.{Flushing, Saving, Ready, SuperFilling, SuperFilled, SuperOpening}
use Rattle.rep_checkpoint.specs.declared.stage.Stage.{Stage}
use Rattle.rep_checkpoint.specs.declared.stage.Stage.TheVariants.{Off, Toward, Retiring}
use Rattle.rep_checkpoint.specs.Next.{Next}
use Rattle.rep_checkpoint.specs.Standing.{Standing, spare_side, IsCheckpoint}
use Rattle.rep_checkpoint.specs.Moves.{after_sync, synced_in}
use Rattle.rep_checkpoint.specs.States.{IsBase, IsWritten, IsFlushing, IsSaving, IsSaved, IsFar, cell_in, CheckpointIs}
use Rattle.rep_checkpoint.specs.Calls.{synced_base, SyncsTo}
use Rattle.rep_checkpoint.proofs.Frames.{other_again, next_side, content_as, toward_as, IsOpening, toward_opens}

-- ---- what is written is stable

pub base_synced : (size : ℕ) (b : SuperBody) (x : State) (s t : States) → Syncs s t → IsBase size b x s → IsBase size b x t
base_synced size b x s t syncs h = record {
  is_super = h.is_super;
  position = h.position;
  opened = syncs _ ∙ ap synced h.opened;
  saved = syncs _ ∙ ap synced h.saved;
  is_window = h.is_window;
  content = content_as (λ number slot body there e. syncs _ ∙ ap synced e) h.content;
}

now_stable : (body : List ℕ) (a b : StateOf) → b ≡ synced a → IsWritten body a → b ≡ Stable body
now_stable body a b e (inl pending) = e ∙ ap synced pending
now_stable body a b e (inr stable) = e ∙ ap synced stable

pub flushing_synced : (next : Next) (y : State) (s t : States) → Syncs s t → IsFlushing next y s → IsFlushing next y t
flushing_synced next y s t syncs h = record {
  pages = λ number slot out there. let page = h.pages number slot out there in (page.0, inr (now_stable page.0 _ _ (syncs _) page.1), page.2);
  absent = h.absent;
  outside = h.outside;
}

pub saving_synced : (side : Side) (next : Next) (y : State) (s t : States) → Syncs s t → IsSaving side next y s → IsSaved side next y t
saving_synced side next y s t syncs h = record {
  window = now_stable _ _ _ (syncs _) h.window;
  content = content_as (λ number slot body there e. now_stable body _ _ (syncs _) e) h.content;
}

pub saved_synced : (side : Side) (next : Next) (y : State) (s t : States) → Syncs s t → IsSaved side next y s → IsSaved side next y t
saved_synced side next y s t syncs h = record {
  window = syncs _ ∙ ap synced h.window;
  content = content_as (λ number slot body there e. syncs _ ∙ ap synced e) h.content;
}

-- ---- the next base is the base

module _ (turns : TurnsAreTaken) (size : ℕ) (b : SuperBody) (next : Next) (x y z : State) (s t : States) (base : IsBase size b x s) (opening : IsOpening b next y s) (syncs : Syncs s t) where
  abbrev n : SuperBody
  n = next.super

  abbrev side : side_of n.number ≡ spare_side b
  side = next_side turns b n opening.number

  abbrev back : spare_side n ≡ side_of b.number
  back = ap other side ∙ other_again (side_of b.number)

  -- and the superblock before it is to be closed
  pub risen : CheckpointIs size (record { base = n; stage = Retiring false }) y z t
  risen = record {
    base = record {
      is_super = record { is_super = opening.is_super; here = refl; fits = subst (λ (p : Setting). need_of (layout_of p) ≤ size) (sym opening.params) base.is_super.fits };
      position = opening.position;
      opened = ap (λ (d : Side). t (Super d)) side ∙ syncs _ ∙ ap synced opening.cell;
      saved = ap (λ (d : Side). t (Window d)) side ∙ syncs _ ∙ ap synced opening.saved.window ∙ ap (λ (v : WindowOf). Stable (window_bytes (beside n v))) (sym opening.kept);
      is_window = subst (λ (v : WindowOf). IsWindowBody n.params (beside n v)) (sym opening.kept) opening.is_window;
      content = content_as (λ number slot body there e. syncs _ ∙ ap synced e) opening.saved.content;
    };
    beside = record {
      before = b;
      is_super = subst (λ (d : Side). IsSuperAt size d b) (sym back) base.is_super;
      lesser = omega (arith, opening.number);
      cell = ap (λ (d : Side). t (Super d)) back ∙ syncs _ ∙ ap synced base.opened;
    };
  }

-- ---- a sync

-- it brings the next base so far
toward_synced : (size : ℕ) (b : SuperBody) (next : Next) (part to : Part) (x y : State) (s t : States) → Syncs s t → CheckpointIs size (record { base = b; stage = Toward next part }) x y s
    → synced (cell_in part (super_bytes next.super)) ≡ cell_in to (super_bytes next.super) → IsFar to (spare_side b) next y t → CheckpointIs size (record { base = b; stage = Toward next to }) x y t
toward_synced size b next part to x y s t syncs is cell far = record {
  base = base_synced size b x s t syncs is.base;
  beside = toward_as part to is.beside far (syncs _ ∙ ap synced is.beside.cell ∙ cell);
}

synced_to : TurnsAreTaken → (size : ℕ) (b : SuperBody) (stage : Stage) (x y : State) (s t : States) → Syncs s t → CheckpointIs size (record { base = b; stage = stage }) x y s
    → CheckpointIs size (synced_in (record { base = b; stage = stage }) stage) (synced_base (record { base = b; stage = stage }) x y) y t
synced_to turns size b Off x y s t syncs is = record { base = base_synced size b x s t syncs is.base; beside = syncs _ ∙ ap synced is.beside }
synced_to turns size b (Toward next Flushing) x y s t syncs is = toward_synced size b next Flushing Flushing x y s t syncs is refl (flushing_synced next y s t syncs is.beside.far)
synced_to turns size b (Toward next Saving) x y s t syncs is = toward_synced size b next Saving Ready x y s t syncs is refl (saving_synced (spare_side b) next y s t syncs is.beside.far)
synced_to turns size b (Toward next Ready) x y s t syncs is = toward_synced size b next Ready Ready x y s t syncs is refl (saved_synced (spare_side b) next y s t syncs is.beside.far)
synced_to turns size b (Toward next SuperFilling) x y s t syncs is = toward_synced size b next SuperFilling SuperFilled x y s t syncs is refl (saved_synced (spare_side b) next y s t syncs is.beside.far)
synced_to turns size b (Toward next SuperFilled) x y s t syncs is = toward_synced size b next SuperFilled SuperFilled x y s t syncs is refl (saved_synced (spare_side b) next y s t syncs is.beside.far)
synced_to turns size b (Toward next SuperOpening) x y s t syncs is = risen turns size b next x y y s t is.base (toward_opens b next y s is.beside) syncs
synced_to turns size b (Retiring false) x y s t syncs is = record {
  base = base_synced size b x s t syncs is.base;
  beside = record { before = is.beside.before; is_super = is.beside.is_super; lesser = is.beside.lesser; cell = syncs _ ∙ ap synced is.beside.cell };
}
synced_to turns size b (Retiring true) x y s t syncs is = record { base = base_synced size b x s t syncs is.base; beside = syncs _ ∙ ap synced is.beside.cell }

pub syncs_to : TurnsAreTaken → (c : Standing) → SyncsTo c (after_sync c)
syncs_to turns c size s t x y syncs is = synced_to turns size c.base c.stage x y s t syncs is

-- ---- what stays

pub same_cluster : (b : SuperBody) (stage : Stage) → IsCheckpoint (record { base = b; stage = stage })
    → ((synced_in (record { base = b; stage = stage }) stage).base.uuid ≡ b.uuid) × ((synced_in (record { base = b; stage = stage }) stage).base.params ≡ b.params)
same_cluster b Off is = (refl, refl)
same_cluster b (Toward next Flushing) is = (refl, refl)
same_cluster b (Toward next Saving) is = (refl, refl)
same_cluster b (Toward next Ready) is = (refl, refl)
same_cluster b (Toward next SuperFilling) is = (refl, refl)
same_cluster b (Toward next SuperFilled) is = (refl, refl)
same_cluster b (Toward next SuperOpening) is = (is.going.uuid, is.going.params)
same_cluster b (Retiring false) is = (refl, refl)
same_cluster b (Retiring true) is = (refl, refl)
