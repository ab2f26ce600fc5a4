-- Log and checkpoint have no place in common.
use Rattle.std.proofs.Common.{◌≡◌, ◌≢◌, sym, subst, ◌∙◌, ℕ, ◌+◌, ◌%◌, ◌<◌, List, [], ◌∷◌, length}
use Rattle.rep_types.specs.declared.judged.Judged.{Judged}
use Rattle.rep_types.specs.Order.{State}
use Rattle.rep_layout.specs.declared.super_body.SuperBody.{SuperBody}
use Rattle.rep_layout.specs.declared.place.Layout.{Layout}
use Rattle.rep_layout.specs.declared.place.Place.{Place}
use Rattle.rep_layout.specs.declared.place.Place.TheVariants.{Super, Window, Log, Page}
use Rattle.rep_layout.specs.Places.{log_of}
use Rattle.rep_cells.specs.States.{States}
use Rattle.rep_log.specs.Tail.{Stand}
use Rattle.rep_log.specs.Standing.{stands_at, busy, AtRest, IsDue, StandsOpen}
use Rattle.rep_checkpoint.specs.declared.stage.Stage.{Stage}
use Rattle.rep_checkpoint.specs.declared.stage.Stage.TheVariants.{Off, Toward, Retiring}
use Rattle.rep_checkpoint.specs.Standing.{spare_side}
use Rattle.rep_checkpoint.specs.States.{StandsBeside}
use Rattle.rep_checkpoint.specs.Laws.{TheLogIsApart, TheCheckpointIsApart}
use Rattle.rep_checkpoint.proofs.Frames.{base_as, far_as, toward_as}

-- what isn't the log's is as it was
abbrev IsApart : States → States → Type 0
IsApart s t = (place : Place) → ((i : ℕ) → place ≢ Log i) → t place ≡ s place

beside_as : (size : ℕ) (b : SuperBody) (stage : Stage) (y : State) (s t : States) → IsApart s t → StandsBeside size b stage y s → StandsBeside size b stage y t
beside_as size b Off y s t apart h = apart (Super (spare_side b)) (λ i e. absurd cc) ∙ h
beside_as size b (Toward next part) y s t apart h = toward_as part part h
    (far_as part (spare_side b) next y s t (apart (Window (spare_side b)) (λ i e. absurd cc)) (λ number slot there. apart (Page number slot) (λ i e. absurd cc)) h.far)
    (apart (Super (spare_side b)) (λ i e. absurd cc) ∙ h.cell)
beside_as size b (Retiring written) y s t apart h = record { before = h.before; is_super = h.is_super; lesser = h.lesser; cell = apart (Super (spare_side b)) (λ i e. absurd cc) ∙ h.cell }

pub log_apart : TheLogIsApart
log_apart size c x y s t apart is = record {
  base = base_as (apart _ (λ i e. absurd cc)) (apart _ (λ i e. absurd cc)) (λ number slot there. apart _ (λ i e. absurd cc)) is.base;
  beside = beside_as size c.base c.stage y s t apart is.beside;
}

-- ---- the log

stand_as : (l : Layout) (s t : States) (n first : ℕ) (blocks : List (List Judged)) → ((i : ℕ) → t (Log i) ≡ s (Log i)) → Stand (StandsOpen s l) n first blocks → Stand (StandsOpen t l) n first blocks
stand_as l s t n first [] same h = tt
stand_as l s t n first (records ∷ blocks) same h = (same _ ∙ h.0, h.1, stand_as l s t (n + 1) (first + length records) blocks same h.2)

pub checkpoint_apart : TheCheckpointIsApart
checkpoint_apart l log first blocks sealed s t same is =
    let live : Stand (StandsOpen t l) log.start first blocks = stand_as l s t log.start first blocks same is.live in
    let rest : (i : ℕ) → i < l.cells → (busy log.phase ≡ 1 → i ≢ log.next % l.cells) → AtRest (stands_at log i) l i log.next (t (Log i)) = λ i lt other. subst (AtRest (stands_at log i) l i log.next) (sym (same i)) (is.rest i lt other) in
    let due : IsDue log.phase l (log.next % l.cells) log.next log.seqno sealed (t (log_of l log.next)) = subst (IsDue log.phase l (log.next % l.cells) log.next log.seqno sealed) (sym (same _)) is.due in
    search
