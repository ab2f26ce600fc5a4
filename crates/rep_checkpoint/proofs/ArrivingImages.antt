-- The images of a node beside whose base a snapshot is installed.
use Rattle.std.proofs.Common.{◌≡◌, refl, sym, ap, subst, ◌∙◌, ℕ, ◌+◌, ◌<◌, ◌≤◌, inl, inr, List, [], length, take, Some, arith}
use Rattle.std.proofs.lemmas.List.{drop_all}
use Rattle.rep_types.specs.declared.judged.Judged.{Judged}
use Rattle.rep_types.specs.declared.limits.TheConstants.{MAX_SEQNO}
use Rattle.rep_types.specs.Settings.{Setting}
use Rattle.rep_types.specs.Order.{State}
use Rattle.rep_layout.specs.declared.super_body.SuperBody.{SuperBody}
use Rattle.rep_layout.specs.declared.place.Layout.{Layout}
use Rattle.rep_layout.specs.declared.place.Place.TheVariants.{Log as LogCell}
use Rattle.rep_layout.specs.Places.{layout_of}
use Rattle.rep_cells.specs.Readings.{Reading, reading_of}
use Rattle.rep_log.specs.declared.phase.Phase.{Phase}
use Rattle.rep_log.specs.declared.phase.Phase.TheVariants.{Resting, Opening}
use Rattle.rep_log.specs.Tail.{IsOld, IsLog, seqno_after}
use Rattle.rep_log.specs.Laws.{MayHold, HoldsFrom, TheLogInEveryImage}
use Rattle.rep_steps.specs.Judging.{JudgingGoesOn}
use Rattle.rep_image.specs.Meanings.{Means, MeansBy}
use Rattle.rep_image.specs.Ends.{LogsEndInTheirNode}
use Rattle.rep_checkpoint.specs.Standing.{spare_side}
use Rattle.rep_checkpoint.specs.Laws.{HasBase}
use Rattle.rep_checkpoint.specs.Coming.{Coming, IsComing}
use Rattle.rep_checkpoint.specs.Installing.{TheOldBaseOrTheSnapshot}
use Rattle.rep_checkpoint.specs.Arriving.{brought, shut, InstallationsLeaveTheOldOrTheNew}
use Rattle.rep_checkpoint.proofs.Apart.{checkpoint_apart}
use Rattle.rep_checkpoint.proofs.Arriving.{shut_log}
use Rattle.rep_checkpoint.proofs.Leaving.{still_ends}

-- a log that rests holds the durable blocks alone
held_at_rest : (phase : Phase) (blocks : List (List Judged)) (sealed : List Judged) (held : List (List Judged)) → phase ≡ Resting → MayHold phase blocks sealed held → held ≡ blocks
held_at_rest phase blocks sealed held resting (inl same) = same
held_at_rest phase blocks sealed held resting (inr more) = let e : Resting ≡ Opening more.0 = sym resting ∙ more.1 in absurd cc

-- From behind its last block on a reading's log is empty, whatever the seqno of the record that comes next, since of an empty log only
-- the numbers in the cells count.
empty_behind : (r : Reading) (l : Layout) (start first at seqno : ℕ) (held : List (List Judged)) → HoldsFrom r l start first held → at ≡ start + length held → at < seqno → seqno ≤ MAX_SEQNO + 1 → IsLog r l at seqno []
empty_behind r l start first at seqno held holds at_is starts limit =
    let behind = holds (length held) (omega arith) in
    let none = subst (λ (bs : List (List Judged)). IsLog r l (start + length held) (seqno_after first (take (length held) held)) bs) (drop_all (length held) held (omega arith)) behind in
    record { starts = starts; limit = limit; stand = tt; old = subst (λ i. (j : ℕ) (body : List ℕ) → j < l.cells → r (LogCell j) ≡ Some body → IsOld l j (i + 0) body) (sym at_is) none.old }

-- An image that has the snapshot as its base means it, and nothing behind it: the log from the snapshot's first cell on is empty.
means_brought : (image : List ℕ) (base : SuperBody) (i : Coming) (y : State) → IsComing base i.next → HasBase (length image) (reading_of (layout_of base.params) image) i.next.super y
    → IsLog (reading_of (layout_of base.params) image) (layout_of base.params) i.next.super.start (i.next.super.position + 1) [] → Means image (brought i y)
means_brought image base i y coming has log =
    let none : IsLog (reading_of (layout_of base.params) image) (layout_of i.next.super.params) i.next.super.start (i.next.super.position + 1) [] =
    subst (λ (p : Setting). IsLog (reading_of (layout_of base.params) image) (layout_of p) i.next.super.start (i.next.super.position + 1) []) (sym coming.params) log in
    record { super = i.next.super; means = subst (λ (p : Setting). MeansBy (length image) i.next.super (reading_of (layout_of p) image) (brought i y)) (sym coming.params) (search (has, none)) }

pub leave_the_old_or_the_new : JudgingGoesOn → LogsEndInTheirNode → TheOldBaseOrTheSnapshot → TheLogInEveryImage → InstallationsLeaveTheOldOrTheNew
leave_the_old_or_the_new goes logs_end base law image n c i y log blocks sealed s is h allowed =
    let l = layout_of c.base.params in
    let r = reading_of l image in
    let beside = shut s (spare_side c.base) in
    let told = base (length image) l s r c.base i n.base y refl h.installation allowed in
    let log_is = checkpoint_apart l log (c.base.position + 1) blocks sealed beside s (λ j. sym (shut_log s (spare_side c.base) j)) h.stands.log_is in
    let logs = law l s r log (c.base.position + 1) blocks sealed log_is allowed in
    elim told.2 [
      | inl still ↦ inl (still_ends goes logs_end image n c log blocks sealed beside is h.stands told.0 told.1 still.0 still.1 told.3 logs.0 logs.1 logs.2)
      | inr new ↦
          let has = subst (λ (z : State). HasBase (length image) r i.next.super z) new.2 (subst (λ (d : SuperBody). HasBase (length image) r d told.1) new.1 told.3) in
          let all = held_at_rest log.phase blocks sealed logs.0 h.resting logs.1 in
          let coming = h.installation.coming in
          let start : i.next.super.start ≡ log.start + length logs.0 = omega (arith, h.start, h.stands.log_is.next, ap length all) in
          inr (
            new.0,
            means_brought image c.base i y coming has
                (empty_behind r l log.start (c.base.position + 1) i.next.super.start (i.next.super.position + 1) logs.0 logs.2 start (omega (arith, coming.is_super.start)) (omega (arith, coming.is_super.position))),
          )
    ]
