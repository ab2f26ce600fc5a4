-- The pool goes on to agree with the device.
use Rattle.std.proofs.Common.{◌≡◌, ◌≢◌, ℕ, List, Option, None, Some, IfSome, Result, Ok, Err, refl, sym, ap, subst, IsOk, OnOk}
use Rattle.rep_types.specs.declared.refusal.Refusal.{Refusal}
use Rattle.rep_types.specs.declared.refusal.Refusal.TheVariants.{DiskFault}
use Rattle.rep_types.specs.Settings.{Setting}
use Rattle.rep_disk.specs.declared.disk.Disk.{Ghosts}
use Rattle.rep_disk.specs.History.{History, Synced}
use Rattle.rep_layout.specs.declared.place.Layout.{Layout}
use Rattle.rep_layout.specs.declared.place.Slot.{Slot}
use Rattle.rep_layout.specs.declared.place.Place.{Place}
use Rattle.rep_layout.specs.declared.place.Place.TheVariants.{Page}
use Rattle.rep_layout.specs.declared.super_body.SuperBody.{SuperBody}
use Rattle.rep_cells.specs.Calls.{WritesIn}
use Rattle.rep_pool.specs.Pools.{Pooled, Agrees, PoolsGoOn}
use Rattle.rep_pool.specs.BasePages.{IsPooled}
use Rattle.rep_checkpoint.specs.declared.stage.Part.TheVariants.{Flushing, Saving, Ready, SuperFilling, SuperFilled, SuperOpening}
use Rattle.rep_checkpoint.specs.declared.stage.Stage.{Stage}
use Rattle.rep_checkpoint.specs.declared.stage.Stage.TheVariants.{Off, Toward, Retiring}
use Rattle.rep_checkpoint.specs.Standing.{Standing as Checkpoint}
use Rattle.rep_checkpoint.specs.Moves.{next_refusal}
use Rattle.rep_checkpoint.specs.Calls.{IsRefused, GoesOn, next_place}

-- where the base is of the same parameters, and the places are the same
pub pooled_as : {D : Type 0} (g : Ghosts D) (l k : Layout) (b c : SuperBody) (disk : D) (pages : Pooled) → k ≡ l → c.params ≡ b.params → IsPooled g b.params.rows l disk pages → IsPooled g c.params.rows k disk pages
pooled_as g l k b c disk pages places same pooled =
    subst (λ (x : Layout). IsPooled g c.params.rows x disk pages) (sym places) (subst (λ (p : Setting). IsPooled g p.rows l disk pages) (sym same) pooled)

-- behind a read
pub pooled_read : {D : Type 0} (g : Ghosts D) (rows : List ℕ) (l : Layout) (old new : D) (pages : Pooled) → (g.honest new → g.honest old) → (g.honest old → g.history new ≡ g.history old) → IsPooled g rows l old pages → IsPooled g rows l new pages
pooled_read g rows l old new pages was same pooled = λ h. subst (λ (past : History). Agrees rows l past pages) (sym (same (was h))) (pooled (was h))

-- behind a write in a place that is no page's
pub pooled_beside :
    {D T E : Type 0} → PoolsGoOn → (g : Ghosts D) (rows : List ℕ) (l : Layout) (place : Place) (old new : D) (pages : Pooled) (result : Result T E)
    → ((number : ℕ) (slot : Slot) → Page number slot ≢ place) → (g.honest new → g.honest old) → WritesIn g l place old new result → IsOk result → IsPooled g rows l old pages → IsPooled g rows l new pages
pooled_beside go g rows l place old new pages (Ok x) other was writes ok pooled = λ h.
    go.written rows l (g.history old) (g.history new) pages place (writes (was h)) (λ number kept there. other number kept.slot) (pooled (was h))
pooled_beside go g rows l place old new pages (Err e) other was writes ok pooled = absurd cc

-- and behind a sync
pub pooled_synced : {D T E : Type 0} → PoolsGoOn → (g : Ghosts D) (rows : List ℕ) (l : Layout) (old new : D) (pages : Pooled) (result : Result T E)
    → (g.honest new → g.honest old) → (g.honest old → OnOk result (g.history new ≡ Synced (g.history old))) → IsOk result → IsPooled g rows l old pages → IsPooled g rows l new pages
pooled_synced go g rows l old new pages (Ok x) was synced ok pooled = λ h. subst (λ (past : History). Agrees rows l past pages) (sym (synced (was h))) (go.synced rows l (g.history old) pages (pooled (was h)))
pooled_synced go g rows l old new pages (Err e) was synced ok pooled = absurd cc

-- and behind the checkpoint's next write, which is in no page
pub not_next : (b : SuperBody) (stage : Stage) (number : ℕ) (slot : Slot) → Page number slot ≢ next_place b stage
not_next b Off number slot e = absurd cc
not_next b (Toward next Flushing) number slot e = absurd cc
not_next b (Toward next Saving) number slot e = absurd cc
not_next b (Toward next Ready) number slot e = absurd cc
not_next b (Toward next SuperFilling) number slot e = absurd cc
not_next b (Toward next SuperFilled) number slot e = absurd cc
not_next b (Toward next SuperOpening) number slot e = absurd cc
not_next b (Retiring written) number slot e = absurd cc

went_by : {D : Type 0} → PoolsGoOn → (g : Ghosts D) (l : Layout) (c d : Checkpoint) (old new : D) (pages : Pooled) (result : Result (Unit {0}) Refusal)
    → GoesOn g l c d old new result → (g.honest new → g.honest old) → result ≢ Err DiskFault → IsPooled g c.base.params.rows l old pages → IsPooled g c.base.params.rows l new pages
went_by go g l c d old new pages (Ok x) goes was other pooled = pooled_beside {T = Unit {0}} {E = Refusal} go g c.base.params.rows l (next_place c.base c.stage) old new pages (Ok x) (not_next c.base c.stage) was goes.inside refl pooled
went_by go g l c d old new pages (Err e) goes was other pooled = absurd (other (ap Err goes.fault.0))

pub pooled_gone : {D : Type 0} → PoolsGoOn → (g : Ghosts D) (l : Layout) (c d : Checkpoint) (old new : D) (pages : Pooled) (result : Result (Unit {0}) Refusal)
    → IfSome (next_refusal l c) (λ e. IsRefused e c d old new result) → (next_refusal l c ≡ None → GoesOn g l c d old new result) → (g.honest new → g.honest old) → result ≢ Err DiskFault
    → IsPooled g c.base.params.rows l old pages → IsPooled g c.base.params.rows l new pages
pooled_gone {D} go g l c d old new pages result refused goes was other pooled = by (next_refusal l c) refl refused
  where
    by : (o : Option Refusal) → next_refusal l c ≡ o → IfSome o (λ e. IsRefused e c d old new result) → IsPooled g c.base.params.rows l new pages
    by None none is = went_by go g l c d old new pages result (goes none) was other pooled
    by (Some e) some is = subst (λ (disk : D). IsPooled g c.base.params.rows l disk pages) (sym is.disk) pooled
