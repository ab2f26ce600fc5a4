-- What the calls that install a snapshot do on an honest device, and what follows from how it stands.
use Rattle.std.specs.Prelude.{◌≡◌, ◌⊎◌, ℕ, true, List, length, Result, OnOk, OnErr}
use Rattle.rep_types.specs.Order.{State}
use Rattle.rep_disk.specs.declared.disk.Disk.{Ghosts}
use Rattle.rep_disk.specs.History.{History}
use Rattle.rep_layout.specs.declared.super_body.SuperBody.{SuperBody}
use Rattle.rep_layout.specs.declared.place.Layout.{Layout}
use Rattle.rep_layout.specs.declared.place.Place.TheVariants.{Page}
use Rattle.rep_layout.specs.declared.place.TheConstants.{PAGE_BODY}
use Rattle.rep_layout.specs.Places.{layout_of, offset_of}
use Rattle.rep_cells.specs.Readings.{Reading}
use Rattle.rep_cells.specs.States.{States, Allowed, Syncs}
use Rattle.rep_cells.specs.Known.{Assigns}
use Rattle.rep_cells.specs.Calls.{Writes, WritesOnly, WritesIn}
use Rattle.rep_pages.specs.declared.page.Page.{Page as PageBody}
use Rattle.rep_pages.specs.Rows.{Rows}
use Rattle.rep_pages.specs.Pages.{IsPageBody}
use Rattle.rep_pages.specs.Slots.{state_of_page, spare_slot}
use Rattle.rep_checkpoint.specs.declared.stage.Part.TheVariants.{SuperOpening}
use Rattle.rep_checkpoint.specs.declared.stage.Stage.TheVariants.{Toward}
use Rattle.rep_checkpoint.specs.Standing.{Standing}
use Rattle.rep_checkpoint.specs.Moves.{found_at}
use Rattle.rep_checkpoint.specs.States.{CheckpointIs}
use Rattle.rep_checkpoint.specs.Calls.{next_place, next_offset, next_bytes, StepsTo}
use Rattle.rep_checkpoint.specs.Laws.{HasBase}
use Rattle.rep_checkpoint.specs.Coming.{Coming, InstallationIs, blank, placed, with_page, gone, settled}

-- ---- the calls

-- No device is touched: where a checkpoint stands that is off, a snapshot without a page has come.
abbrev pub BeginsToInstall : Standing → Coming → Type 0
BeginsToInstall c i = (size : ℕ) (s : States) (x z : State) → CheckpointIs size c x z s
    → InstallationIs size c.base i x (blank i.next.super.position i.next.window) s

-- A call, in whose states the snapshot stands as it does during it, and after it as it does then.
abbrev pub Installs : {T E : Type 0} → ℕ → Layout → History → History → States → SuperBody → Coming → Coming → State → State → State → Result T E → Type 0
Installs size l old new s base during after x y z result = StepsTo l old new s (InstallationIs size base during x y) (InstallationIs size base after x z) result

-- The write that comes next: of exactly these bytes at this offset, in that place. The snapshot is as far as that where it succeeds, and
-- else as far as it was, and the device failed.
pub record InstallsNext {D T E : Type 0} (g : Ghosts D) (l : Layout) (base : SuperBody) (before after : Coming) (old new : D) (result : Result T E) : Type 0 where
  pub done : OnOk result (after ≡ gone before)
  pub fault : OnErr result (after ≡ before)
  pub written : WritesOnly g (next_offset l base (Toward before.next before.part)) (next_bytes (Toward before.next before.part)) old new result
  pub inside : WritesIn g l (next_place base (Toward before.next before.part)) old new result
  pub steps : g.honest old → (size : ℕ) (s : States) (x y : State) → Assigns l (g.history old) s → InstallationIs size base before x y s
      → Installs size l (g.history old) (g.history new) s base (gone before) (gone before) x y y result

-- a page as the snapshot has it: of this number, written for the snapshot's position, with these rows
abbrev pub coming_page : Coming → ℕ → Rows → PageBody
coming_page i page rows = record { number = page; position = i.next.super.position; rows = rows }

-- One write at most, at this offset, of the bytes that spell this page.
pub record WritesSpelled {T E : Type 0} (schema : List ℕ) (page : PageBody) (at : ℕ) (old new : History) (result : Result T E) : Type 0 where
  pub bytes : List ℕ
  pub spelled : IsPageBody schema page bytes
  pub size : length bytes ≡ PAGE_BODY
  pub writes : Writes at bytes old new result

-- On an honest device: one write at most, of the page as the snapshot has it, into the slot that the base doesn't use.
abbrev pub WritesComing : {D T E : Type 0} → Ghosts D → Layout → SuperBody → Coming → ℕ → Rows → D → D → Result T E → Type 0
WritesComing g l base i page rows old new result =
    g.honest old → WritesSpelled base.params.rows (coming_page i page rows) (offset_of l (Page page (spare_slot (state_of_page base page)))) (g.history old) (g.history new) result

-- A page came: it was written, as the snapshot has it, into the slot that the base doesn't use, and the snapshot brings its rows too.
pub record InstallsPage {D T E : Type 0} (g : Ghosts D) (l : Layout) (base : SuperBody) (page : ℕ) (rows : Rows) (before after : Coming) (old new : D) (result : Result T E) : Type 0 where
  pub done : OnOk result (after ≡ placed base page before)
  pub fault : OnErr result (after ≡ before)
  pub written : WritesComing g l base before page rows old new result
  pub steps : g.honest old → (size : ℕ) (s : States) (x y : State) → Assigns l (g.history old) s → InstallationIs size base before x y s
      → Installs size l (g.history old) (g.history new) s base before (placed base page before) x y (with_page base.params.rows page rows y) result

-- ---- laws

-- A sync makes it stable; and where its superblock's gate was opened, it is the base, and the superblock before it is to be retired.
pub record InstallationsSettle : Type 0 where
  pub goes_on : (size : ℕ) (base : SuperBody) (i : Coming) (x y : State) (s t : States) → (i.part ≡ SuperOpening → ⊥) → Syncs s t → InstallationIs size base i x y s → InstallationIs size base (settled i) x y t
  pub ends : (size : ℕ) (base : SuperBody) (i : Coming) (x y z : State) (s t : States) → i.part ≡ SuperOpening → Syncs s t → InstallationIs size base i x y s → CheckpointIs size (found_at i.next.super true) y z t

-- The base is the one that stands, or the snapshot while its gate opens.
abbrev pub IsOldOrNew : SuperBody → Coming → State → State → SuperBody → State → Type 0
IsOldOrNew base i x y b z = ((b ≡ base) × (z ≡ x)) ⊎ ((i.part ≡ SuperOpening) × (b ≡ i.next.super) × (z ≡ y))

-- In every image the base is the one that stands, or the snapshot while its gate opens, whole: superblock, window and pages.
abbrev pub TheOldBaseOrTheSnapshot : Type 0
TheOldBaseOrTheSnapshot =
    (size : ℕ) (l : Layout) (s : States) (r : Reading) (base : SuperBody) (i : Coming) (x y : State) → l ≡ layout_of base.params → InstallationIs size base i x y s → Allowed l s r
    → (b : SuperBody) × (z : State) × IsOldOrNew base i x y b z × HasBase size r b z
