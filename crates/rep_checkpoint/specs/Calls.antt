-- What the checkpoint's calls do on an honest device, and what the caller owes them.
use Rattle.std.specs.Prelude.{◌≡◌, ◌≢◌, ◌⊎◌, ℕ, ◌≤◌, if◌then◌else◌, List, length, Option, None, Result, Err, IsErr, OnOk, IfErr}
use Rattle.rep_types.specs.declared.key.Key.{Key}
use Rattle.rep_types.specs.declared.refusal.Refusal.{Refusal}
use Rattle.rep_types.specs.declared.refusal.Refusal.TheVariants.{DiskFault, Corrupt}
use Rattle.rep_types.specs.declared.refusal.Part.TheVariants.{Pages}
use Rattle.rep_types.specs.Settings.{IsRow}
use Rattle.rep_types.specs.Order.{State}
use Rattle.rep_disk.specs.declared.disk.Disk.{Ghosts}
use Rattle.rep_disk.specs.History.{History, Wrote, seen}
use Rattle.rep_layout.specs.declared.super_body.SuperBody.{SuperBody}
use Rattle.rep_layout.specs.declared.place.Layout.{Layout}
use Rattle.rep_layout.specs.declared.place.Place.{Place}
use Rattle.rep_layout.specs.declared.place.Place.TheVariants.{Super, Window, Log, Page}
use Rattle.rep_layout.specs.declared.place.TheConstants.{PAGE_BODY}
use Rattle.rep_layout.specs.Places.{offset_of, gate_of}
use Rattle.rep_layout.specs.Supers.{super_bytes}
use Rattle.rep_layout.specs.Windows.{window_bytes}
use Rattle.rep_cells.specs.States.{States, State as StateOf, filling, opening, closing, writing, Syncs}
use Rattle.rep_cells.specs.Readings.{reading_of}
use Rattle.rep_cells.specs.Known.{Assigns}
use Rattle.rep_cells.specs.Calls.{gate, Writes, WritesOnly, WritesIn, Reaches}
use Rattle.rep_pages.specs.declared.page.Page.{Page as PageBody}
use Rattle.rep_pages.specs.Slots.{state_of_page, spare_slot}
use Rattle.rep_pages.specs.Pages.{IsPageBody}
use Rattle.rep_pages.specs.Images.{IsImage}
use Rattle.rep_pool.specs.BasePages.{IsPageReadable, IsBadPage, HasPage}
use Rattle.rep_versions.specs.Versions.{Kept, version_at, IsRowAt}
use Rattle.rep_checkpoint.specs.declared.stage.Part.TheVariants.{Flushing, Ready, SuperFilled}
use Rattle.rep_checkpoint.specs.declared.stage.Stage.{Stage}
use Rattle.rep_checkpoint.specs.declared.stage.Stage.TheVariants.{Toward}
use Rattle.rep_checkpoint.specs.Next.{Next, window_of}
use Rattle.rep_checkpoint.specs.Standing.{Standing, spare_side}
use Rattle.rep_checkpoint.specs.Moves.{flushed, position_in, gone_on, is_opening}
use Rattle.rep_checkpoint.specs.States.{CheckpointIs}

-- ---- what the caller owes

-- These rows are those at a position, as the versions make them of the base's.
pub record AreAt (rows : List ℕ) (kept : Kept) (position : ℕ) (base later : Key → Option (List ℕ)) : Type 0 where
  pub row : (key : Key) (row : Option (List ℕ)) → IsRow rows key → IsRowAt kept key position (base key) row → row ≡ later key
  pub outside : (key : Key) → (IsRow rows key → ⊥) → later key ≡ None

-- The versions are behind the base.
abbrev pub AreBehind : ℕ → Kept → Type 0
AreBehind position kept = (key : Key) (m : ℕ) → m ≤ position → version_at kept key m ≡ None

-- ---- beginning

-- No device is touched: in the same states the checkpoint stands so once it began, for each state that the next base is to name.
abbrev pub Begins : Kept → Standing → Standing → Next → Type 0
Begins kept before after next =
    (size : ℕ) (s : States) (x y z : State) → CheckpointIs size before x z s → AreBehind before.base.position kept
    → y.position ≡ next.super.position → y.kept ≡ next.window → AreAt before.base.params.rows kept next.super.position x.content y.content → CheckpointIs size after x y s

-- ---- writing

-- A call: there are states in which each cell of the log is as it was, and all that a stop during the call leaves is of these states. They
-- are as the call has them meanwhile; where it succeeds, they are as it has them afterwards, and the device is in them.
pub record StepsTo {T E : Type 0} (l : Layout) (old new : History) (s : States) (During After : States → Type 0) (result : Result T E) : Type 0 where
  pub states : States
  pub elsewhere : (i : ℕ) → states (Log i) ≡ s (Log i)
  pub during_is : During states
  pub after_is : OnOk result (After states)
  pub reaches : Reaches l old new states states result

-- The checkpoint stands in them.
abbrev pub Steps : {T E : Type 0} → ℕ → Layout → History → History → States → Standing → Standing → State → State → Result T E → Type 0
Steps size l old new s during after x y result = StepsTo l old new s (CheckpointIs size during x y) (CheckpointIs size after x y) result

-- the place of the write that comes next, what it makes of the place's state, where it is written, and its bytes
abbrev pub next_place : SuperBody → Stage → Place
next_place base (Toward next Flushing) = Window (spare_side base)
next_place base stage = Super (spare_side base)

abbrev pub next_step : Stage → StateOf → StateOf
next_step (Toward next Flushing) = writing (window_bytes (window_of next))
next_step (Toward next Ready) = filling (super_bytes next.super)
next_step (Toward next SuperFilled) = opening
next_step stage = closing

abbrev pub next_offset : Layout → SuperBody → Stage → ℕ
next_offset l base (Toward next Flushing) = offset_of l (Window (spare_side base))
next_offset l base (Toward next Ready) = offset_of l (Super (spare_side base))
next_offset l base stage = gate_of l (Super (spare_side base))

abbrev pub next_bytes : Stage → List ℕ
next_bytes (Toward next Flushing) = window_bytes (window_of next)
next_bytes (Toward next Ready) = super_bytes next.super
next_bytes (Toward next SuperFilled) = gate 0xA5
next_bytes stage = gate 0

-- A call that was refused: checkpoint and device are as before.
pub record IsRefused {D T : Type 0} (e : Refusal) (before after : Standing) (old new : D) (result : Result T Refusal) : Type 0 where
  pub refused : result ≡ Err e
  pub checkpoint : after ≡ before
  pub disk : new ≡ old

-- The write that comes next: of exactly these bytes at this offset, in that place. The checkpoint stands behind it where it succeeds, and otherwise
-- the device failed, and the checkpoint stands as it did. On an honest device it stands behind it during the call too, and in all
-- that a stop or the failure leaves.
pub record GoesOn {D T : Type 0} (g : Ghosts D) (l : Layout) (before after : Standing) (old new : D) (result : Result T Refusal) : Type 0 where
  pub done : OnOk result (after ≡ gone_on before)
  pub fault : IfErr result (λ e. (e ≡ DiskFault) × (after ≡ before))
  pub written : WritesOnly g (next_offset l before.base before.stage) (next_bytes before.stage) old new result
  pub inside : WritesIn g l (next_place before.base before.stage) old new result
  pub steps : g.honest old → (size : ℕ) (s : States) (x y : State) → Assigns l (g.history old) s → CheckpointIs size before x y s
      → Steps size l (g.history old) (g.history new) s (gone_on before) (gone_on before) x y result

-- ---- flushing

-- One write at most, of a page at this offset.
pub record WritesPage {T E : Type 0} (at : ℕ) (old new : History) (result : Result T E) : Type 0 where
  pub bytes : List ℕ
  pub size : length bytes ≡ PAGE_BODY
  pub writes : Writes at bytes old new result

-- The page that the bytes have was written as the versions make it at the position, into the slot in which the superblock hasn't it.
pub record WritesImage (l : Layout) (b : SuperBody) (kept : Kept) (position number : ℕ) (old new : History) : Type 0 where
  pub was : PageBody
  pub has : HasPage (reading_of l (seen old)) b number was
  pub page : PageBody
  pub image : IsImage b.params.rows kept position was page
  pub bytes : List ℕ
  pub spelled : IsPageBody b.params.rows page bytes
  pub written : new ≡ Wrote (offset_of l (Page number (spare_slot (state_of_page b number)))) bytes old

-- The bytes decide: where they have the page, that page was written; where they have none it is refused, and nothing was; and it is
-- refused as corrupt only there.
pub record FlushesAsSpelled {T : Type 0} (l : Layout) (b : SuperBody) (kept : Kept) (position number : ℕ) (old new : History) (result : Result T Refusal) : Type 0 where
  pub done : OnOk result (WritesImage l b kept position number old new)
  pub bad : IsBadPage (reading_of l (seen old)) b number → IsErr result
  pub corrupt : result ≡ Err (Corrupt Pages) → IsBadPage (reading_of l (seen old)) b number × (new ≡ old)

-- The page was flushed: its rows at the next base's position were written into the slot in which the base hasn't it. The checkpoint
-- stands behind that where it succeeds, and otherwise as it did: the device failed, or the base's page isn't of the form. On an
-- honest device it stands as it did during the call and in all that a stop or the failure leaves, and its base's page is of the form.
-- Whatever stands there, the bytes decide where no write failed in the base's slot.
pub record Flushes {D T : Type 0} (g : Ghosts D) (l : Layout) (kept : Kept) (page : ℕ) (before after : Standing) (old new : D) (result : Result T Refusal) : Type 0 where
  pub done : OnOk result (after ≡ flushed page before)
  pub fault : IfErr result (λ e. ((e ≡ DiskFault) ⊎ (e ≡ Corrupt Pages)) × (after ≡ before))
  pub written : g.honest old → WritesPage (offset_of l (Page page (spare_slot (state_of_page before.base page)))) (g.history old) (g.history new) result
  pub steps : g.honest old → (size : ℕ) (s : States) (x y : State) → Assigns l (g.history old) s → CheckpointIs size before x y s
      → AreAt before.base.params.rows kept (position_in before.stage) x.content y.content → Steps size l (g.history old) (g.history new) s before (flushed page before) x y result
  pub whole : g.honest old → (size : ℕ) (s : States) (x y : State) → Assigns l (g.history old) s → CheckpointIs size before x y s → result ≢ Err (Corrupt Pages)
  pub spelled : g.honest old → IsPageReadable l (g.history old) before.base page → FlushesAsSpelled l before.base kept (position_in before.stage) page (g.history old) (g.history new) result

-- ---- syncs

-- which state the base then names
abbrev pub synced_base : Standing → State → State → State
synced_base c x y = if is_opening c.stage then y else x

-- Whatever stood there, a sync leaves it, or makes the next base the base where its gate opened.
abbrev pub SyncsTo : Standing → Standing → Type 0
SyncsTo before after = (size : ℕ) (s t : States) (x y : State) → Syncs s t → CheckpointIs size before x y s → CheckpointIs size after (synced_base before x y) y t
