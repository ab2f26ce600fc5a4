-- What opening a device finds, and why it may refuse.
use Rattle.std.specs.Prelude.{◌≡◌, ◌⊎◌, ℕ, ◌+◌, ◌-◌, ◌<◌, ◌≤◌, Bool, true, is_some, List, [], length, map, take, Some, IsTrue}
use Rattle.std.specs.List.{AllByRecursion}
use Rattle.rep_types.specs.declared.key.Key.{Key}
use Rattle.rep_types.specs.declared.judged.Judged.{Judged}
use Rattle.rep_types.specs.declared.refusal.Part.{Part}
use Rattle.rep_types.specs.declared.refusal.Part.TheVariants.{Superblock, Window as in_window, Log as in_log, Pages}
use Rattle.rep_types.specs.declared.refusal.Refusal.{Refusal}
use Rattle.rep_types.specs.declared.refusal.Refusal.TheVariants.{OutOfMemory, DiskFault, NotFormatted, Corrupt}
use Rattle.rep_types.specs.Settings.{Setting}
use Rattle.rep_types.specs.Windows.{Window as WindowOf}
use Rattle.rep_types.specs.declared.item.Item.{Item}
use Rattle.rep_types.specs.declared.item.Item.TheVariants.{WriteSet, SetWindow}
use Rattle.rep_types.specs.Order.{counts, in_schema}
use Rattle.rep_record.specs.Blocks.{SeqnosFrom}
use Rattle.rep_disk.specs.History.{History, Synced, seen}
use Rattle.rep_layout.specs.declared.super_body.SuperBody.{SuperBody}
use Rattle.rep_layout.specs.declared.place.Layout.{Layout}
use Rattle.rep_layout.specs.declared.place.Place.TheVariants.{Super}
use Rattle.rep_layout.specs.Places.{side_of, layout_of, need_of}
use Rattle.rep_layout.specs.Supers.{IsNil}
use Rattle.rep_layout.specs.Windows.{window, IsWindowBody}
use Rattle.rep_cells.specs.Readings.{Reading, reading_of}
use Rattle.rep_cells.specs.Known.{Assigns, found}
use Rattle.rep_log.specs.Standing.{Standing}
use Rattle.rep_log.specs.Scanning.{IsScanned, Finds}
use Rattle.rep_versions.specs.Versions.{Kept, Version, version_at}
use Rattle.rep_versions.specs.Following.{AreVersionsOf, effect_of}
use Rattle.rep_cert.specs.Holdings.{Holding, IsAskable, window_of}
use Rattle.rep_steps.specs.Nodes.{reached}
use Rattle.rep_steps.specs.Images.{Meaning}
use Rattle.rep_engine.specs.Bases.{other, IsSuperAt, IsChosen, HasWindow}
use Rattle.rep_engine.specs.Meanings.{Means, MeansBy}
use Rattle.rep_engine.specs.Checking.{HoldsWindows}
use Rattle.rep_recover.specs.Judging.{bare, HasJudged}
use Rattle.rep_recover.specs.Looking.{HasBadSuper, HasNoSuper, HasTail, HasPages, HasBadPage}

-- ---- why it refuses

-- the places that every layout has: superblocks and windows
abbrev pub without_log : Layout
without_log = record { cells = 0; pages = 0 }

-- No window of the form stands beside the superblock that counts.
pub record FailsAtWindow (r : Reading) (b : SuperBody) : Type 0 where
  pub none : (beside : WindowOf) → HasWindow r b beside → ⊥

-- A window does, but no log whose items judging gives again.
pub record FailsAtLog (r : Reading) (b : SuperBody) : Type 0 where
  pub beside : WindowOf
  pub window : HasWindow r b beside
  pub none : (items : List Judged) → HasTail r b beside items → ⊥

-- Both do, but in a slot that the superblock names there is no such page.
pub record FailsAtPages (r : Reading) (b : SuperBody) : Type 0 where
  pub beside : WindowOf
  pub window : HasWindow r b beside
  pub items : List Judged
  pub tail : HasTail r b beside items
  pub bad : HasBadPage r b

-- The first part behind the superblock that isn't of the form.
abbrev pub FailsBehind : Part → Reading → SuperBody → Type 0
FailsBehind Superblock r b = ⊥
FailsBehind in_window r b = FailsAtWindow r b
FailsBehind in_log r b = FailsAtLog r b
FailsBehind Pages r b = FailsAtPages r b

-- A superblock counts, and behind it this part is the first that isn't of the form.
abbrev pub HasFault : Part → List ℕ → Type 0
HasFault part image = (b : SuperBody) × (IsChosen (length image) (reading_of (layout_of b.params) image) b × FailsBehind part (reading_of (layout_of b.params) image) b)

-- Why an image is corrupt in this part: the first of superblock, window, log and pages that isn't of the form.
abbrev pub IsCorruptIn : Part → List ℕ → Type 0
IsCorruptIn Superblock image = (need_of without_log ≤ length image) × HasBadSuper (length image) (reading_of without_log image)
IsCorruptIn in_window image = HasFault in_window image
IsCorruptIn in_log image = HasFault in_log image
IsCorruptIn Pages image = HasFault Pages image

-- Why an image isn't of the form, as the refusal that says so: its bytes are too few for superblocks and windows, or no superblock
-- stands open; or a part is corrupt. No other refusal says so.
abbrev pub IsReason : List ℕ → Refusal → Type 0
IsReason image NotFormatted = (length image < need_of without_log) ⊎ HasNoSuper (reading_of without_log image)
IsReason image (Corrupt part) = IsCorruptIn part image
IsReason image e = ⊥

-- Where there is such a reason an image means nothing.
abbrev pub ReasonsExcludeMeanings : Type 0
ReasonsExcludeMeanings = (image : List ℕ) (e : Refusal) (m : Meaning) → IsReason image e → Means image m → ⊥

-- ---- what is found behind a superblock

-- On any device: a log at rest behind the superblock, items that were judged again over a window of the form, and the windows and
-- versions that this gives; each of these windows can be written; without a cluster there is no item.
pub record IsBehind (b : SuperBody) (log : Standing) (items : List Judged) (h : Holding) (kept : Kept) : Type 0 where
  pub scanned : IsScanned (layout_of b.params) b.start (b.position + 1) log items
  pub undefined : IsNil b.uuid → items ≡ []
  pub beside : WindowOf
  pub is_window : IsWindowBody b.params (window b.format b.number b.position beside)
  pub judged : HasJudged b.params (bare b.position beside) items h kept
  pub windows : HoldsWindows h

-- In bytes on which nothing is pending: the window and the pages that the superblock names, and the log behind it.
pub record StandsBehind (bytes : List ℕ) (b : SuperBody) (log : Standing) (items : List Judged) (h : Holding) (kept : Kept) : Type 0 where
  pub beside : WindowOf
  pub window : HasWindow (reading_of (layout_of b.params) bytes) b beside
  pub finds : Finds (layout_of b.params) bytes b.start (b.position + 1) log items
  pub undefined : IsNil b.uuid → items ≡ []
  pub judged : HasJudged b.params (bare b.position beside) items h kept
  pub pages : HasPages (reading_of (layout_of b.params) bytes) b

-- A refusal of what stands behind it: no memory, the device's failure, or the first part that isn't of the form.
abbrev pub RefusesBehind : (Part → Type 0) → Refusal → Type 0
RefusesBehind Reason e = (e ≡ OutOfMemory) ⊎ ((e ≡ DiskFault) ⊎ ((part : Part) × ((e ≡ Corrupt part) × Reason part)))

-- ---- what opening finds

-- whether each key that the item reads or writes is a row of the schema: a change of the window's size names none
abbrev pub names_rows : Setting → Item → Bool
names_rows p (WriteSet w) = in_schema p w
names_rows p (SetWindow c) = true

-- On any device of this size: what stands behind a superblock that it has room for. The items' seqnos follow its position, those
-- that count read and write rows of its schema, and each version is of one of them.
pub record IsOpened (size : ℕ) (b : SuperBody) (l : Layout) (log : Standing) (items : List Judged) (h : Holding) (kept : Kept) : Type 0 where
  pub is_super : IsSuperAt size (side_of b.number) b
  pub layout : l ≡ layout_of b.params
  pub behind : IsBehind b log items h kept
  pub seqnos : SeqnosFrom (b.position + 1) items
  pub rows : AllByRecursion (λ (j : Judged). IsTrue (counts j) → IsTrue (names_rows b.params j.item)) items
  pub within : (key : Key) (s : ℕ) (version : Version) → version_at kept key s ≡ Some version → (b.position < s) × (s ≤ b.position + length items)

-- On an honest device: its bytes, which are stable now, mean what was found. The log so stands in the states which the bytes show,
-- the certifier's windows are those of the meaning's base with its items, and the versions are those of the items.
pub record Recovers (old new : History) (b : SuperBody) (both : Bool) (log : Standing) (items : List Judged) (h : Holding) (kept : Kept) : Type 0 where
  pub synced : new ≡ Synced old
  pub meaning : Meaning
  pub means : MeansBy (length (seen old)) b (reading_of (layout_of b.params) (seen old)) meaning
  pub tail : meaning.tail ≡ items
  pub other_is : both ≡ is_some (reading_of (layout_of b.params) (seen old) (Super (other (side_of b.number))))
  pub states : Assigns (layout_of b.params) new (found (layout_of b.params) (seen old))
  pub finds : Finds (layout_of b.params) (seen old) b.start (b.position + 1) log items
  pub windows : (k : ℕ) → IsAskable h k → window_of h k ≡ (reached b.params meaning.base (take (k - b.position) items)).kept
  pub versions : AreVersionsOf b.position (map effect_of items) kept

-- the refusals that say of bytes that they aren't of the form
abbrev pub IsOfBytes : Refusal → Type 0
IsOfBytes NotFormatted = Unit {0}
IsOfBytes (Corrupt part) = Unit {0}
IsOfBytes e = ⊥

-- A refusal: no memory, the device's failure, or one that says of its bytes that they aren't of the form; on an honest device the
-- reason stands there.
abbrev pub RefusesToOpen : Type 0 → List ℕ → Refusal → Type 0
RefusesToOpen IsHonest bytes e = (e ≡ OutOfMemory) ⊎ ((e ≡ DiskFault) ⊎ (IsOfBytes e × (IsHonest → IsReason bytes e)))

-- Nothing was written: the device was synced, or it was not.
abbrev pub IsUnwritten : History → History → Type 0
IsUnwritten old new = (new ≡ Synced old) ⊎ (new ≡ old)
