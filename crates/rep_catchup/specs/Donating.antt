-- What a donor gives to a joiner, and whom it refuses.
use Rattle.std.specs.Prelude.{◌≡◌, ◌≢◌, ◌⊎◌, ℕ, ◌+◌, ◌-◌, ◌^◌, ◌<◌, ◌≤◌, ◌&&◌, ◌||◌, Bool, true, false, nat_lt, is_some, List, [], ◌∷◌, ◌++◌, filter, length, map, take, Option, None, Some, if◌then◌else◌, Result, Err, IfOk, IfErr, IfSome, OnOk, OnErr}
use Rattle.std.specs.List.{flat_map, range_with_len, AllByRecursion}
use Rattle.std.specs.Io.KnownBytes.{Appends}
use Rattle.rep_types.specs.declared.key.Key.{Key}
use Rattle.rep_types.specs.declared.judged.Judged.{Judged}
use Rattle.rep_types.specs.declared.refusal.Refusal.{Refusal}
use Rattle.rep_types.specs.declared.refusal.Refusal.TheVariants.{Stopped, Undefined, WrongCluster, Ahead, StreamFault, DiskFault, Corrupt}
use Rattle.rep_types.specs.declared.refusal.Part.{Part}
use Rattle.rep_types.specs.declared.refusal.Part.TheVariants.{Superblock, Window as InWindow, Log as InLog, Pages as InPages}
use Rattle.rep_types.specs.Settings.{IsRow, has_row, is_setting, pages_of}
use Rattle.rep_types.specs.Windows.{Window as Kept}
use Rattle.rep_forms.specs.Forms.{number_bytes}
use Rattle.rep_record.specs.Blocks.{IsBlock, block_bytes}
use Rattle.rep_disk.specs.declared.disk.Disk.{Ghosts}
use Rattle.rep_disk.specs.History.{seen}
use Rattle.rep_disk.specs.Calls.{Rises}
use Rattle.rep_layout.specs.declared.format.Format.TheVariants.{Two}
use Rattle.rep_layout.specs.declared.page_state.PageState.{PageState}
use Rattle.rep_layout.specs.declared.page_state.PageState.TheVariants.{Nowhere, In}
use Rattle.rep_layout.specs.declared.place.Layout.{Layout}
use Rattle.rep_layout.specs.declared.place.Place.TheVariants.{Window as WindowArea}
use Rattle.rep_layout.specs.declared.super_body.SuperBody.{SuperBody}
use Rattle.rep_layout.specs.Places.{log_of, side_of}
use Rattle.rep_layout.specs.Rows.{row_place}
use Rattle.rep_layout.specs.Supers.{IsNil}
use Rattle.rep_layout.specs.Windows.{IsWindowAt, IsOfFormat, IsWindowBody, beside, window_bytes}
use Rattle.rep_cells.specs.Readings.{Reading, reading_of}
use Rattle.rep_pages.specs.declared.page.Page.{Page as PageBody}
use Rattle.rep_pages.specs.Images.{row_of}
use Rattle.rep_pages.specs.Slots.{state_of_page}
use Rattle.rep_replica.specs.BasePages.{IsBadPage, IsSpelledPage}
use Rattle.rep_log.specs.Standing.{Standing as Log}
use Rattle.rep_log.specs.Tail.{records_of}
use Rattle.rep_steps.specs.Standings.{Standing}
use Rattle.rep_steps.specs.Nodes.{Node}
use Rattle.rep_replica.specs.Engines.{Engine, durable_of}
use Rattle.rep_replica.specs.EngineDonating.{HasNoRow}
use Rattle.rep_replica.specs.Replicas.{Replica}
use Rattle.rep_replica.specs.Holding.{Holds}
use Rattle.rep_replica.specs.Asking.{IsAsked}
use Rattle.rep_replica.specs.Coming.{blank}
use Rattle.rep_streams.specs.Streams.{Notes}
use Rattle.rep_transfer.specs.declared.have.Have.{Have}
use Rattle.rep_transfer.specs.declared.pieces.NumberedPage.{NumberedPage}
use Rattle.rep_transfer.specs.Shapes.{shape_of}
use Rattle.rep_transfer.specs.Pieces.{PageFits, page_bytes}
use Rattle.rep_transfer.specs.Transfers.{Snapshot, Transfer, IsTransfer, SnapshotFits, kept_bytes, record_part, transfer_bytes}
use Rattle.rep_catchup.specs.Snapshots.{with_pages, state_of, number_of, IsPageOf, IsSnapshot}

-- ---- whom it refuses

-- The joiner is of the donor's cluster, or of none yet, and has its shape.
pub record IsOfCluster (s : Standing) (have : Have) : Type 0 where
  pub shape : have.shape ≡ shape_of s.setting
  pub cluster : (have.uuid ≡ s.uuid) ⊎ IsNil have.uuid

-- Why nothing is donated, the first reason that applies: the donor is stopped; it belongs to no cluster; the joiner is of another one;
-- the joiner holds more of the order than is durable at the donor.
pub record IsFirstRefusal (s : Standing) (have : Have) (result : Option Refusal) : Type 0 where
  pub stopped : s.stopped ≡ true → result ≡ Some Stopped
  pub undefined : s.stopped ≡ false → IsNil s.uuid → result ≡ Some Undefined
  pub another : s.stopped ≡ false → (IsNil s.uuid → ⊥) → (IsOfCluster s have → ⊥) → result ≡ Some WrongCluster
  pub ahead : s.stopped ≡ false → (IsNil s.uuid → ⊥) → IsOfCluster s have → s.durable < have.position → result ≡ Some (Ahead s.durable)
  pub none : s.stopped ≡ false → (IsNil s.uuid → ⊥) → IsOfCluster s have → have.position ≤ s.durable → result ≡ None

-- What is refused so, before anything is read or written.
abbrev pub ComesFirst : Refusal → Type 0
ComesFirst e = (e ≡ Stopped) ⊎ ((e ≡ Undefined) ⊎ ((e ≡ WrongCluster) ⊎ ((durable : ℕ) × (e ≡ Ahead durable))))

-- What is refused besides: the writer or the device failed, or what the device shows is not of its form.
abbrev pub EndsEarly : Refusal → Type 0
EndsEarly e = (e ≡ StreamFault) ⊎ ((e ≡ DiskFault) ⊎ ((part : Part) × (e ≡ Corrupt part)))

-- ---- what it leaves at the donor

-- It isn't stopped, from outside or by its device.
abbrev pub IsRunning : {D : Type 0} → Replica D → Type 0
IsRunning r = (r.stopped || is_some r.engine.halted) ≡ false

-- A device as it reads, by its places.
abbrev pub as_seen : {D : Type 0} → Ghosts D → Engine D → Reading
as_seen g e = reading_of e.layout (seen (g.history e.disk))

-- What the bytes of a reading do not spell: the window beside the superblock; a page that the superblock has in a slot; or the block of a
-- number in the log.
abbrev pub IsBadPart : Reading → Layout → SuperBody → Log → Part → Type 0
IsBadPart r l b log Superblock = ⊥
IsBadPart r l b log InWindow = (v : Kept) → IsWindowBody b.params (beside b v) → r (WindowArea (side_of b.number)) ≡ Some (window_bytes (beside b v)) → ⊥
IsBadPart r l b log InLog = (number : ℕ) × (log.start ≤ number) × (number < log.next) × ((records : List Judged) → IsBlock number records → r (log_of l number) ≡ Some (block_bytes number records) → ⊥)
IsBadPart r l b log InPages = (number : ℕ) × IsBadPage r b number

-- What a part of a donation leaves: the device was asked, and nothing else was done; where it succeeds the replica runs on; one that stands for a node goes on
-- to, unless the device failed, and shows nothing that is not of its form; a device's failure is told exactly where there was one,
-- and stops the replica, which is stopped by nothing else; on an honest device a part is told corrupt only where its bytes are bad; and
-- the writer's failure is told exactly where it failed.
pub record Leaves {D T : Type 0} (g : Ghosts D) (old new : Replica D) (before after : Bool) (result : Result T Refusal) : Type 0 where
  pub reads : IsAsked g old new
  pub runs : OnOk result (IsRunning new)
  pub holds : (n : Node) → Holds g n old → result ≢ Err DiskFault → Holds g n new
  pub refused : IfErr result EndsEarly
  pub whole : (n : Node) → Holds g n old → (part : Part) → result ≢ Err (Corrupt part)
  pub fault : result ≡ Err DiskFault → Rises (g.failures old.engine.disk) (g.failures new.engine.disk) × (is_some new.engine.halted ≡ true)
  pub no_fault : result ≢ Err DiskFault → g.failures new.engine.disk ≡ g.failures old.engine.disk
  pub halts : result ≢ Err DiskFault → new.engine.halted ≡ old.engine.halted
  pub bad : g.honest old.engine.disk → (part : Part) → result ≡ Err (Corrupt part) → IsBadPart (as_seen g old.engine) old.engine.layout old.engine.checkpoint.base old.engine.log part
  pub notes : Notes before after result

-- ---- what it gives

-- the items above this position
abbrev pub above : ℕ → List Judged → List Judged
above position items = filter (λ (j : Judged). nat_lt position j.seqno) items

-- the durable items behind the base
abbrev pub durable_items : Node → List Judged
durable_items n = take (n.facts.durable - n.facts.base) n.items

-- A snapshot of the node's base: what it brings is that, whole, its window with size and floor.
pub record IsSnapshotOf (n : Node) (s : Snapshot) : Type 0 where
  pub is_snapshot : IsSnapshot n.facts.setting s
  pub state : state_of n.facts.setting s ≡ n.base

-- What the joiner needs of a node: where it is of the cluster and at or past the node's base, the durable items above its position;
-- else a snapshot of the base, and all durable items behind that.
abbrev pub Brings : Node → Have → Option Snapshot → List Judged → Type 0
Brings n have None records = (IsNil have.uuid → ⊥) × (n.facts.base ≤ have.position) × (records ≡ above have.position (durable_items n))
Brings n have (Some s) records = (IsNil have.uuid ⊎ (have.position < n.facts.base)) × IsSnapshotOf n s × (records ≡ durable_items n)

-- A transfer for the joiner, from the node: in format 2, whatever format the node's base is of on its disk.
pub record IsDonated (n : Node) (have : Have) (t : Transfer) : Type 0 where
  pub is_transfer : IsTransfer t
  pub format : t.header.format ≡ Two
  pub uuid : t.header.uuid ≡ n.facts.uuid
  pub shape : t.header.shape ≡ shape_of n.facts.setting
  pub brings : Brings n have t.snapshot t.records
  pub last : t.last ≡ n.facts.durable

-- ---- what it gives, on any device

-- The joiner needs a snapshot: it is of no cluster yet, or not even at the donor's base.
abbrev pub NeedsSnapshot : ℕ → Have → Type 0
NeedsSnapshot base have = IsNil have.uuid ⊎ (have.position < base)

-- A part is asked for: the log always, and others where the joiner needs a snapshot.
abbrev pub IsAskedFor : SuperBody → Have → Part → Type 0
IsAskedFor b have part = (part ≡ InLog) ⊎ NeedsSnapshot b.position have

-- A window that can stand beside the superblock, whatever the superblock's number. The superblock's parameters and position are within their
-- limits.
pub record StandsBeside (b : SuperBody) (v : Kept) : Type 0 where
  pub setting : is_setting b.params ≡ true
  pub position : b.position < 2 ^ 64
  pub format : IsOfFormat b.format b.params b.position v
  pub kept : IsWindowAt b.params b.position v

-- whether a page stands in a slot
abbrev pub is_in_slot : PageState → Bool
is_in_slot Nowhere = false
is_in_slot (In slot) = true

-- the pages below this number that the base has in a slot
abbrev pub held_below : SuperBody → ℕ → List ℕ
held_below b number = filter (λ (page : ℕ). is_in_slot (state_of_page b page)) (range_with_len 0 number)

-- A snapshot of what the superblock says: of its position, with a window that can stand beside it, and with exactly the pages that it has in
-- a slot.
pub record IsSnapshotBeside (b : SuperBody) (s : Snapshot) : Type 0 where
  pub position : s.position ≡ b.position
  pub window : StandsBeside b s.kept
  pub numbers : map number_of s.pages ≡ held_below b (pages_of b.params.rows)

-- The snapshot comes exactly where the joiner needs one.
abbrev pub ComesWhereNeeded : SuperBody → Have → Option Snapshot → Type 0
ComesWhereNeeded b have None = NeedsSnapshot b.position have → ⊥
ComesWhereNeeded b have (Some s) = NeedsSnapshot b.position have × IsSnapshotBeside b s

-- the position behind which the records come: the snapshot's, or where none comes the joiner's
abbrev pub behind : Have → Option Snapshot → ℕ
behind have None = have.position
behind have (Some s) = s.position

-- the records of a block, whatever its number
abbrev pub IsSomeBlock : List Judged → Type 0
IsSomeBlock records = (cell : ℕ) × IsBlock cell records

-- so many blocks as the log has behind the base
abbrev pub AreAllBlocks : Log → List (List Judged) → Type 0
AreAllBlocks log blocks = AllByRecursion IsSomeBlock blocks × (length blocks ≡ log.next - log.start)

-- A transfer with all parts that the donor's superblock and log name for this joiner: in format 2, of the donor's cluster and shape; a
-- snapshot exactly where the joiner needs one; of all blocks of the log the records behind that, or behind what the joiner has; and it
-- ends at what is durable.
pub record HasAllParts (b : SuperBody) (log : Log) (have : Have) (t : Transfer) : Type 0 where
  pub is_transfer : IsTransfer t
  pub format : t.header.format ≡ Two
  pub uuid : t.header.uuid ≡ b.uuid
  pub shape : t.header.shape ≡ shape_of b.params
  pub snapshot : ComesWhereNeeded b have t.snapshot
  pub blocks : List (List Judged)
  pub are_blocks : AreAllBlocks log blocks
  pub records : t.records ≡ above (behind have t.snapshot) (records_of blocks)
  pub last : t.last ≡ durable_of log

-- ---- as the bytes of a device spell it

-- The window as the bytes of a reading spell it, where that of the superblock stands.
abbrev pub IsWindowThere : Reading → SuperBody → Kept → Type 0
IsWindowThere r b v = IsWindowBody b.params (beside b v) × (r (WindowArea (side_of b.number)) ≡ Some (window_bytes (beside b v)))

-- The page as the bytes of a reading spell it, in the slot where the superblock has it.
abbrev pub IsPageThere : Reading → SuperBody → NumberedPage → Type 0
IsPageThere r b p = (page : PageBody) × IsSpelledPage r b p.number page × (page.rows ≡ p.rows)

-- The snapshot's window and its pages are as the bytes spell them.
pub record IsSnapshotThere (r : Reading) (b : SuperBody) (s : Snapshot) : Type 0 where
  pub window : IsWindowThere r b s.kept
  pub pages : AllByRecursion (IsPageThere r b) s.pages

-- The block is as the bytes spell it, in the cell of its number.
abbrev pub IsBlockThere : Reading → Layout → ℕ → List Judged → Type 0
IsBlockThere r l number records = IsBlock number records × (r (log_of l number) ≡ Some (block_bytes number records))

-- So are blocks from this number on.
abbrev pub AreBlocksThere : Reading → Layout → ℕ → List (List Judged) → Type 0
AreBlocksThere r l number [] = Unit {0}
AreBlocksThere r l number (records ∷ blocks) = IsBlockThere r l number records × AreBlocksThere r l (number + 1) blocks

-- Snapshot and records are as the bytes spell them, the records in all blocks of the log.
pub record IsThere (r : Reading) (l : Layout) (b : SuperBody) (log : Log) (have : Have) (t : Transfer) : Type 0 where
  pub snapshot : IfSome t.snapshot (IsSnapshotThere r b)
  pub blocks : List (List Judged)
  pub are_there : AreBlocksThere r l log.start blocks
  pub count : length blocks ≡ log.next - log.start
  pub records : t.records ≡ above (behind have t.snapshot) (records_of blocks)

-- ---- what is written of it

-- A front of these bytes was written.
abbrev pub WroteFront : Option (List ℕ) → Option (List ℕ) → List ℕ → Type 0
WroteFront old new bytes = (k : ℕ) × Appends old new (take k bytes)

-- One of these was written whole, of which something is known beside; or where it was refused, a front of one.
pub record Writes {A T : Type 0} (spell : A → List ℕ) (Is : A → Type 0) (Known : T → A → Type 0) (old new : Option (List ℕ)) (result : Result T Refusal) : Type 0 where
  pub done : IfOk result (λ y. (x : A) × Is x × Known y x × Appends old new (spell x))
  pub cut : OnErr result ((x : A) × Is x × WroteFront old new (spell x))

-- the letter and the position of a snapshot, and the window
abbrev pub window_part : SuperBody → Kept → List ℕ
window_part b v = (83 ∷ number_bytes 8 b.position) ++ kept_bytes Two v

-- a page, or nothing
abbrev pub page_part : Option NumberedPage → List ℕ
page_part None = []
page_part (Some p) = page_bytes p

-- The page of this number, or none where the base has it in no slot.
abbrev pub IsPageFor : SuperBody → ℕ → Option NumberedPage → Type 0
IsPageFor b number None = is_in_slot (state_of_page b number) ≡ false
IsPageFor b number (Some p) = (p.number ≡ number) × (is_in_slot (state_of_page b number) ≡ true) × PageFits p

-- The pages below this number that the base has in a slot.
pub record ArePagesBelow (b : SuperBody) (number : ℕ) (pages : List NumberedPage) : Type 0 where
  pub numbers : map number_of pages ≡ held_below b number
  pub fit : AllByRecursion PageFits pages

-- A snapshot of what the superblock says, which can be spelled.
abbrev pub IsSnapshotFor : SuperBody → Snapshot → Type 0
IsSnapshotFor b s = SnapshotFits s × IsSnapshotBeside b s

-- It, where the joiner needs it.
abbrev pub IsBaseFor : SuperBody → Have → Option Snapshot → Type 0
IsBaseFor b have s = IfSome s SnapshotFits × ComesWhereNeeded b have s

-- the records above a position of these blocks
abbrev pub tail_part : ℕ → List (List Judged) → List ℕ
tail_part position blocks = flat_map record_part (above position (records_of blocks))

-- ---- what is so of it where the replica stands for a node

-- the rows of the pages below this number
abbrev pub rows_below : List ℕ → (Key → Option (List ℕ)) → ℕ → Key → Option (List ℕ)
rows_below schema content number key = if has_row schema key && nat_lt (row_place schema key).page number then content key else None

-- The pages below this number that the base has in a slot: pages of the schema, which can be spelled, and which bring the rows of the
-- content that lie below this number.
pub record ArePages (b : SuperBody) (content : Key → Option (List ℕ)) (number : ℕ) (pages : List NumberedPage) : Type 0 where
  pub numbers : map number_of pages ≡ held_below b number
  pub are_pages : AllByRecursion (IsPageOf b.params.rows) pages
  pub fit : AllByRecursion PageFits pages
  pub rows : (position : ℕ) (v : Kept) (key : Key) → (with_pages b.params.rows pages (blank position v)).content key ≡ rows_below b.params.rows content number key

-- The base has the page of this number in a slot, and its rows are those of the content.
pub record IsHeldPage (b : SuperBody) (content : Key → Option (List ℕ)) (number : ℕ) (page : NumberedPage) : Type 0 where
  pub is_it : page.number ≡ number
  pub held : is_in_slot (state_of_page b number) ≡ true
  pub is_page : IsPageOf b.params.rows page
  pub fits : PageFits page
  pub rows : (key : Key) → IsRow b.params.rows key → (row_place b.params.rows key).page ≡ number → content key ≡ row_of b.params.rows page.rows key

-- The base's page of this number, or none where it has it in no slot: it has no row then.
abbrev pub IsPageOfNode : SuperBody → (Key → Option (List ℕ)) → ℕ → Option NumberedPage → Type 0
IsPageOfNode b content number None = HasNoRow b content number
IsPageOfNode b content number (Some p) = IsHeldPage b content number p

-- What is known of the window that was written: on an honest device it is as its bytes spell it, and of a node it is that of its base.
pub record KnowsWindow {D : Type 0} (g : Ghosts D) (r : Replica D) (v : Kept) : Type 0 where
  pub there : g.honest r.engine.disk → IsWindowThere (as_seen g r.engine) r.engine.checkpoint.base v
  pub of_node : (n : Node) → Holds g n r → v ≡ n.base.kept

-- So it is with the page of a number,
pub record KnowsPage {D : Type 0} (g : Ghosts D) (r : Replica D) (number : ℕ) (p : Option NumberedPage) : Type 0 where
  pub there : g.honest r.engine.disk → IfSome p (IsPageThere (as_seen g r.engine) r.engine.checkpoint.base)
  pub of_node : (n : Node) → Holds g n r → IsPageOfNode r.engine.checkpoint.base n.base.content number p

-- with the pages below a number,
pub record KnowsPages {D : Type 0} (g : Ghosts D) (r : Replica D) (number : ℕ) (pages : List NumberedPage) : Type 0 where
  pub there : g.honest r.engine.disk → AllByRecursion (IsPageThere (as_seen g r.engine) r.engine.checkpoint.base) pages
  pub of_node : (n : Node) → Holds g n r → ArePages r.engine.checkpoint.base n.base.content number pages

-- with a snapshot,
pub record KnowsSnapshot {D : Type 0} (g : Ghosts D) (r : Replica D) (s : Snapshot) : Type 0 where
  pub there : g.honest r.engine.disk → IsSnapshotThere (as_seen g r.engine) r.engine.checkpoint.base s
  pub of_node : (n : Node) → Holds g n r → IsSnapshotOf n s

-- with what comes before the records, and the position behind which they come,
pub record KnowsBase {D : Type 0} (g : Ghosts D) (r : Replica D) (have : Have) (position : ℕ) (s : Option Snapshot) : Type 0 where
  pub is_behind : position ≡ behind have s
  pub snapshot : IfSome s (KnowsSnapshot g r)

-- and with the blocks of the log.
pub record KnowsBlocks {D : Type 0} (g : Ghosts D) (r : Replica D) (blocks : List (List Judged)) : Type 0 where
  pub there : g.honest r.engine.disk → AreBlocksThere (as_seen g r.engine) r.engine.layout r.engine.log.start blocks
  pub of_node : (n : Node) → Holds g n r → records_of blocks ≡ durable_items n

-- A transfer with all parts was written, which ends at this position. On an honest device its parts are as the bytes spell them; and of a
-- node it is what the joiner needs.
pub record Donates {D : Type 0} (g : Ghosts D) (r : Replica D) (have : Have) (old new : Option (List ℕ)) (last : ℕ) : Type 0 where
  pub transfer : Transfer
  pub parts : HasAllParts r.engine.checkpoint.base r.engine.log have transfer
  pub is_last : transfer.last ≡ last
  pub written : Appends old new (transfer_bytes transfer)
  pub there : g.honest r.engine.disk → IsThere (as_seen g r.engine) r.engine.layout r.engine.checkpoint.base r.engine.log have transfer
  pub of_node : (n : Node) → Holds g n r → IsDonated n have transfer

-- A transfer with all parts was written.
abbrev pub WroteTransfer : SuperBody → Log → Have → Option (List ℕ) → Option (List ℕ) → ℕ → Type 0
WroteTransfer b log have old new last = (t : Transfer) × HasAllParts b log have t × (t.last ≡ last) × Appends old new (transfer_bytes t)

-- A front of one was written, and not all: so it is no transfer.
abbrev pub WroteLess : SuperBody → Log → Have → Option (List ℕ) → Option (List ℕ) → Type 0
WroteLess b log have old new = (t : Transfer) × HasAllParts b log have t × (k : ℕ) × (k < length (transfer_bytes t)) × Appends old new (take k (transfer_bytes t))

-- The bytes of a device decide: what was written is as they spell it, and a part is told corrupt only where they do not spell it.
pub record DonatesAsSpelled (r : Reading) (l : Layout) (b : SuperBody) (log : Log) (have : Have) (old new : Option (List ℕ)) (result : Result ℕ Refusal) : Type 0 where
  pub given : IfOk result (λ last. (t : Transfer) × HasAllParts b log have t × IsThere r l b log have t × (t.last ≡ last) × Appends old new (transfer_bytes t))
  pub corrupt : (part : Part) → result ≡ Err (Corrupt part) → IsBadPart r l b log part
