-- What a snapshot brings to a node.
use Rattle.std.specs.Prelude.{◌≡◌, ◌⊎◌, ℕ, ◌^◌, ◌<◌, ◌≤◌, List, [], ◌∷◌, ◌++◌, length, map, None, Option, IfSome, IsTrue}
use Rattle.std.specs.List.{flat_map, AllByRecursion}
use Rattle.std.specs.List.Sorted.{IsStrictlyIncreasing}
use Rattle.std.specs.Io.KnownBytes.{Consumes}
use Rattle.rep_types.specs.declared.key.Key.{Key}
use Rattle.rep_types.specs.declared.limits.TheConstants.{MAX_SEQNO, ROWS_PER_PAGE}
use Rattle.rep_types.specs.declared.refusal.Refusal.{Refusal}
use Rattle.rep_types.specs.declared.refusal.Refusal.TheVariants.{OutOfMemory, DiskFault, Malformed, StreamFault}
use Rattle.rep_types.specs.Settings.{Setting}
use Rattle.rep_types.specs.Entries.{Entry}
use Rattle.rep_types.specs.Order.{State}
use Rattle.rep_types.specs.Windows.{Window, is_window_size}
use Rattle.rep_types.specs.declared.reach.Reach.{Reach}
use Rattle.rep_forms.specs.Forms.{number_bytes}
use Rattle.rep_forms.specs.Entries.{EntryFits, entry_bytes}
use Rattle.rep_disk.specs.declared.disk.Disk.{Ghosts}
use Rattle.rep_disk.specs.Moments.{LeavesOnly}
use Rattle.rep_layout.specs.declared.format.Format.{Format}
use Rattle.rep_layout.specs.Supers.{IsNil}
use Rattle.rep_layout.specs.Windows.{IsWindowAt, IsOfFormat}
use Rattle.rep_pages.specs.Pages.{IsFirstRow, EndWithTheTable}
use Rattle.rep_replica.specs.Coming.{blank, with_page}
use Rattle.rep_steps.specs.Standings.{Standing, delivered}
use Rattle.rep_steps.specs.Nodes.{Node}
use Rattle.rep_steps.specs.Images.{IsFrontAt}
use Rattle.rep_replica.specs.Meanings.{Means}
use Rattle.rep_replica.specs.Replicas.{Replica, facts_of}
use Rattle.rep_replica.specs.Holding.{Holds}
use Rattle.rep_replica.specs.Episodes.{IsStill, GaveUp as GaveUpAt, Brought as BroughtAt, Broke as BrokeAt}
use Rattle.rep_replica.specs.Installing.{Bringing, HoldsBoth}
use Rattle.rep_transfer.specs.declared.pieces.NumberedPage.{NumberedPage}
use Rattle.rep_transfer.specs.Pieces.{PageFits, page_bytes}
use Rattle.rep_transfer.specs.Taking.{counted}
use Rattle.rep_transfer.specs.Transfers.{Snapshot, SnapshotFits, reach_bytes, kept_bytes, rest_of}

-- the state with the rows of these pages
abbrev pub with_pages : List ℕ → List NumberedPage → State → State
with_pages schema [] y = y
with_pages schema (p ∷ pages) y = with_pages schema pages (with_page schema p.number p.rows y)

-- The state that a snapshot brings to a node with these parameters: its position, its window whole, and the rows of its pages; others are
-- absent.
abbrev pub state_of : Setting → Snapshot → State
state_of p s = with_pages p.rows s.pages (blank s.position s.kept)

abbrev pub number_of : NumberedPage → ℕ
number_of p = p.number

-- A page of the schema, with no row past the end of its table.
pub record IsPageOf (schema : List ℕ) (p : NumberedPage) : Type 0 where
  pub first : Key
  pub begins : IsFirstRow schema p.number first
  pub size : length p.rows ≡ ROWS_PER_PAGE
  pub past : EndWithTheTable schema p.number p.rows

-- A snapshot that a node with these parameters can be brought: its window is one of its position, and its pages, of strictly ascending
-- numbers, are pages of the schema.
pub record IsSnapshot (p : Setting) (s : Snapshot) : Type 0 where
  pub limit : s.position ≤ MAX_SEQNO
  pub window : IsWindowAt p s.position s.kept
  pub ascend : IsStrictlyIncreasing (map number_of s.pages)
  pub pages : AllByRecursion (IsPageOf p.rows) s.pages

-- The format can tell its window, among nodes with these parameters: format 2 tells any, format 1 one whose size was theirs from the first
-- item on.
abbrev pub CanTell : Format → Setting → Snapshot → Type 0
CanTell format p s = IsOfFormat format p s.position s.kept

-- ---- how it is taken, piece by piece

-- These bytes were taken of a reader, of which so many were taken before and so many then.
pub record Took (start now : ℕ) (before left : Option (List ℕ)) (bytes : List ℕ) : Type 0 where
  pub taken : Consumes before left bytes
  pub counts : counted now 0 ≡ counted start (length bytes)

-- the window that reaches so far back and holds these entries
abbrev pub reaching : Reach → List Entry → Window
reaching r entries = record { size = r.size; floor = r.floor; entries = entries }

-- How far back the window of this position reaches was taken, or is known where the format does not tell it.
pub record TakesReach (format : Format) (p : Setting) (position : ℕ) (r : Reach) (start now : ℕ) (before left : Option (List ℕ)) : Type 0 where
  pub size : IsTrue (is_window_size r.size)
  pub floor : r.floor < 2 ^ 64
  pub told : (entries : List Entry) → IsOfFormat format p position (reaching r entries)
  pub took : (entries : List Entry) → Took start now before left (reach_bytes format (reaching r entries))

-- No window comes whose size is one and which the format can tell there.
abbrev pub NoReachComes : Format → Setting → ℕ → List ℕ → Type 0
NoReachComes format p position bytes = (v : Window) (rest : List ℕ) → IsTrue (is_window_size v.size) → v.floor < 2 ^ 64 → IsOfFormat format p position v → bytes ≡ reach_bytes format v ++ rest → ⊥

-- So many entries were taken.
pub record TakesEntries (count : ℕ) (entries : List Entry) (start now : ℕ) (before left : Option (List ℕ)) : Type 0 where
  pub size : length entries ≡ count
  pub fit : AllByRecursion EntryFits entries
  pub took : Took start now before left (flat_map entry_bytes entries)

-- Not so many entries come.
abbrev pub NoEntriesCome : ℕ → List ℕ → Type 0
NoEntriesCome count bytes = (entries : List Entry) (rest : List ℕ) → length entries ≡ count → AllByRecursion EntryFits entries → bytes ≡ flat_map entry_bytes entries ++ rest → ⊥

-- A window that a snapshot of this format and position can bring to a node with these parameters: its entries can be spelled, the format can
-- tell it, and it is one of the position.
pub record IsKept (format : Format) (p : Setting) (position : ℕ) (v : Window) : Type 0 where
  pub told : IsOfFormat format p position v
  pub is_window : IsWindowAt p position v
  pub fit : AllByRecursion EntryFits v.entries

-- Such a window was taken.
pub record TakesKept (format : Format) (p : Setting) (position : ℕ) (v : Window) (start now : ℕ) (before left : Option (List ℕ)) : Type 0 where
  pub kept : IsKept format p position v
  pub took : Took start now before left (kept_bytes format v)

-- None comes.
abbrev pub NoneKeptComes : Format → Setting → ℕ → List ℕ → Type 0
NoneKeptComes format p position bytes = (v : Window) (rest : List ℕ) → IsKept format p position v → bytes ≡ kept_bytes format v ++ rest → ⊥

-- The window of a snapshot of this position was taken, and how many pages come behind it: it can stand there, and the snapshot may come.
pub record TakesWindow (format : Format) (s : Standing) (position : ℕ) (v : Window) (count : ℕ) (start now : ℕ) (before left : Option (List ℕ)) : Type 0 where
  pub later : (s.durable < position) ⊎ IsNil s.uuid
  pub limit : position ≤ MAX_SEQNO
  pub kept : IsKept format s.setting position v
  pub few : count < 2 ^ 16
  pub took : Took start now before left (kept_bytes format v ++ number_bytes 2 count)

-- These pages were taken one after another, and put beside the base: each is one of the schema, and their numbers ascend strictly.
pub record TakesPages {D : Type 0} (g : Ghosts D) (old new : Bringing D) (pages : List NumberedPage) (start now : ℕ) (before left : Option (List ℕ)) : Type 0 where
  pub fit : AllByRecursion PageFits pages
  pub ascend : IsStrictlyIncreasing (map number_of pages)
  pub of_schema : AllByRecursion (IsPageOf old.engine.checkpoint.base.params.rows) pages
  pub took : Took start now before left (flat_map page_bytes pages)
  pub running : new.engine.halted ≡ None
  pub uuid : new.coming.next.super.uuid ≡ old.coming.next.super.uuid
  pub params : new.coming.next.super.params ≡ old.coming.next.super.params
  pub base : new.engine.checkpoint.base ≡ old.engine.checkpoint.base
  pub holds : (n : Node) (y : State) → HoldsBoth g n y old → HoldsBoth g n (with_pages old.engine.checkpoint.base.params.rows pages y) new
  pub leaves : (n : Node) (y : State) → HoldsBoth g n y old → LeavesOnly (g.history old.engine.disk) (g.history new.engine.disk) (IsFrontAt Means n)

-- Some were, and then no more: the replica still stands for the node, if its device has not failed; and each image means a front of that.
pub record LeavesPages {D : Type 0} (g : Ghosts D) (n : Node) (old new : Bringing D) : Type 0 where
  pub node : Node
  pub still : IsStill n node
  pub state : State
  pub holds : HoldsBoth g node state new
  pub leaves : LeavesOnly (g.history old.engine.disk) (g.history new.engine.disk) (IsFrontAt Means n)

-- What came behind the position of a snapshot is the rest of this one, which can come to the replica: its format can tell it, it is a
-- snapshot for its parameters, above what was delivered, or the replica is of no cluster.
pub record TakesSnapshot (format : Format) (s : Standing) (position : ℕ) (snapshot : Snapshot) (start now : ℕ) (before left : Option (List ℕ)) : Type 0 where
  pub fits : SnapshotFits snapshot
  pub told : CanTell format s.setting snapshot
  pub position_is : position ≡ snapshot.position
  pub is_snapshot : IsSnapshot s.setting snapshot
  pub later : (delivered s < snapshot.position) ⊎ IsNil s.uuid
  pub took : Took start now before left (rest_of format snapshot)

-- It took the base's place: on any device the replica is of its cluster, and has the parameters that it had.
pub record Brought {D : Type 0} (g : Ghosts D) (old new : Replica D) (format : Format) (uuid : List ℕ) (position : ℕ) (start now : ℕ) (before left : Option (List ℕ)) : Type 0 where
  pub snapshot : Snapshot
  pub takes : TakesSnapshot format (facts_of g old) position snapshot start now before left
  pub uuid_is : (facts_of g new).uuid ≡ uuid
  pub setting : (facts_of g new).setting ≡ (facts_of g old).setting
  pub node : (n : Node) → Holds g n old → BroughtAt g n uuid (state_of (facts_of g old).setting snapshot) old new

-- The device failed while it did.
pub record Broken {D : Type 0} (g : Ghosts D) (old new : Replica D) (format : Format) (uuid : List ℕ) (position : ℕ) (start : ℕ) (before : Option (List ℕ)) : Type 0 where
  pub snapshot : Snapshot
  pub now : ℕ
  pub left : Option (List ℕ)
  pub takes : TakesSnapshot format (facts_of g old) position snapshot start now before left
  pub node : (n : Node) → Holds g n old → BrokeAt g n uuid (state_of (facts_of g old).setting snapshot) old new

-- Some of it came, and it was given up.
abbrev pub GivenUp : {D : Type 0} → Ghosts D → Replica D → Replica D → Type 0
GivenUp g old new = (n : Node) → Holds g n old → GaveUpAt g n old new

-- Behind so many pages, the rest of them, goes on none that can come: no pages of the schema of strictly ascending numbers.
abbrev pub NoPagesCome : List ℕ → ℕ → List ℕ → Type 0
NoPagesCome schema count bytes =
    (pages : List NumberedPage) (rest : List ℕ) → length pages ≡ count → AllByRecursion PageFits pages → bytes ≡ flat_map page_bytes pages ++ rest → IsStrictlyIncreasing (map number_of pages) → AllByRecursion (IsPageOf schema) pages → ⊥

-- Behind the position of a snapshot goes on none of the format that can come to the replica.
abbrev pub NoneComes : Format → Standing → ℕ → List ℕ → Type 0
NoneComes format s position bytes =
    (y : Snapshot) (rest : List ℕ) → SnapshotFits y → CanTell format s.setting y → y.position ≡ position → bytes ≡ rest_of format y ++ rest → IsSnapshot s.setting y → (delivered s < y.position) ⊎ IsNil s.uuid → ⊥

-- Why it wasn't taken to its end, where what it begins with stands at this byte: the reader or the device failed, there was no room, or
-- no snapshot goes on there that can come.
abbrev pub BringsEarly : Format → Standing → ℕ → ℕ → Option (List ℕ) → Refusal → Type 0
BringsEarly format s position at before e = (e ≡ StreamFault) ⊎ ((e ≡ OutOfMemory) ⊎ ((e ≡ DiskFault) ⊎ ((e ≡ Malformed at) × IfSome before (NoneComes format s position))))

-- What is left of one that wasn't: it was given up, or the device failed while it took the base's place.
abbrev pub LeavesSnapshot : {D : Type 0} → Ghosts D → Replica D → Replica D → Format → List ℕ → ℕ → ℕ → Option (List ℕ) → Refusal → Type 0
LeavesSnapshot g old new format uuid position start before e = GivenUp g old new ⊎ ((e ≡ DiskFault) × Broken g old new format uuid position start before)
