-- Transfers: what a donor writes for a joiner, and its one spelling.
use Rattle.std.specs.Prelude.{ℕ, ◌^◌, ◌<◌, List, [], ◌∷◌, ◌++◌, length, Option, None, Some, IfSome}
use Rattle.std.specs.List.{flat_map, AllByRecursion}
use Rattle.rep_types.specs.declared.judged.Judged.{Judged}
use Rattle.rep_types.specs.Windows.{Window}
use Rattle.rep_forms.specs.Forms.{number_bytes}
use Rattle.rep_forms.specs.Entries.{EntryFits, entry_bytes}
use Rattle.rep_record.specs.Records.{IsRecord, record_bytes}
use Rattle.rep_layout.specs.declared.format.Format.{Format}
use Rattle.rep_layout.specs.declared.format.Format.TheVariants.{One, Two}
use Rattle.rep_layout.specs.Windows.{IsOfFormat}
use Rattle.rep_transfer.specs.declared.header.Header.{Header}
use Rattle.rep_transfer.specs.declared.pieces.NumberedPage.{NumberedPage}
use Rattle.rep_transfer.specs.declared.part.Part.{Part}
use Rattle.rep_transfer.specs.declared.part.Part.TheVariants.{Snapshot as OfSnapshot, Record as OfRecord, End as OfEnd}
use Rattle.rep_transfer.specs.Haves.{IsHeader, header_bytes}
use Rattle.rep_transfer.specs.Shapes.{least_of}
use Rattle.rep_transfer.specs.Pieces.{PageFits, page_bytes}

-- A snapshot of a node's base (Galera documentation: a state snapshot transfer): its position, the window there, and the pages that have
-- rows.
pub record Snapshot : Type 0 where
  pub position : ℕ
  pub kept : Window
  pub pages : List NumberedPage

-- A transfer: from whom it comes, a snapshot where the joiner needs one, the items behind that or behind what the joiner has, each with
-- its verdict (Galera documentation: an incremental state transfer), and the position where it ends.
pub record Transfer : Type 0 where
  pub header : Header
  pub snapshot : Option Snapshot
  pub records : List Judged
  pub last : ℕ

-- ---- what can be spelled

pub record SnapshotFits (s : Snapshot) : Type 0 where
  pub position : s.position < 2 ^ 64
  pub size : s.kept.size < 2 ^ 16
  pub floor : s.kept.floor < 2 ^ 64
  pub few : length s.kept.entries < 2 ^ 16
  pub entries : AllByRecursion EntryFits s.kept.entries
  pub some : length s.pages < 2 ^ 16
  pub pages : AllByRecursion PageFits s.pages

-- the window of a snapshot is one that the format tells, among nodes of this shape
abbrev pub IsTold : Header → Snapshot → Type 0
IsTold h s = IsOfFormat h.format (least_of h.shape) s.position s.kept

pub record IsTransfer (t : Transfer) : Type 0 where
  pub header : IsHeader t.header
  pub snapshot : IfSome t.snapshot SnapshotFits
  pub told : IfSome t.snapshot (IsTold t.header)
  pub records : AllByRecursion IsRecord t.records
  pub last : t.last < 2 ^ 64

-- ---- the spelling

-- how far back a window reaches, which format 1 does not tell: its size and its floor
abbrev pub reach_bytes : Format → Window → List ℕ
reach_bytes One v = []
reach_bytes Two v = number_bytes 2 v.size ++ number_bytes 8 v.floor

-- a window: how far back it reaches, and its entries behind their number
abbrev pub kept_bytes : Format → Window → List ℕ
kept_bytes format v = reach_bytes format v ++ (number_bytes 2 (length v.entries) ++ flat_map entry_bytes v.entries)

-- its window, and its pages behind their number
abbrev pub rest_of : Format → Snapshot → List ℕ
rest_of format s = kept_bytes format s.kept ++ (number_bytes 2 (length s.pages) ++ flat_map page_bytes s.pages)

-- a snapshot: the letter S, its position, its window, and its pages
abbrev pub snapshot_bytes : Format → Snapshot → List ℕ
snapshot_bytes format s = 83 ∷ (number_bytes 8 s.position ++ rest_of format s)

-- a record: the letter I, and the record as a log has it
abbrev pub record_part : Judged → List ℕ
record_part j = 73 ∷ record_bytes j

-- the end: the letter E, and the last position
abbrev pub end_bytes : ℕ → List ℕ
end_bytes last = 69 ∷ number_bytes 8 last

-- the snapshot, where there is one
abbrev pub snapshot_part : Format → Option Snapshot → List ℕ
snapshot_part format None = []
snapshot_part format (Some s) = snapshot_bytes format s

-- A transfer: the header, the snapshot, the records, the end. What follows the end isn't looked at.
abbrev pub transfer_bytes : Transfer → List ℕ
transfer_bytes t = header_bytes t.header ++ (snapshot_part t.header.format t.snapshot ++ (flat_map record_part t.records ++ end_bytes t.last))

-- ---- one part

-- what a part says can be spelled; of a snapshot it is its position
abbrev pub PartFits : Part → Type 0
PartFits (OfSnapshot position) = position < 2 ^ 64
PartFits (OfRecord j) = IsRecord j
PartFits (OfEnd last) = last < 2 ^ 64

abbrev pub part_bytes : Part → List ℕ
part_bytes (OfSnapshot position) = 83 ∷ number_bytes 8 position
part_bytes (OfRecord j) = record_part j
part_bytes (OfEnd last) = end_bytes last
