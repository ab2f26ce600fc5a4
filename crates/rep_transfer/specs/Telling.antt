-- What tells transfers apart: their bytes, and nothing behind them.
use Rattle.std.specs.Prelude.{◌≡◌, ◌⊎◌, ℕ, List, [], ◌++◌, Option, None, Some, IfSome}
use Rattle.std.specs.List.{flat_map, AllByRecursion}
use Rattle.rep_types.specs.declared.judged.Judged.{Judged}
use Rattle.rep_record.specs.Records.{IsRecord}
use Rattle.rep_transfer.specs.declared.header.Header.{Header}
use Rattle.rep_transfer.specs.Haves.{IsHeader, header_bytes}
use Rattle.rep_transfer.specs.Transfers.{Snapshot, Transfer, SnapshotFits, IsTold, IsTransfer, transfer_bytes, snapshot_bytes, snapshot_part, record_part, end_bytes}

-- Bytes that begin with a transfer begin with no other, whatever stands behind it: so what a donor wrote is what a joiner takes.
abbrev pub TransfersAreTold : Type 0
TransfersAreTold = (t u : Transfer) (rest more : List ℕ) → IsTransfer t → IsTransfer u → transfer_bytes t ++ rest ≡ transfer_bytes u ++ more → (t ≡ u) × (rest ≡ more)

-- Of the transfer its snapshot was taken, where it has one, and the first of its records; what is left are the others and the end.
pub record IsTakenOf (t : Transfer) (snapshot : Option Snapshot) (records : List Judged) (left rest : List ℕ) : Type 0 where
  pub snapshot_is : snapshot ≡ t.snapshot
  pub more : List Judged
  pub records_are : t.records ≡ records ++ more
  pub left_is : left ≡ (flat_map record_part more ++ end_bytes t.last) ++ rest

-- Nothing of it was taken so far behind its header, where it has a snapshot.
pub record IsBeforeSnapshot (t : Transfer) (snapshot : Option Snapshot) (records : List Judged) (left rest : List ℕ) : Type 0 where
  pub first : Snapshot
  pub first_is : t.snapshot ≡ Some first
  pub no_snapshot : snapshot ≡ None
  pub no_record : records ≡ []
  pub left_is : left ≡ snapshot_bytes t.header.format first ++ ((flat_map record_part t.records ++ end_bytes t.last) ++ rest)

-- What is taken part by part of bytes that begin with a transfer is a front of it: its header, and then nothing so far, or its snapshot,
-- where it has one, and the first of its records.
abbrev pub PartsAreTold : Type 0
PartsAreTold =
    (t : Transfer) (rest : List ℕ) (header : Header) (snapshot : Option Snapshot) (records : List Judged) (left : List ℕ) → IsTransfer t → IsHeader header → IfSome snapshot SnapshotFits → IfSome snapshot (IsTold header) → AllByRecursion IsRecord records
    → transfer_bytes t ++ rest ≡ header_bytes header ++ (snapshot_part header.format snapshot ++ (flat_map record_part records ++ left))
    → (header ≡ t.header) × (IsTakenOf t snapshot records left rest ⊎ IsBeforeSnapshot t snapshot records left rest)
