-- What a transfer makes of the node that joins.
use Rattle.std.specs.Prelude.{◌≡◌, ◌≢◌, ◌≤◌, ◌⊎◌, ℕ, ◌+◌, ◌^◌, ◌<◌, true, List, [], ◌++◌, length, take, drop, Option, None, Some, MatchOption, IfSome}
use Rattle.std.specs.List.{flat_map, AllByRecursion}
use Rattle.std.specs.Io.KnownBytes.{Consumes}
use Rattle.rep_types.specs.declared.judged.Judged.{Judged}
use Rattle.rep_types.specs.declared.refusal.Refusal.{Refusal}
use Rattle.rep_types.specs.declared.refusal.Refusal.TheVariants.{OutOfMemory, DiskFault, Corrupt, Malformed, WrongCluster, StreamFault}
use Rattle.rep_types.specs.declared.refusal.Part.TheVariants.{Pages}
use Rattle.rep_types.specs.Settings.{Setting}
use Rattle.rep_types.specs.Order.{Order, items_of, state, history as history_of}
use Rattle.rep_record.specs.Records.{IsRecord}
use Rattle.rep_cert.specs.Holdings.{verdict_of}
use Rattle.rep_disk.specs.declared.disk.Disk.{Ghosts}
use Rattle.rep_layout.specs.declared.format.Format.{Format}
use Rattle.rep_layout.specs.Supers.{IsNil}
use Rattle.rep_steps.specs.Standings.{Standing, delivered}
use Rattle.rep_steps.specs.Nodes.{Node}
use Rattle.rep_steps.specs.Orders.{IsOf}
use Rattle.rep_replica.specs.Replicas.{Replica, facts_of}
use Rattle.rep_replica.specs.Holding.{Holds}
use Rattle.rep_replica.specs.Settling.{is_quiet, EndsEarly as WorksEarly}
use Rattle.rep_replica.specs.Episodes.{Episode, AreEpisodes, IsSnapshotOf, FedFrom, reached_by}
use Rattle.rep_transfer.specs.declared.header.Header.{Header}
use Rattle.rep_transfer.specs.declared.part.Part.{Part}
use Rattle.rep_transfer.specs.declared.part.Part.TheVariants.{Snapshot as OfSnapshot, Record as OfRecord, End as OfEnd}
use Rattle.rep_transfer.specs.Haves.{IsHeader, header_bytes}
use Rattle.rep_transfer.specs.Shapes.{shape_of}
use Rattle.rep_transfer.specs.Taking.{counted, BeginWithNone}
use Rattle.rep_transfer.specs.Transfers.{Snapshot, Transfer, SnapshotFits, IsTransfer, snapshot_bytes, snapshot_part, record_part, end_bytes, transfer_bytes, PartFits, part_bytes}
use Rattle.rep_catchup.specs.Snapshots.{state_of, IsSnapshot, CanTell, Took}
use Rattle.rep_catchup.specs.Growing.{Grown}

-- Why a transfer isn't taken to its end, besides `Stopped`: the reader failed, a part is not of its form or not the one that may come
-- there, it is of another cluster, there was no room, the device failed, or the base's page that a checkpoint flushes is not of its form.
abbrev pub JoinsEarly : Refusal → Type 0
JoinsEarly e = (e ≡ StreamFault) ⊎ (((at : ℕ) × (e ≡ Malformed at)) ⊎ ((e ≡ WrongCluster) ⊎ ((e ≡ OutOfMemory) ⊎ ((e ≡ DiskFault) ⊎ (e ≡ Corrupt Pages)))))

-- The transfer can be taken by the node: it is of its cluster, or the node is of none; it has its shape; and it begins with a snapshot
-- above what was delivered there, or, at a node of a cluster, with none.
pub record IsFor (n : Node) (t : Transfer) : Type 0 where
  pub cluster : (t.header.uuid ≡ n.facts.uuid) ⊎ IsNil n.facts.uuid
  pub shape : t.header.shape ≡ shape_of n.facts.setting
  pub snapshot : MatchOption t.snapshot (IsNil n.facts.uuid → ⊥) (λ s. IsSnapshot n.facts.setting s × ((delivered n.facts < s.position) ⊎ IsNil n.facts.uuid))

-- The order behind which the records come: the node's own, or one whose state the snapshot is.
abbrev pub StartsAt : Node → Option Snapshot → Order → Type 0
StartsAt n None L = IsOf L n
StartsAt n (Some s) L = state_of n.facts.setting s ≡ state n.facts.setting L

-- What the transfer makes of a node: one of the donor's cluster, of the order with the transfer's items behind where it starts, all of
-- them durable; and each was judged as the transfer says.
pub record Becomes (n : Node) (t : Transfer) (m : Node) : Type 0 where
  pub uuid : m.facts.uuid ≡ t.header.uuid
  pub setting : m.facts.setting ≡ n.facts.setting
  pub durable : m.facts.durable ≡ t.last
  pub none : m.facts.ahead ≡ []
  pub order : (L : Order) → StartsAt n t.snapshot L → IsOf (L ++ items_of t.records) m
  pub judged : (L : Order) → StartsAt n t.snapshot L → t.records ≡ drop (length L) (history_of n.facts.setting (L ++ items_of t.records))

-- ---- what it does, as parts of a life

-- These items are the order's behind so many of them.
abbrev pub GoOnIn : Order → ℕ → List Judged → Type 0
GoOnIn O k records = (rest : Order) × ((take k O ++ items_of records) ++ rest ≡ O)

-- What was taken of a transfer is the order's: the items behind where so many were delivered; or the snapshot, and the items behind that.
abbrev pub AreOf : List ℕ → Setting → Order → ℕ → Option Snapshot → List Judged → Type 0
AreOf uuid p O k None records = GoOnIn O k records
AreOf uuid p O k (Some s) records = IsSnapshotOf uuid p O uuid (state_of p s) × GoOnIn O s.position records

-- where the items come behind which it brings
abbrev pub begins_at : ℕ → Option Snapshot → ℕ
begins_at k None = k
begins_at k (Some s) = s.position

-- Parts of a life led from one replica to the other. They come to where the snapshot is, if one was taken, and as many items further as
-- were taken, each of which was judged as it says; and where what was taken is an order's, they were fed that.
pub record Went {D : Type 0} (g : Ghosts D) (old new : Replica D) (uuid : List ℕ) (snapshot : Option Snapshot) (records : List Judged) : Type 0 where
  pub episodes : List (Episode D)
  pub are : AreEpisodes g old episodes new
  pub reaches : (k : ℕ) → reached_by k episodes ≡ begins_at k snapshot + length records
  pub judged : (n : Node) → Holds g n old → (L : Order) → StartsAt n snapshot L → records ≡ drop (length L) (history_of n.facts.setting (L ++ items_of records))
  pub fed : (O : Order) (k : ℕ) → AreOf uuid (facts_of g old).setting O k snapshot records → FedFrom uuid (facts_of g old).setting O k episodes

-- What a join does, wherever it ends and whatever the reader hands out, are parts of a life.
abbrev pub Lived : {D : Type 0} → Ghosts D → Replica D → Replica D → Type 0
Lived g old new = (uuid : List ℕ) × (snapshot : Option Snapshot) × (records : List Judged) × Went g old new uuid snapshot records

-- ---- where a transfer is taken to its end

-- The bytes began with a transfer for the node, which is what was taken of them; and the replica stands for what it makes of the node.
pub record Joined {D : Type 0} (g : Ghosts D) (n : Node) (bytes : List ℕ) (left : Option (List ℕ)) (old new : Replica D) (last : ℕ) : Type 0 where
  pub transfer : Transfer
  pub is_transfer : IsTransfer transfer
  pub is_for : IsFor n transfer
  pub rest : List ℕ
  pub front : bytes ≡ transfer_bytes transfer ++ rest
  pub left_is : left ≡ Some rest
  pub last_is : transfer.last ≡ last
  pub node : Node
  pub becomes : Becomes n transfer node
  pub holds : Holds g node new
  pub quiet : is_quiet (facts_of g new) ≡ true
  pub went : Went g old new transfer.header.uuid transfer.snapshot transfer.records

-- ---- where it is not

-- The record is the replica's next item, and its certifier judges it so: as the node does that the replica stands for, where it stands for one.
pub record IsNext {D : Type 0} (g : Ghosts D) (r : Replica D) (j : Judged) : Type 0 where
  pub seqno : j.seqno ≡ delivered (facts_of g r) + 1
  pub verdict : j.verdict ≡ verdict_of r.certifier.current j.item

-- The part may come behind what the replica took: it is of a cluster; a record is its next item, an end is where it is. No second snapshot
-- comes.
abbrev pub MayFollow : {D : Type 0} → Ghosts D → Replica D → Part → Type 0
MayFollow g r (OfSnapshot position) = ⊥
MayFollow g r (OfRecord j) = (IsNil (facts_of g r).uuid → ⊥) × IsNext g r j
MayFollow g r (OfEnd last) = (IsNil (facts_of g r).uuid → ⊥) × (last ≡ delivered (facts_of g r))

-- The bytes go on with no part that may come.
abbrev pub NoneFollows : {D : Type 0} → Ghosts D → Replica D → List ℕ → Type 0
NoneFollows g r bytes = (part : Part) (rest : List ℕ) → PartFits part → bytes ≡ part_bytes part ++ rest → MayFollow g r part → ⊥

-- nor with a snapshot of the format that may
abbrev pub NoSnapshotComes : Format → Standing → List ℕ → Type 0
NoSnapshotComes format s bytes =
    (y : Snapshot) (rest : List ℕ) → SnapshotFits y → CanTell format s.setting y → bytes ≡ snapshot_bytes format y ++ rest → IsSnapshot s.setting y → (delivered s < y.position) ⊎ IsNil s.uuid → ⊥

-- Why no more was taken, behind so many bytes, of what is left: the reader or the device failed, there was no room, the base's page that a
-- checkpoint flushes is not of its form; or no part goes on there that may come.
abbrev pub EndsHere : {D : Type 0} → Ghosts D → Replica D → ℕ → Option (List ℕ) → Refusal → Type 0
EndsHere g r at left e = (e ≡ StreamFault) ⊎ (WorksEarly e ⊎ ((e ≡ Malformed at) × IfSome left (NoneFollows g r)))

-- The snapshot, where one was taken, is of the transfer's format, and was one that could come to the replica.
abbrev pub Came : Format → Standing → Option Snapshot → Type 0
Came format s snapshot = IfSome snapshot (λ y. SnapshotFits y × CanTell format s.setting y × IsSnapshot s.setting y × ((delivered s < y.position) ⊎ IsNil s.uuid))

-- How a node went on by what was taken: it is of the snapshot's cluster, where one was, and of each order where that starts, with the
-- items behind it.
pub record GoesOn (n : Node) (uuid : List ℕ) (snapshot : Option Snapshot) (records : List Judged) (m : Node) : Type 0 where
  pub uuid_is : MatchOption snapshot (m.facts.uuid ≡ n.facts.uuid) (λ s. m.facts.uuid ≡ uuid)
  pub setting_is : m.facts.setting ≡ n.facts.setting
  pub order : (L : Order) → StartsAt n snapshot L → IsOf (L ++ items_of records) m

-- Behind the header, which has so many bytes, a snapshot was taken where one comes, and records, and then no more. What was taken was
-- done, and unless the device failed the replica stands for the node that it makes; where not even a snapshot was, none that may come goes
-- on there.
pub record CutShort {D : Type 0} (g : Ghosts D) (old new : Replica D) (format : Format) (uuid : List ℕ) (before : Option (List ℕ)) (start : ℕ) (e : Refusal) : Type 0 where
  pub snapshot : Option Snapshot
  pub comes : Came format (facts_of g old) snapshot
  pub records : List Judged
  pub are_records : AllByRecursion IsRecord records
  pub left : Option (List ℕ)
  pub taken : Consumes before left (snapshot_part format snapshot ++ flat_map record_part records)
  pub went : Went g old new uuid snapshot records
  pub node : e ≢ DiskFault → (n : Node) → Holds g n old → (m : Node) × GoesOn n uuid snapshot records m × Holds g m new
  pub ends : EndsHere g new (counted start (length (snapshot_part format snapshot ++ flat_map record_part records))) left e
  pub none : snapshot ≡ None → records ≡ [] → (at : ℕ) → e ≡ Malformed at → IfSome before (NoSnapshotComes format (facts_of g old))

-- This header was taken, which is for the replica: of its cluster, or the replica is of none, and of its shape.
pub record TakesHeader (s : Standing) (header : Header) (before left : Option (List ℕ)) : Type 0 where
  pub is_header : IsHeader header
  pub cluster : (header.uuid ≡ s.uuid) ⊎ IsNil s.uuid
  pub shape : header.shape ≡ shape_of s.setting
  pub taken : Consumes before left (header_bytes header)

-- The header isn't taken: the reader failed, there is none, or it is one for another node.
abbrev pub IsOtherHeader : Standing → List ℕ → Type 0
IsOtherHeader s bytes = (header : Header) × (rest : List ℕ) × IsHeader header × (bytes ≡ header_bytes header ++ rest) × ((header.uuid ≡ s.uuid) ⊎ IsNil s.uuid → header.shape ≡ shape_of s.setting → ⊥)

abbrev pub RefusesHeader : Standing → Option (List ℕ) → Refusal → Type 0
RefusesHeader s before e = (e ≡ StreamFault) ⊎ (((e ≡ Malformed 0) × IfSome before (BeginWithNone IsHeader header_bytes)) ⊎ ((e ≡ WrongCluster) × IfSome before (IsOtherHeader s)))

-- What stands where a transfer was not taken to its end. The replica settled, as far as it came; then the header was not taken, or it was,
-- and what came behind it was cut short.
pub record Ended {D : Type 0} (g : Ghosts D) (old new : Replica D) (before : Option (List ℕ)) (e : Refusal) : Type 0 where
  pub settled : Replica D
  pub grown : Grown g old settled []
  pub why : ((WorksEarly e ⊎ RefusesHeader (facts_of g settled) before e) × (settled ≡ new))
      ⊎ ((header : Header) × (left : Option (List ℕ)) × TakesHeader (facts_of g settled) header before left × CutShort g settled new header.format header.uuid left 59 e)

-- ---- how it is taken, part by part

-- The transfer ends at this position behind these items: all that was delivered, and durable. On any device there are so many before it, and
-- it is durable.
pub record EndsAt {D : Type 0} (g : Ghosts D) (old new : Replica D) (records : List Judged) (last : ℕ) : Type 0 where
  pub quiet : is_quiet (facts_of g new) ≡ true
  pub limit : last < 2 ^ 64
  pub last_is : (n : Node) → Holds g n old → delivered (facts_of g old) + length records ≡ last
  pub least : delivered (facts_of g old) + length records ≤ last
  pub durable : last ≤ (facts_of g new).durable

-- the end, where it was met
abbrev pub end_part : Option ℕ → List ℕ
end_part None = []
end_part (Some last) = end_bytes last

-- The bytes are some records, and the end behind them where it was met, and the replica took them.
pub record Follows {D : Type 0} (g : Ghosts D) (old new : Replica D) (ended : Option ℕ) (bytes : List ℕ) : Type 0 where
  pub records : List Judged
  pub are_records : AllByRecursion IsRecord records
  pub spelled : bytes ≡ flat_map record_part records ++ end_part ended
  pub grown : Grown g old new records
  pub ends : IfSome ended (EndsAt g old new records)

-- What was taken of a reader are such bytes.
abbrev pub Followed : {D : Type 0} → Ghosts D → Replica D → Replica D → ℕ → ℕ → Option (List ℕ) → Option (List ℕ) → Option ℕ → Type 0
Followed g old new start now before left ended = (bytes : List ℕ) × Took start now before left bytes × Follows g old new ended bytes

-- So are those in hand, which were taken before, with them.
abbrev pub FollowedFrom : {D : Type 0} → Ghosts D → Replica D → Replica D → List ℕ → Option (List ℕ) → Option (List ℕ) → ℕ → Type 0
FollowedFrom g old new hand before left last = (bytes : List ℕ) × Consumes before left bytes × Follows g old new (Some last) (hand ++ bytes)

-- Some records were taken, behind so many bytes, and then no more.
pub record Cut {D : Type 0} (g : Ghosts D) (old new : Replica D) (before : Option (List ℕ)) (start : ℕ) (e : Refusal) : Type 0 where
  pub records : List Judged
  pub are_records : AllByRecursion IsRecord records
  pub grown : Grown g old new records
  pub left : Option (List ℕ)
  pub taken : Consumes before left (flat_map record_part records)
  pub ends : EndsHere g new (counted start (length (flat_map record_part records))) left e

-- This part, which stands at this byte, isn't taken: its own work was refused, or it may not come.
abbrev pub IsOut : {D : Type 0} → Ghosts D → Replica D → Part → ℕ → Refusal → Type 0
IsOut g r part at e = WorksEarly e ⊎ ((e ≡ Malformed at) × (MayFollow g r part → ⊥))

-- The items behind where it starts make this node, where so many are delivered.
pub record Continues (n : Node) (snapshot : Option Snapshot) (records : List Judged) (last : ℕ) (m : Node) : Type 0 where
  pub count : delivered m.facts ≡ last
  pub order : (L : Order) → StartsAt n snapshot L → IsOf (L ++ items_of records) m
  pub judged : (L : Order) → StartsAt n snapshot L → records ≡ drop (length L) (history_of n.facts.setting (L ++ items_of records))

-- The snapshot may come: to a replica of no cluster, or above what is durable; where none comes, the replica is of a cluster.
abbrev pub MayCome : Standing → Option Snapshot → Type 0
MayCome s snapshot = MatchOption snapshot (IsNil s.uuid → ⊥) (λ y. IsSnapshot s.setting y × ((delivered s < y.position) ⊎ IsNil s.uuid))

-- All that comes behind the header was taken, some of it before: a snapshot where one comes, the records, the end.
pub record TakesAll {D : Type 0} (g : Ghosts D) (old new : Replica D) (format : Format) (uuid : List ℕ) (last : ℕ) (hand : List ℕ) (before left : Option (List ℕ)) : Type 0 where
  pub snapshot : Option Snapshot
  pub fits : IfSome snapshot SnapshotFits
  pub told : IfSome snapshot (CanTell format (facts_of g old).setting)
  pub comes : MayCome (facts_of g old) snapshot
  pub records : List Judged
  pub are_records : AllByRecursion IsRecord records
  pub bytes : List ℕ
  pub taken : Consumes before left bytes
  pub spelled : hand ++ bytes ≡ snapshot_part format snapshot ++ (flat_map record_part records ++ end_bytes last)
  pub uuid_is : (facts_of g new).uuid ≡ uuid
  pub setting : (facts_of g new).setting ≡ (facts_of g old).setting
  pub quiet : is_quiet (facts_of g new) ≡ true
  pub limit : last < 2 ^ 64
  pub durable : last ≤ (facts_of g new).durable
  pub node : (n : Node) → Holds g n old → (m : Node) × Continues n snapshot records last m × Holds g m new
  pub went : Went g old new uuid snapshot records

-- On any device, by the facts of the replica: the bytes began with a transfer that it can take, of its cluster, or at a replica of none, and
-- of its shape, with a snapshot that may come, or, at a replica of a cluster, with none; that is what was taken of them, to its end. The
-- replica is then of the transfer's cluster, and has the parameters that it had, and what it ends at is durable there.
pub record TookTransfer {D : Type 0} (g : Ghosts D) (bytes : List ℕ) (left : Option (List ℕ)) (old new : Replica D) (last : ℕ) : Type 0 where
  pub transfer : Transfer
  pub is_transfer : IsTransfer transfer
  pub cluster : (transfer.header.uuid ≡ (facts_of g old).uuid) ⊎ IsNil (facts_of g old).uuid
  pub shape : transfer.header.shape ≡ shape_of (facts_of g old).setting
  pub snapshot : MayCome (facts_of g old) transfer.snapshot
  pub rest : List ℕ
  pub front : bytes ≡ transfer_bytes transfer ++ rest
  pub left_is : left ≡ Some rest
  pub last_is : transfer.last ≡ last
  pub durable : last ≤ (facts_of g new).durable
  pub uuid : (facts_of g new).uuid ≡ transfer.header.uuid
  pub setting : (facts_of g new).setting ≡ (facts_of g old).setting
