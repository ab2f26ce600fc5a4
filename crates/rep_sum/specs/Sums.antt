-- Sums of a replica: what they tell, when they are refused, and that they are read row by row.
use Rattle.std.specs.Prelude.{◌≡◌, ℕ, pos, ◌+◌, nat_lt, if◌then◌else◌, is_some, List, [], ◌∷◌, ◌++◌, map, codes, Option, None, Some, Result, Ok, Err, IfSome}
use Rattle.std.specs.List.{flat_map, count_by}
use Rattle.std.specs.Int.{bytes_high_first}
use Rattle.std.specs.Fmt.{decimal}
use Rattle.hex.specs.Hex.{encode_lower}
use Rattle.uuid.specs.Parts.{is_nil_bytes}
use Rattle.sha2.specs.Sha256.{sha256}
use Rattle.sha2.specs.Hashers.{Holds256}
use Rattle.rep_types.specs.declared.key.Key.{Key}
use Rattle.rep_types.specs.declared.refusal.Refusal.{Refusal}
use Rattle.rep_types.specs.declared.refusal.Refusal.TheVariants.{Stopped, Undefined, TooOld, NotYet}
use Rattle.rep_types.specs.Gtids.{gtid_text}
use Rattle.rep_types.specs.Order.{State}
use Rattle.rep_types.specs.Sums.{keys_of, row_sum_bytes, sum_bytes, rows_there}
use Rattle.rep_disk.specs.declared.disk.Disk.{Ghosts}
use Rattle.rep_disk.specs.Devices.{Calls, SameHistory}
use Rattle.rep_log.specs.Moves.{fault_of}
use Rattle.rep_steps.specs.Standings.{Standing}
use Rattle.rep_replica.specs.Replicas.{Replica, facts_of}
use Rattle.rep_replica.specs.Reading.{IsRead}
use Rattle.rep_sum.specs.declared.sum.Sum.{Sum}
use Rattle.rep_sum.specs.declared.summing.Summing.{Summing}

-- the SHA-256 digest of these bytes (FIPS 180-4)
unfoldable pub digest_of : List ℕ → List ℕ
digest_of bytes = sha256 bytes

-- The sum of a state of this cluster, under this schema: a function of the state alone.
abbrev pub sum_of : List ℕ → List ℕ → State → Sum
sum_of uuid schema S = record {
  gtid = record { uuid = uuid; seqno = pos S.position };
  rows = rows_there S (keys_of schema);
  digest = digest_of (sum_bytes uuid schema S);
}

-- how it is written: of which cluster and position it is, how many rows are there, and the digest in lower-case hexadecimal digits
abbrev pub sum_text : Sum → List ℕ
sum_text sum = gtid_text sum.gtid ++ (codes " rows " ++ (decimal sum.rows ++ (codes " sha256 " ++ encode_lower sum.digest)))

-- the first refusal that applies to a sum at a position, the device and its bytes aside
abbrev pub sum_refusal : Standing → ℕ → Option Refusal
sum_refusal s at =
    if s.stopped then Some Stopped
    else if is_nil_bytes s.uuid then Some Undefined
    else if nat_lt at s.base then Some (TooOld s.base)
    else if nat_lt s.durable at then Some (NotYet s.durable)
    else None

-- ---- rows that are read one after another

-- a row as it was read, under its key
abbrev pub RowRead : Type 0
RowRead = Key × Option (List ℕ)

-- These rows were read at the position, one after another, and each was given.
abbrev pub AreGiven : {D : Type 0} → Ghosts D → ℕ → Replica D → List RowRead → Replica D → Type 0
AreGiven g s a [] c = c ≡ a
AreGiven g s a (x ∷ xs) c = (b : _) × IsRead g a x.0 s (Ok x.1) b × AreGiven g s b xs c

-- what they come to as bytes
abbrev pub read_bytes : List RowRead → List ℕ
read_bytes xs = flat_map (λ (x : RowRead). row_sum_bytes x.0 x.1) xs

-- and how many of them are there
abbrev pub read_there : List RowRead → ℕ
read_there xs = count_by (λ (x : RowRead). is_some x.1) xs

abbrev pub keys_read : List RowRead → List Key
keys_read xs = map (λ (x : RowRead). x.0) xs

-- The rows of these keys were read so, in this order, and digested behind what was digested before.
pub record Adds {D : Type 0} (g : Ghosts D) (s : ℕ) (keys : List Key) (a : Replica D) (from : Summing) (b : Replica D) (to : Summing) : Type 0 where
  pub rows : List RowRead
  pub of : keys_read rows ≡ keys
  pub given : AreGiven g s a rows b
  pub fed : (m : List ℕ) → Holds256 from.hasher m → Holds256 to.hasher (m ++ read_bytes rows)
  pub there : to.rows ≡ from.rows + read_there rows

-- Some of them were read so, and the next one was refused.
pub record IsRefusedAt {D : Type 0} (g : Ghosts D) (s : ℕ) (keys : List Key) (a : Replica D) (refusal : Refusal) (c : Replica D) : Type 0 where
  pub rows : List RowRead
  pub key : Key
  pub left : List Key
  pub split : keys_read rows ++ key ∷ left ≡ keys
  pub mid : Replica D
  pub given : AreGiven g s a rows mid
  pub refused : IsRead g mid key s (Err refusal) c

-- what came of the reading of these rows
abbrev pub AddsOrRefuses : {D : Type 0} → Ghosts D → ℕ → List Key → Replica D → Summing → Replica D → Summing → Result (Unit {0}) Refusal → Type 0
AddsOrRefuses g s keys a from b to (Ok _) = Adds g s keys a from b to
AddsOrRefuses g s keys a from b to (Err refusal) = IsRefusedAt g s keys a refusal b

-- ---- what a sum is, on any device

-- The rows of the schema were read at the position, in the order of their keys, and each was given; the sum tells what they come to.
pub record IsSumRead {D : Type 0} (g : Ghosts D) (s : ℕ) (a : Replica D) (sum : Sum) (b : Replica D) : Type 0 where
  pub rows : List RowRead
  pub of : keys_read rows ≡ keys_of a.engine.checkpoint.base.params.rows
  pub given : AreGiven g s a rows b
  pub told : sum ≡ record {
    gtid = record { uuid = a.engine.checkpoint.base.uuid; seqno = pos s };
    rows = read_there rows;
    digest = digest_of (a.engine.checkpoint.base.uuid ++ (bytes_high_first 8 s ++ read_bytes rows));
  }

-- A sum is read row by row, or is refused as the first row is that is refused.
abbrev pub Sums : {D : Type 0} → Ghosts D → ℕ → Replica D → Result Sum Refusal → Replica D → Type 0
Sums g s a (Ok sum) b = IsSumRead g s a sum b
Sums g s a (Err refusal) b = IsRefusedAt g s (keys_of a.engine.checkpoint.base.params.rows) a refusal b

-- The device is asked at most, and nothing else changes but whether the replica is stopped.
pub record AsksAtMost {D T : Type 0} (g : Ghosts D) (a : Replica D) (result : Result T Refusal) (b : Replica D) : Type 0 where
  pub call : Calls g a.engine.disk b.engine.disk (fault_of result)
  pub same : SameHistory g a.engine.disk b.engine.disk
  pub rest : b ≡ record a { engine = record a.engine { disk = b.engine.disk; halted = b.engine.halted } }

-- What comes of a sum at a position: the first refusal that applies, and then nothing changes; or else what the rows come to.
pub record IsSumAt {D : Type 0} (g : Ghosts D) (s : ℕ) (a : Replica D) (result : Result Sum Refusal) (b : Replica D) : Type 0 where
  pub refused : IfSome (sum_refusal (facts_of g a) s) (λ refusal. (result ≡ Err refusal) × (b ≡ a))
  pub sums : sum_refusal (facts_of g a) s ≡ None → Sums g s a result b
  pub asks : AsksAtMost g a result b
