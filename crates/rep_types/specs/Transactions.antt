-- What certification sees of a write set, and the limits of a write set.
use Rattle.std.specs.Prelude.{◌≡◌, ℕ, ◌+◌, ◌<◌, ◌≤◌, nat_lt, if◌then◌else◌, List, ◌++◌, length, map, Option, None, Some, Result, Ok, Err, IfSome}
use Rattle.std.specs.List.{AllByRecursion}
use Rattle.rep_types.specs.declared.limits.TheConstants.{MAX_VALUE, MAX_READS, MAX_WRITES}
use Rattle.rep_types.specs.declared.key.Key.{Key}
use Rattle.rep_types.specs.declared.value.Write.{Write}
use Rattle.rep_types.specs.declared.refusal.Refusal.{Refusal}
use Rattle.rep_types.specs.declared.refusal.Refusal.TheVariants.{Malformed, TooManyReads, TooManyWrites}
use Rattle.rep_types.specs.Keys.{disorder}

-- a write set without where it lies in memory: its labels, the position that its transaction saw, the keys that the
-- transaction read, and what it writes
pub record Transaction : Type 0 where
  pub source : ℕ
  pub trx : ℕ
  pub last_seen : ℕ
  pub reads : List Key
  pub writes : List Write

abbrev pub transaction : ℕ → ℕ → ℕ → List Key → List Write → Transaction
transaction source trx last_seen reads writes =
    record { source = source; trx = trx; last_seen = last_seen; reads = reads; writes = writes }

abbrev pub key_of : Write → Key
key_of write = write.key

-- the keys that it writes, in their order
abbrev pub written : Transaction → List Key
written w = map key_of w.writes

-- the keys that it reads or writes
abbrev pub named : Transaction → List Key
named w = w.reads ++ written w

-- the value has at most 62 bytes, where there is one
abbrev pub HasShortValue : Write → Type 0
HasShortValue write = IfSome write.value (λ bytes. length bytes ≤ MAX_VALUE)

-- The limits of a write set: at most 16 reads, 1 to 16 writes, each list strictly ascending by key, each value of at most 62 bytes.
pub record IsWithinLimits (w : Transaction) : Type 0 where
  pub few_reads : length w.reads ≤ MAX_READS
  pub some_write : 0 < length w.writes
  pub few_writes : length w.writes ≤ MAX_WRITES
  pub reads_ascend : disorder w.reads ≡ None
  pub writes_ascend : disorder (written w) ≡ None
  pub short_values : AllByRecursion HasShortValue w.writes

-- The first entry that isn't above its predecessor in its own list, as its index in the reads followed by the writes; where
-- there is none, the number of reads where there is no write.
abbrev pub misplaced_write : List Key → List Write → Option ℕ → Option ℕ
misplaced_write reads writes (Some i) = Some (length reads + i)
misplaced_write reads writes None = if nat_lt 0 (length writes) then None else Some (length reads)

abbrev pub misplaced_entry : List Key → List Write → Option ℕ → Option ℕ
misplaced_entry reads writes (Some i) = Some i
misplaced_entry reads writes None = misplaced_write reads writes (disorder (map key_of writes))

abbrev pub misplaced : List Key → List Write → Option ℕ
misplaced reads writes = misplaced_entry reads writes (disorder reads)

abbrev pub in_order : Transaction → Option ℕ → Result Transaction Refusal
in_order w (Some i) = Err (Malformed i)
in_order w None = Ok w

-- it, unless it is refused
abbrev pub unless : {A E : Type 0} → A → Option E → Result A E
unless a (Some e) = Err e
unless a None = Ok a

-- This came in the place of what was there; or it was refused, and what was there stays.
abbrev pub Renews : {A E : Type 0} → Result A E → A → A → Result (Unit {0}) E → Type 0
Renews (Ok a) old new result = (result ≡ Ok tt) × (new ≡ a)
Renews (Err e) old new result = (result ≡ Err e) × (new ≡ old)

-- the write set, or the first refusal that applies
abbrev pub checked : Transaction → Result Transaction Refusal
checked w =
    if nat_lt MAX_READS (length w.reads) then Err TooManyReads
    else if nat_lt MAX_WRITES (length w.writes) then Err TooManyWrites
    else in_order w (misplaced w.reads w.writes)
