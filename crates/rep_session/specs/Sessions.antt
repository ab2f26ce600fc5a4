-- A session as its callers see it, and what each call answers and makes of it.
use Rattle.std.specs.Prelude.{◌≡◌, ℕ, ◌≤◌, nat_le, nat_lt, Bool, true, false, ◌&&◌, not, if◌then◌else◌, List, [], ◌∷◌, ◌++◌, length, filter, map, Option, Some, None, Result, Ok, Err, MatchOption, IsOk, ⊤}
use Rattle.std.specs.List.{list_any, find}
use Rattle.rep_types.specs.declared.key.Key.{Key}
use Rattle.rep_types.specs.declared.value.Write.{Write}
use Rattle.rep_types.specs.declared.limits.TheConstants.{MAX_VALUE, MAX_READS, MAX_WRITES}
use Rattle.rep_types.specs.declared.refusal.Refusal.{Refusal}
use Rattle.rep_types.specs.declared.refusal.Refusal.TheVariants.{Closed, BadKey, TooManyReads, TooManyWrites, ValueTooLong}
use Rattle.rep_types.specs.Keys.{key_eq, key_lt, disorder}
use Rattle.rep_types.specs.Settings.{has_row}
use Rattle.rep_types.specs.Transactions.{transaction, key_of}
use Rattle.rep_session.specs.declared.finished.Finished.{Finished}
use Rattle.rep_session.specs.declared.finished.Finished.TheVariants.{ReadOnly, WriteSet}

-- How far a transaction has come: its labels, the number of rows of each table, the position that it reads at, the keys that it
-- read, what it writes, and whether it has ended.
pub record Progress : Type 0 where
  pub source : ℕ
  pub trx : ℕ
  pub tables : List ℕ
  pub snapshot : ℕ
  pub reads : List Key
  pub writes : List Write
  pub ended : Bool

abbrev pub progress : ℕ → ℕ → List ℕ → ℕ → List Key → List Write → Bool → Progress
progress source trx tables snapshot reads writes ended =
    record { source = source; trx = trx; tables = tables; snapshot = snapshot; reads = reads; writes = writes; ended = ended }

-- a transaction that has read and written nothing
abbrev pub begun : ℕ → ℕ → List ℕ → ℕ → Progress
begun source trx tables snapshot = progress source trx tables snapshot [] [] false

-- What holds of each: at most 16 reads and 16 writes, both ascending by key.
pub record IsProgress (t : Progress) : Type 0 where
  pub few_reads : length t.reads ≤ MAX_READS
  pub few_writes : length t.writes ≤ MAX_WRITES
  pub reads_ascend : disorder t.reads ≡ None
  pub writes_ascend : disorder (map key_of t.writes) ≡ None

-- x among these, in the order of their keys: those below it, it, and those above it. So it stands in the place of the one with
-- its key.
abbrev pub placed : {A : Type 0} → (A → Key) → A → List A → List A
placed key_of x xs = filter (λ y. key_lt (key_of y) (key_of x)) xs ++ x ∷ filter (λ y. key_lt (key_of x) (key_of y)) xs

-- a key is its own key
abbrev pub itself : Key → Key
itself key = key

-- the write of the key, if there is one
abbrev pub write_of : List Write → Key → Option Write
write_of writes key = find (λ (write : Write). key_eq write.key key) writes

abbrev pub with_read : Progress → Key → Progress
with_read t key = record t { reads = placed itself key t.reads }

abbrev pub with_write : Progress → Write → Progress
with_write t write = record t { writes = placed key_of write t.writes }

-- ---- gets

-- whether the key is one more than can be read: 16 others were
abbrev pub is_read_too_many : Progress → Key → Bool
is_read_too_many t key = nat_le MAX_READS (length t.reads) && not (list_any (λ (other : Key). key_eq other key) t.reads)

-- what was written is answered; else it is refused where it is one read too many
abbrev pub recalled : Option Write → Bool → Option (Result (Option (List ℕ)) Refusal)
recalled (Some write) too_many = Some (Ok write.value)
recalled None too_many = if too_many then Some (Err TooManyReads) else None

-- The answer to a get for which no rows are asked: a refusal, or what the transaction itself wrote.
abbrev pub known : Progress → Key → Option (Result (Option (List ℕ)) Refusal)
known t key =
    if t.ended then Some (Err Closed)
    else if not (has_row t.tables key) then Some (Err BadKey)
    else recalled (write_of t.writes key) (is_read_too_many t key)

-- a key for which rows were asked was read, unless they refused
abbrev pub after_read : Progress → Key → Result (Option (List ℕ)) Refusal → Progress
after_read t key (Ok row) = with_read t key
after_read t key (Err refusal) = t

-- A get of the key, where gives says what reads answer. What is known is answered, and changes nothing. Else the answer is that
-- of the rows at the snapshot.
abbrev pub Gets : {S : Type 0} → (S → Key → ℕ → Result (Option (List ℕ)) Refusal → S → Type 0) →
    Progress → Key → S → Result (Option (List ℕ)) Refusal → Progress → S → Type 0
Gets gives t key a answer u b = MatchOption (known t key)
    (gives a key t.snapshot answer b × (u ≡ after_read t key answer))
    (λ r. (answer ≡ r) × (u ≡ t) × (b ≡ a))

-- ---- puts and deletes

abbrev pub is_value_short : Option (List ℕ) → Bool
is_value_short None = true
is_value_short (Some bytes) = nat_le (length bytes) MAX_VALUE

-- whether the key is one more than can be written: 16 others were
abbrev pub is_write_too_many : Progress → Key → Bool
is_write_too_many t key = nat_le MAX_WRITES (length t.writes) && not (list_any (λ (write : Write). key_eq write.key key) t.writes)

-- why a write is refused
abbrev pub write_refusal : Progress → Write → Option Refusal
write_refusal t write =
    if t.ended then Some Closed
    else if not (has_row t.tables write.key) then Some BadKey
    else if not (is_value_short write.value) then Some ValueTooLong
    else if is_write_too_many t write.key then Some TooManyWrites
    else None

-- A put or a delete: it is refused, and changes nothing, or it is done.
abbrev pub Writes : Progress → Write → Result ⊤ Refusal → Progress → Type 0
Writes t write answer u = MatchOption (write_refusal t write)
    (IsOk answer × (u ≡ with_write t write))
    (λ r. (answer ≡ Err r) × (u ≡ t))

abbrev pub put : Key → List ℕ → Write
put key bytes = record { key = key; value = Some bytes }

abbrev pub delete : Key → Write
delete key = record { key = key; value = None }

-- ---- the end

-- how a transaction ended that had come so far: with its write set, or, where it wrote nothing, with none
abbrev pub finished : Progress → Finished
finished t = if nat_lt 0 (length t.writes) then WriteSet (transaction t.source t.trx t.snapshot t.reads t.writes) else ReadOnly
