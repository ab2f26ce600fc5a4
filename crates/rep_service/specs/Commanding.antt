-- What a node does at a line that asks for something, and what it writes of it.
use Rattle.std.specs.Prelude.{◌≡◌, ◌⊎◌, ℕ, ◌+◌, ◌==◌, if◌then◌else◌, List, take, Option, None, Some, Result, Ok, Err, IfOk, IfErr, MatchResult}
use Rattle.std.specs.Io.KnownBytes.{Keeps}
use Rattle.rep_types.specs.declared.key.Key.{Key}
use Rattle.rep_types.specs.declared.item.Item.{Item}
use Rattle.rep_types.specs.declared.refusal.Refusal.{Refusal}
use Rattle.rep_types.specs.declared.refusal.Refusal.TheVariants.{StreamFault, Stopped, DiskFault, OutOfOrder, Malformed}
use Rattle.rep_types.specs.Windows.{Window}
use Rattle.rep_types.specs.Order.{Order, window, state}
use Rattle.rep_disk.specs.declared.disk.Disk.{Ghosts}
use Rattle.rep_cert.specs.Holdings.{window_of}
use Rattle.rep_engine.specs.Engines.{gtid_of, durable_of}
use Rattle.rep_steps.specs.Nodes.{Node}
use Rattle.rep_steps.specs.Orders.{IsOf}
use Rattle.rep_requests.specs.Requests.{Requested, Nothing, Published, Stated, Read, Sum, State as OwnState, Limits as OwnLimits, Counters as OwnCounters, Donate, Refused as Wrong, Broken}
use Rattle.rep_replica.specs.Replicas.{Replica, facts_of}
use Rattle.rep_replica.specs.Holding.{Holds}
use Rattle.rep_replica.specs.Settling.{EndsEarly}
use Rattle.rep_replica.specs.Asking.{IsAsked}
use Rattle.rep_sum.specs.declared.sum.Sum.{Sum as SumOf}
use Rattle.rep_sum.specs.Sums.{RowRead, IsSumAt, sum_of}
use Rattle.rep_script.specs.Answering.{Tells}
use Rattle.rep_script.specs.CatchingUp.{donated_line}
use Rattle.rep_script.specs.Refusing.{refused_line}
use Rattle.rep_script.specs.Summing.{sum_line, position_of}
use Rattle.rep_follow.specs.declared.counts.Counts.{Counts}
use Rattle.rep_follow.specs.Committing.{TellsAll}
use Rattle.rep_service.specs.Lines.{rows_line}
use Rattle.rep_service.specs.declared.counters.Level.{Level}
use Rattle.rep_service.specs.Rows.{ReadsRows, rows_of}
use Rattle.rep_service.specs.Saying.{Said, State, Limits, Counters, Refused, line_of}

-- ---- how a node ends

-- Why a node ends at a command: its writer failed, it is stopped, or what it does by itself ended early.
abbrev pub EndsNode : Refusal → Type 0
EndsNode e = (e ≡ StreamFault) ⊎ ((e ≡ Stopped) ⊎ EndsEarly e)

-- What comes of a command that is refused: where the device failed or the node is stopped the node ends by it, and nothing is written; else the line
-- of the refusal is written, and the node goes on unless its writer fails.
abbrev pub Refuses : Refusal → Option (List ℕ) → Option (List ℕ) → Result (Unit {0}) Refusal → Type 0
Refuses DiskFault before after result = (result ≡ Err DiskFault) × Keeps before after
Refuses Stopped before after result = (result ≡ Err Stopped) × Keeps before after
Refuses e before after result = Tells (refused_line e) before after result × IfErr result (λ f. f ≡ StreamFault)

-- ---- rows

-- What is written of them: their line, with all of them at one position; or what is written of a refusal.
abbrev pub TellsRead : ℕ → Result (List RowRead) Refusal → Option (List ℕ) → Option (List ℕ) → Result (Unit {0}) Refusal → Type 0
TellsRead at (Ok rows) before after result = Tells (rows_line at rows) before after result × IfErr result (λ e. e ≡ StreamFault)
TellsRead at (Err e) before after result = Refuses e before after result

-- The rows of these keys were read at what is durable, and told. At a node of an order they are the order's.
pub record TellsRows {D : Type 0} (g : Ghosts D) (keys : List Key) (old new : Replica D) (before after : Option (List ℕ)) (result : Result (Unit {0}) Refusal) : Type 0 where
  pub rows : Result (List RowRead) Refusal
  pub reads : ReadsRows g (facts_of g old).durable keys old rows new
  pub told : TellsRead (facts_of g old).durable rows before after result
  pub order : (n : Node) (L : Order) → Holds g n old → IsOf L n → IfOk rows (λ xs. xs ≡ rows_of n.facts.setting L keys (facts_of g old).durable)

-- ---- a sum

-- What is written of a sum: its line; or what is written of a refusal.
abbrev pub TellsSummed : Result SumOf Refusal → Option (List ℕ) → Option (List ℕ) → Result (Unit {0}) Refusal → Type 0
TellsSummed (Ok sum) before after result = Tells (sum_line sum) before after result × IfErr result (λ e. e ≡ StreamFault)
TellsSummed (Err e) before after result = Refuses e before after result

-- The sum at this position, or at what is durable, was taken, and told. At a node of an order it is that of the order's state.
pub record TellsSumOf {D : Type 0} (g : Ghosts D) (asked : Option ℕ) (old new : Replica D) (before after : Option (List ℕ)) (result : Result (Unit {0}) Refusal) : Type 0 where
  pub sum : Result SumOf Refusal
  pub taken : IsSumAt g (position_of g old asked) old sum new
  pub told : TellsSummed sum before after result
  pub order : (n : Node) (L : Order) → Holds g n old → IsOf L n → IfOk sum (λ s. s ≡ sum_of n.facts.uuid n.facts.setting.rows (state n.facts.setting (take (position_of g old asked) L)))

-- ---- a transfer

-- What is written of a transfer: the line of its position; or what is written of a refusal.
abbrev pub TellsDonated : Result ℕ Refusal → Option (List ℕ) → Option (List ℕ) → Result (Unit {0}) Refusal → Type 0
TellsDonated (Ok last) before after result = Tells (donated_line last) before after result × IfErr result (λ e. e ≡ StreamFault)
TellsDonated (Err e) before after result = Refuses e before after result

-- What comes of a transfer behind what was made durable: where that was refused, nothing more; else the device was asked, and nothing else was done, and
-- the transfer told.
abbrev pub TellsTransfer : {D : Type 0} → Ghosts D → Replica D → Replica D → Result (Unit {0}) Refusal → Option (List ℕ) → Option (List ℕ) → Result (Unit {0}) Refusal → Type 0
TellsTransfer g mid new (Err e) between after result = (result ≡ Err e) × (new ≡ mid) × (after ≡ between)
TellsTransfer g mid new (Ok x) between after result = IsAsked g mid new × ((donated : Result ℕ Refusal) × TellsDonated donated between after result)

-- All that was delivered was made durable and told, and then a transfer was written, or refused, and told.
pub record TellsDonation {D : Type 0} (g : Ghosts D) (old new : Replica D) (was now : Counts) (before after : Option (List ℕ)) (result : Result (Unit {0}) Refusal) : Type 0 where
  pub mid : Replica D
  pub between : Option (List ℕ)
  pub committed : Result (Unit {0}) Refusal
  pub tells : TellsAll g old mid was now before between committed
  pub transfer : TellsTransfer g mid new committed between after result

-- ---- what a node says of itself

-- The line says what stands there at what is durable, or why it is refused.
pub record TellsOwn (IsOwn : Said → Type 0) (before after : Option (List ℕ)) (result : Result (Unit {0}) Refusal) : Type 0 where
  pub said : Said
  pub is : IsOwn said ⊎ ((e : Refusal) × (said ≡ Refused e))
  pub told : Tells (line_of said) before after result
  pub fault : IfErr result (λ e. e ≡ StreamFault)

-- the window at what is durable
abbrev pub window_in : {D : Type 0} → Replica D → Window
window_in r = window_of r.certifier.current (durable_of r.engine.log)

-- At a node of an order it is the order's.
abbrev pub HasWindow : {D : Type 0} → Ghosts D → Replica D → Type 0
HasWindow g r = (n : Node) (L : Order) → Holds g n r → IsOf L n → window_in r ≡ window n.facts.setting (take (facts_of g r).durable L)

abbrev pub IsStateOf : {D : Type 0} → Ghosts D → Replica D → Said → Type 0
IsStateOf g r said = (said ≡ State (gtid_of r.engine) r.engine.checkpoint.base.position (window_in r).entries) × HasWindow g r

abbrev pub IsLimitsOf : {D : Type 0} → Ghosts D → Replica D → Said → Type 0
IsLimitsOf g r said = (said ≡ Limits (window_in r)) × HasWindow g r

-- where the replica stands; how often its device was synced, that tells
pub record IsLevelOf {D : Type 0} (g : Ghosts D) (r : Replica D) (level : Level) : Type 0 where
  pub delivered : level.delivered ≡ r.certifier.current.delivered
  pub durable : level.durable ≡ (facts_of g r).durable
  pub base : level.base ≡ r.engine.checkpoint.base.position
  pub live : (facts_of g r).start + level.cells_live ≡ (facts_of g r).next
  pub cells : level.cells ≡ r.engine.checkpoint.base.params.cells

abbrev pub AreCountersOf : {D : Type 0} → Ghosts D → Replica D → Counts → Said → Type 0
AreCountersOf g r counts said = (level : Level) × IsLevelOf g r level × (said ≡ Counters level counts)

-- ---- a line

-- What a line is to a node that awaits this item of the order: that item; or one with another number, or without a number, which ends the node; or
-- another line, which is answered.
abbrev pub awaited : ℕ → ℕ → Requested → Result (Option Item) Refusal
awaited next number Nothing = Ok None
awaited next number (Published n i) = if n == next then Ok (Some i) else Err (OutOfOrder next)
awaited next number (Stated i) = Ok (Some i)
awaited next number (Read keys) = Ok None
awaited next number (Sum at) = Ok None
awaited next number OwnState = Ok None
awaited next number OwnLimits = Ok None
awaited next number OwnCounters = Ok None
awaited next number (Donate have out) = Ok None
awaited next number (Wrong e) = Ok None
awaited next number Broken = Err (Malformed number)

-- What comes of it: an item is handed back, and a wrong one ends the node; else the line was answered, unless the node ends by that.
abbrev pub ComesOf : Result (Option Item) Refusal → Result (Option Item) Refusal → Type 0
ComesOf (Ok None) result = MatchResult result (λ o. o ≡ None) EndsNode
ComesOf (Ok (Some i)) result = result ≡ Ok (Some i)
ComesOf (Err e) result = result ≡ Err e

abbrev pub done_of : {T : Type 0} → Result T Refusal → Result (Unit {0}) Refusal
done_of (Ok x) = Ok tt
done_of (Err e) = Err e

-- What is done at the line: a command is done, and told by one line; nothing is done at an item, and nothing written.
abbrev pub DoesAt : {D : Type 0} → Ghosts D → Requested → Replica D → Replica D → Counts → Counts → Option (List ℕ) → Option (List ℕ) → Result (Unit {0}) Refusal → Type 0
DoesAt g (Read keys) old new was now before after result = (now ≡ was) × TellsRows g keys old new before after result
DoesAt g (Sum at) old new was now before after result = (now ≡ was) × TellsSumOf g at old new before after result
DoesAt g (Donate have out) old new was now before after result = TellsDonation g old new was now before after result
DoesAt g Nothing old new was now before after result = (now ≡ was) × ((new ≡ old) × (after ≡ before))
DoesAt g (Published n i) old new was now before after result = (now ≡ was) × ((new ≡ old) × (after ≡ before))
DoesAt g (Stated i) old new was now before after result = (now ≡ was) × ((new ≡ old) × (after ≡ before))
DoesAt g Broken old new was now before after result = (now ≡ was) × ((new ≡ old) × (after ≡ before))
DoesAt g OwnState old new was now before after result = (now ≡ was) × ((new ≡ old) × TellsOwn (IsStateOf g old) before after result)
DoesAt g OwnLimits old new was now before after result = (now ≡ was) × ((new ≡ old) × TellsOwn (IsLimitsOf g old) before after result)
DoesAt g OwnCounters old new was now before after result = (now ≡ was) × ((new ≡ old) × TellsOwn (AreCountersOf g old was) before after result)
DoesAt g (Wrong e) old new was now before after result = (now ≡ was) × ((new ≡ old) × TellsOwn (λ said. ⊥) before after result)
