-- What is written of a command.
use Rattle.std.proofs.Common.{◌≡◌, ◌≢◌, ℕ, inl, inr, Bool, List, Option, None, Result, Ok, Err, OnOk, OnErr, IfErr, take, refl, sym, ap, subst}
use Rattle.std.specs.Prelude.{IfOk, MatchResult}
use Rattle.std.specs.Io.KnownBytes.{Appends}
use Rattle.rep_types.specs.declared.key.Key.{Key}
use Rattle.rep_types.specs.declared.item.Item.{Item}
use Rattle.rep_types.specs.declared.refusal.Refusal.{Refusal}
use Rattle.rep_types.specs.declared.refusal.Refusal.TheVariants.{OutOfMemory, DiskFault, Stopped, OutOfOrder, Backlogged, LogFull, NotDue, TooOld, NotYet, BadKey, Undefined, NotFormatted, Corrupt, TooSmall, BadParams, Malformed, TooManyReads, TooManyWrites, ValueTooLong, WrongCluster, Ahead, Closed, Exhausted, StreamFault}
use Rattle.rep_types.specs.Order.{Order, state}
use Rattle.rep_streams.specs.Streams.{Notes}
use Rattle.rep_disk.specs.declared.disk.Disk.{Ghosts}
use Rattle.rep_steps.specs.Nodes.{Node}
use Rattle.rep_steps.specs.Orders.{IsOf}
use Rattle.rep_replica.specs.Replicas.{Replica, facts_of}
use Rattle.rep_replica.specs.Holding.{Holds}
use Rattle.rep_sum.specs.declared.sum.Sum.{Sum as SumOf}
use Rattle.rep_sum.specs.Sums.{RowRead, IsSumAt, sum_of}
use Rattle.rep_script.specs.Answering.{Tells}
use Rattle.rep_script.specs.Refusing.{refused_line}
use Rattle.rep_script.specs.Summing.{position_of}
use Rattle.rep_service.specs.Rows.{ReadsRows, rows_of}
use Rattle.rep_service.specs.Saying.{Said, Refused, line_of}
use Rattle.rep_service.specs.Commanding.{EndsNode, Refuses, TellsOwn, TellsRead, TellsRows, TellsSummed, TellsSumOf, done_of}

-- a line that was put whole, or a front of it
pub tells_line : (line : List ℕ) (before after : Option (List ℕ)) (r : Result (Unit {0}) Refusal) → OnOk r (Appends before after line) → OnErr r ((k : ℕ) × Appends before after (take k line)) → IfErr r (λ e. e ≡ StreamFault)
    → Tells line before after r
tells_line line before after (Ok x) ok cut fault = ok
tells_line line before after (Err e) ok cut fault = subst (λ f. Tells line before after (Err f)) (sym fault) cut

-- the rows that were read are told
pub tells_rows : {D : Type 0} (g : Ghosts D) (keys : List Key) (old new : Replica D) (before after : Option (List ℕ)) (r : Result (Unit {0}) Refusal) (at : ℕ) → at ≡ (facts_of g old).durable → (rows : Result (List RowRead) Refusal)
    → ReadsRows g at keys old rows new → TellsRead at rows before after r → ((n : Node) (L : Order) → Holds g n old → IsOf L n → IfOk rows (λ xs. xs ≡ rows_of n.facts.setting L keys at)) → TellsRows g keys old new before after r
tells_rows g keys old new before after r at is rows reads told order = record {
  rows = rows;
  reads = subst (λ k. ReadsRows g k keys old rows new) is reads;
  told = subst (λ k. TellsRead k rows before after r) is told;
  order = subst (λ k. (n : Node) (L : Order) → Holds g n old → IsOf L n → IfOk rows (λ xs. xs ≡ rows_of n.facts.setting L keys k)) is order;
}

-- the sum that was taken is told
pub tells_sum : {D : Type 0} (g : Ghosts D) (asked : Option ℕ) (old new : Replica D) (before after : Option (List ℕ)) (r : Result (Unit {0}) Refusal) (at : ℕ) → at ≡ position_of g old asked → (sum : Result SumOf Refusal)
    → IsSumAt g at old sum new → TellsSummed sum before after r → ((n : Node) (L : Order) → Holds g n old → IsOf L n → IfOk sum (λ s. s ≡ sum_of n.facts.uuid n.facts.setting.rows (state n.facts.setting (take at L)))) → TellsSumOf g asked old new before after r
tells_sum g asked old new before after r at is sum taken told order = record {
  sum = sum;
  taken = subst (λ k. IsSumAt g k old sum new) is taken;
  told = told;
  order = subst (λ k. (n : Node) (L : Order) → Holds g n old → IsOf L n → IfOk sum (λ s. s ≡ sum_of n.facts.uuid n.facts.setting.rows (state n.facts.setting (take k L)))) is order;
}

-- ---- notes

-- behind what left the note as it was
pub noted_behind : {T : Type 0} (old mid new : Bool) (r : Result T Refusal) → mid ≡ old → Notes mid new r → Notes old new r
noted_behind old mid new r same notes = subst (λ b. Notes b new r) same notes

-- ---- no item

pub done_is : (a : Result (Unit {0}) Refusal) (r : Result (Option Item) Refusal) → MatchResult a (λ _. r ≡ Ok None) (λ e. r ≡ Err e) → done_of r ≡ a
done_is (Ok x) r is = ap done_of is
done_is (Err e) r is = ap done_of is

-- ---- what a node says of itself

pub own_told : (IsOwn : Said → Type 0) (one : Said) (before after : Option (List ℕ)) (r : Result (Unit {0}) Refusal) → IsOwn one → Tells (line_of one) before after r → IfErr r (λ e. e ≡ StreamFault) → TellsOwn IsOwn before after r
own_told IsOwn one before after r is told fault = record { said = one; is = inl is; told = told; fault = fault }

-- why it is refused
pub own_refused : (IsOwn : Said → Type 0) (e : Refusal) (before after : Option (List ℕ)) (r : Result (Unit {0}) Refusal) → Tells (refused_line e) before after r → IfErr r (λ f. f ≡ StreamFault) → TellsOwn IsOwn before after r
own_refused IsOwn e before after r told fault = record { said = Refused e; is = inr (e, refl); told = told; fault = fault }

pub ends_by_writer : (r : Result (Unit {0}) Refusal) → IfErr r (λ e. e ≡ StreamFault) → IfErr r EndsNode
ends_by_writer (Ok x) fault = tt
ends_by_writer (Err e) fault = inl fault

-- any refusal but two is told by its line
pub refuses_by : (e : Refusal) (before after : Option (List ℕ)) (r : Result (Unit {0}) Refusal) → e ≢ DiskFault → e ≢ Stopped → Tells (refused_line e) before after r → IfErr r (λ f. f ≡ StreamFault) → Refuses e before after r
refuses_by DiskFault before after r other running told fault = absurd (other refl)
refuses_by Stopped before after r other running told fault = absurd (running refl)
refuses_by OutOfMemory before after r other running told fault = (told, fault)
refuses_by (OutOfOrder n) before after r other running told fault = (told, fault)
refuses_by Backlogged before after r other running told fault = (told, fault)
refuses_by LogFull before after r other running told fault = (told, fault)
refuses_by NotDue before after r other running told fault = (told, fault)
refuses_by (TooOld n) before after r other running told fault = (told, fault)
refuses_by (NotYet n) before after r other running told fault = (told, fault)
refuses_by BadKey before after r other running told fault = (told, fault)
refuses_by Undefined before after r other running told fault = (told, fault)
refuses_by NotFormatted before after r other running told fault = (told, fault)
refuses_by (Corrupt part) before after r other running told fault = (told, fault)
refuses_by (TooSmall n) before after r other running told fault = (told, fault)
refuses_by BadParams before after r other running told fault = (told, fault)
refuses_by (Malformed n) before after r other running told fault = (told, fault)
refuses_by TooManyReads before after r other running told fault = (told, fault)
refuses_by TooManyWrites before after r other running told fault = (told, fault)
refuses_by ValueTooLong before after r other running told fault = (told, fault)
refuses_by WrongCluster before after r other running told fault = (told, fault)
refuses_by (Ahead n) before after r other running told fault = (told, fault)
refuses_by Closed before after r other running told fault = (told, fault)
refuses_by Exhausted before after r other running told fault = (told, fault)
refuses_by StreamFault before after r other running told fault = (told, fault)
