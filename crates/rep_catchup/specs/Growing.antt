-- How a replica grows, by its own steps and by the items that are delivered to it.
use Rattle.std.specs.Prelude.{◌≡◌, ◌≢◌, ◌⊎◌, ◌+◌, ◌≤◌, ◌||◌, true, List, [], ◌++◌, length, drop, is_some, Result, Ok, Err}
use Rattle.rep_types.specs.declared.judged.Judged.{Judged}
use Rattle.rep_types.specs.declared.refusal.Refusal.{Refusal}
use Rattle.rep_types.specs.declared.refusal.Refusal.TheVariants.{DiskFault, Corrupt}
use Rattle.rep_types.specs.declared.refusal.Part.{Part}
use Rattle.rep_types.specs.declared.refusal.Part.TheVariants.{Pages}
use Rattle.rep_types.specs.Order.{Order, items_of, history as history_of}
use Rattle.rep_disk.specs.declared.disk.Disk.{Ghosts}
use Rattle.rep_steps.specs.declared.event.Event.{Event}
use Rattle.rep_steps.specs.declared.answer.Answer.{Answer}
use Rattle.rep_steps.specs.Standings.{delivered}
use Rattle.rep_steps.specs.Nodes.{Node}
use Rattle.rep_steps.specs.Orders.{IsOf}
use Rattle.rep_steps.specs.Runs.{accepted_by}
use Rattle.rep_replica.specs.Replicas.{Replica, facts_of}
use Rattle.rep_replica.specs.Refusing.{IsFaultToldBy}
use Rattle.rep_replica.specs.Holding.{Holds}
use Rattle.rep_replica.specs.Running.{Ran}
use Rattle.rep_replica.specs.Spelling.{MeetsBadPage}
use Rattle.rep_replica.specs.Settling.{IsRunning}

-- The node grew by these items: so many more are delivered, and it is of each order that it was of before, with them behind that, where
-- they were judged so.
pub record Grows (n : Node) (records : List Judged) (m : Node) : Type 0 where
  pub count : delivered m.facts ≡ delivered n.facts + length records
  pub order : (L : Order) → IsOf L n → IsOf (L ++ items_of records) m
  pub judged : (L : Order) → IsOf L n → records ≡ drop (length L) (history_of n.facts.setting (L ++ items_of records))

-- The replica grew by these items, by a run: it is of the cluster and has the parameters that it had, on any device; and for each node
-- that it stood for it stands for one that grew by them.
pub record Grown {D : Type 0} (g : Ghosts D) (old new : Replica D) (records : List Judged) : Type 0 where
  pub uuid : (facts_of g new).uuid ≡ (facts_of g old).uuid
  pub setting : (facts_of g new).setting ≡ (facts_of g old).setting
  pub count : delivered (facts_of g old) + length records ≤ delivered (facts_of g new)
  pub events : List Event
  pub answers : List Answer
  pub paired : length events ≡ length answers
  pub ran : Ran g old new events answers
  pub accepted : accepted_by events answers ≡ items_of records
  pub node : (n : Node) → Holds g n old → (m : Node) × Grows n records m × Holds g m new

-- these, where it succeeded
abbrev pub where_ok : {T X : Type 0} → Result T Refusal → List X → List X
where_ok (Ok x) xs = xs
where_ok (Err e) xs = []

-- Whether it is stopped then: where the device failed, and nowhere else.
abbrev pub EndsRunning : {D T : Type 0} → Result T Refusal → Replica D → Type 0
EndsRunning (Ok x) r = IsRunning r
EndsRunning (Err e) r = ((e ≡ DiskFault) × ((r.stopped || is_some r.engine.halted) ≡ true)) ⊎ ((e ≢ DiskFault) × IsRunning r)

-- What a refusal tells of the device: its fault, exactly where there was one; that a page is not of its form only where an honest
-- device's bytes have none; and that of no device of a node.
pub record IsToldBy {D : Type 0} (g : Ghosts D) (old new : Replica D) (e : Refusal) : Type 0 where
  pub faults : IsFaultToldBy (g.failures old.engine.disk) (g.failures new.engine.disk) e
  pub corrupt : e ≡ Corrupt Pages → MeetsBadPage g new
  pub whole : (n : Node) → Holds g n old → (part : Part) → e ≢ Corrupt part

-- so it is of a call, whatever came of it
abbrev pub Tells : {D T : Type 0} → Ghosts D → Replica D → Replica D → Result T Refusal → Type 0
Tells g old new (Ok x) = g.failures new.engine.disk ≡ g.failures old.engine.disk
Tells g old new (Err e) = IsToldBy g old new e
