-- Runs of a replica.
use Rattle.std.specs.Prelude.{List, [], ◌∷◌, ◌++◌}
use Rattle.rep_disk.specs.declared.disk.Disk.{Ghosts}
use Rattle.rep_steps.specs.declared.event.Event.{Event}
use Rattle.rep_steps.specs.declared.answer.Answer.{Answer}
use Rattle.rep_steps.specs.Nodes.{Node}
use Rattle.rep_steps.specs.Orders.{NodesHoldTheOrder, StepsFollowTheOrder}
use Rattle.rep_steps.specs.Runs.{RunsComeTo, RunsAnswerTheOrder}
use Rattle.rep_steps.specs.Images.{RunsOn}
use Rattle.rep_recover.specs.Meanings.{Means}
use Rattle.rep_replica.specs.Replicas.{Replica}
use Rattle.rep_replica.specs.Holding.{Holds, IsStep}

-- The replica ran these events since it was so: what a node that it stood for then made of them.
abbrev pub Ran : {D : Type 0} → Ghosts D → Replica D → Replica D → List Event → List Answer → Type 0
Ran g first r es told =
    (n : Node) → Holds g n first → (m : Node) × RunsOn Means (g.history first.engine.disk) (g.history r.engine.disk) n es told m × Holds g m r

-- No event is a run; a step is a run of one event; and two runs, the second from where the first led, are the run of both lists. So
-- who drives a replica by single steps, by reads, or lets it settle, has a run.
pub record RunsAreJoined {D : Type 0} (g : Ghosts D) : Type 0 where
  pub no_run : (r : Replica D) → Ran g r r [] []
  pub one_run : (old new : Replica D) (e : Event) (a : Answer) → IsStep g old e a new → Ran g old new (e ∷ []) (a ∷ [])
  pub both_runs : (first mid last : Replica D) (events : List Event) (answers : List Answer) (more : List Event) (told : List Answer) → Ran g first mid events answers → Ran g mid last more told
      → Ran g first last (events ++ more) (answers ++ told)

-- What a run of an order is, step by step.
abbrev pub RunsFollowTheOrder : Type 0
RunsFollowTheOrder = NodesHoldTheOrder × StepsFollowTheOrder × RunsComeTo × RunsAnswerTheOrder
