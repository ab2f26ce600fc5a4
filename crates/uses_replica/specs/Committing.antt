-- All that was delivered is made durable, a block after another.
use Rattle.std.specs.Prelude.{◌≡◌, ℕ, ◌+◌, List, [], ◌++◌, length, map, Result, OnOk}
use Rattle.rep_types.specs.declared.judged.Judged.{Judged}
use Rattle.rep_types.specs.declared.refusal.Refusal.{Refusal}
use Rattle.rep_types.specs.Replies.{reply_of}
use Rattle.rep_disk.specs.declared.disk.Disk.{Ghosts}
use Rattle.rep_steps.specs.declared.event.Event.{Event}
use Rattle.rep_steps.specs.declared.answer.Answer.{Answer}
use Rattle.rep_steps.specs.Runs.{acknowledged}
use Rattle.rep_replica.specs.Replicas.{Replica, facts_of}
use Rattle.rep_replica.specs.Running.{Ran}
use Rattle.rep_replica.specs.Settling.{AreOwn}

-- These items became durable, by a run of the replica's own steps, which replied to each of them once, in their order; and the others still
-- wait: none, where it succeeded.
pub record Committed {D : Type 0} (g : Ghosts D) (old new : Replica D) (count : ℕ) (result : Result (Unit {0}) Refusal) : Type 0 where
  pub done : List Judged
  pub split : (facts_of g old).ahead ≡ done ++ (facts_of g new).ahead
  pub durable : (facts_of g new).durable ≡ (facts_of g old).durable + length done
  pub counted : count ≡ length done
  pub events : List Event
  pub answers : List Answer
  pub own : AreOwn events
  pub ran : Ran g old new events answers
  pub told : acknowledged answers ≡ map reply_of done
  pub all : OnOk result ((facts_of g new).ahead ≡ [])
