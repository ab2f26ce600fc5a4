use Rattle.uses_replica.proofs.Going.{lived_once, lived_none}
use Rattle.uses_replica.proofs.live_once.Goals as goal

-- src/lib.rt: the life that was lived
pub returns-in-Ok-clause-lived : goal.returns-in-Ok-clause-lived
returns-in-Ok-clause-lived g c = λ is_honest.
    lived_once g.D.Disk c.runs_are_joined.ensures c.stopped_replicas_hold.ensures c.images_of_a_moment.ensures c.moments_of_calls.ensures
    c.args.disk c.into_disk.result c.in_ok-replica.replica c.run.new.self c.args.events.now c.in-Ok.answers.items (c.in_ok-replica.ensures.opens is_honest) c.in-Ok.ensures.steps c.into_disk.ensures

-- and the one whose answers have no room
pub returns-in-Err-clause-refused : goal.returns-in-Err-clause-refused
returns-in-Err-clause-refused g c = λ is_honest.
    lived_none g.D.Disk c.stopped_replicas_hold.ensures c.args.disk c.into_disk-in-Err.result c.in_ok-replica.replica c.run.new.self c.in-Err.refusal (c.in_ok-replica.ensures.opens is_honest)
    c.in-Err.ensures.unchanged c.in-Err.ensures.refused c.into_disk-in-Err.ensures
