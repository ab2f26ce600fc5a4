use Rattle.std.proofs.Common.{ap, subst}
use Rattle.rep_recover.specs.Engines.{IsEngine}
use Rattle.rep_replica.specs.Replicas.{Replica}
use Rattle.rep_replica.specs.Settling.{outcome_of}
use Rattle.rep_replica.proofs.Turning.{rode_rides, ride_turn, sync_ended, sync_turn, sync_less}
use Rattle.rep_replica.proofs.replica.Replica.sync_block.Goals as goal

abbrev Stands : {D : Type 0} → Replica D → Type 0
Stands r = IsEngine r.engine.layout r.engine.checkpoint r.engine.log r.engine.kept r.engine.block

pub returns-in-Err-clause-turns : goal.returns-in-Err-clause-turns
returns-in-Err-clause-turns g c = ride_turn g.D.Disk c.args.pages c.args.self.now c.ride.new.self c.in-Err.refusal c.in-Err.ensures.rides

pub returns-in-Synced-clause-turns : goal.returns-in-Synced-clause-turns
returns-in-Synced-clause-turns g c =
    let before : Stands c.args.self.now = subst (λ (r : Replica g.row.D.Denot). Stands r) c.self.view_is c.durable-before.ensures.engine in
    let behind : Stands c.ride.new.self = subst (λ (r : Replica g.row.D.Denot). Stands r) c.self-2.view_is c.durable-durable.ensures.engine in
    let rode = rode_rides g.D.Disk c.runs_are_joined.ensures c.args.pages c.in-Ok.left c.args.self.now c.ride.new.self c.in-Ok.ensures.running c.in-Ok.ensures.rides in
    sync_turn g.D.Disk c.runs_are_joined.ensures c.args.pages c.in-Ok.left c.args.self.now c.ride.new.self c.sync.new.self c.sync.result c.requires.running before behind c.requires.awaits rode
    c.in-Ok.ensures.rides.flushed.1 c.sync.ensures.step c.in-Synced.replies c.in-Synced.is (c.sync.ensures.log (ap outcome_of c.in-Synced.is))

pub returns-in-Synced-clause-less : goal.returns-in-Synced-clause-less
returns-in-Synced-clause-less g c =
    let before : Stands c.args.self.now = subst (λ (r : Replica g.row.D.Denot). Stands r) c.self.view_is c.durable-before.ensures.engine in
    let behind : Stands c.ride.new.self = subst (λ (r : Replica g.row.D.Denot). Stands r) c.self-2.view_is c.durable-durable.ensures.engine in
    let rode = rode_rides g.D.Disk c.runs_are_joined.ensures c.args.pages c.in-Ok.left c.args.self.now c.ride.new.self c.in-Ok.ensures.running c.in-Ok.ensures.rides in
    sync_less g.D.Disk c.runs_are_joined.ensures c.args.pages c.in-Ok.left c.args.self.now c.ride.new.self c.sync.new.self c.sync.result c.requires.running before behind c.requires.awaits rode
    c.in-Ok.ensures.rides.flushed.1 c.sync.ensures.step c.in-Synced.replies c.in-Synced.is (c.sync.ensures.log (ap outcome_of c.in-Synced.is))

pub returns-in-Refused-clause-turns : goal.returns-in-Refused-clause-turns
returns-in-Refused-clause-turns g c =
    let before : Stands c.args.self.now = subst (λ (r : Replica g.row.D.Denot). Stands r) c.self.view_is c.durable-before.ensures.engine in
    let behind : Stands c.ride.new.self = subst (λ (r : Replica g.row.D.Denot). Stands r) c.self-2.view_is c.durable-durable.ensures.engine in
    let rode = rode_rides g.D.Disk c.runs_are_joined.ensures c.args.pages c.in-Ok.left c.args.self.now c.ride.new.self c.in-Ok.ensures.running c.in-Ok.ensures.rides in
    sync_ended g.D.Disk c.runs_are_joined.ensures c.args.pages c.in-Ok.left c.args.self.now c.ride.new.self c.sync.new.self c.sync.result c.requires.running before behind c.requires.awaits rode
    c.in-Ok.ensures.rides.flushed.1 c.sync.ensures.step c.in-Refused.refusal (ap outcome_of c.in-Refused.is)
