use Rattle.std.proofs.Common.{◌≡◌, ◌<◌, None, vec_capacity}
use Rattle.rep_node.specs.Batches.{AreLetOn}
use Rattle.rep_node.specs.Seats.{KeptBy}
use Rattle.rep_node.proofs.Batching.{AtPlace}
use Rattle.rep_node.proofs.node.Node.work.Given as goal

abbrev pub invariant-loop-place : goal.invariant-loop-place
invariant-loop-place g l = (l.job.seat.lock ≡ l.fn.job.seat.lock) × (l.job.from ≡ l.fn.job.from) × (l.job.to ≡ l.fn.job.to) × (l.job.end ≡ None) × (vec_capacity l.job.receipts ≡ vec_capacity l.fn.job.receipts)
    × KeptBy l.keeps l.fn.job.seat.view l.job.seat.view × AreLetOn (g.P.Pace.lets l.pace) l.job.receipts.items
    × (l.fn.job.from < l.place → l.job.seat.view.halted ≡ 0)
    × AtPlace g.D.Disk l.items l.fn.job.from l.place l.fn.job.seat.view l.job.seat.view l.job.receipts.items
