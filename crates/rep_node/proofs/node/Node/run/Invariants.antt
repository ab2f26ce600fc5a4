use Rattle.std.proofs.Common.{◌≡◌, ℕ, ◌≤◌, length, vec_capacity, vec_len}
use Rattle.rep_node.specs.Jobs.{Adjoin, Gathered, IsDone, job_from, job_to}
use Rattle.rep_node.proofs.node.Node.run.Given as goal

-- The jobs from this place on have come together again.
abbrev pub invariant-loop-job : goal.invariant-loop-job
invariant-loop-job g l = (l.seat.lock ≡ l.fn.seat.lock) × (vec_capacity l.fn.receipts ≤ vec_capacity l.receipts)
    × (place : ℕ) × Adjoin job_from job_to (IsDone (g.P.Pace.lets l.pace) l.keeps l.fn.seat.lock l.fn.seat.view l.items (length l.items)) 0 place l.jobs.items
    × Gathered (g.P.Pace.lets l.pace) l.keeps l.items place (length l.items) l.fn.seat.view l.seat.view l.receipts.items l.end

abbrev pub decreases-loop-job : goal.decreases-loop-job
decreases-loop-job g l = vec_len l.jobs
