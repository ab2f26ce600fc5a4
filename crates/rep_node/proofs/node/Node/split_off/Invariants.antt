use Rattle.std.proofs.Common.{◌≡◌, ℕ, ◌+◌, ◌≤◌, length, vec_capacity, vec_len}
use Rattle.rep_ordered.specs.Seats.{seat_of}
use Rattle.rep_ordered.specs.Views.{giving}
use Rattle.rep_node.specs.Jobs.{Adjoin, IsJob, IsShare, job_from, job_to, share_from, share_to}
use Rattle.rep_node.proofs.node.Node.split_off.Given as goal

-- The shares from this place on are jobs.
abbrev pub invariant-loop-from : goal.invariant-loop-from
invariant-loop-from g l = (length l.jobs.items + length l.shares.items ≤ vec_capacity l.jobs)
    × ((count : ℕ) → Adjoin share_to share_from (IsShare count) count 0 l.fn.shares.items → (place : ℕ) × Adjoin share_to share_from (IsShare count) count place l.shares.items × (l.seat ≡ seat_of l.fn.seat.lock (giving place l.fn.seat.view))
    × Adjoin job_from job_to (IsJob l.fn.seat.lock l.fn.seat.view count) 0 place l.jobs.items)

abbrev pub decreases-loop-from : goal.decreases-loop-from
decreases-loop-from g l = vec_len l.shares
