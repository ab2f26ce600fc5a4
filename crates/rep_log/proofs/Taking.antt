-- A body that is the next block.
use Rattle.std.proofs.Common.{ℕ, ◌+◌, ◌≤◌, List, length}
use Rattle.rep_types.specs.declared.limits.TheConstants.{MAX_SEQNO}
use Rattle.rep_types.specs.declared.judged.Judged.{Judged}
use Rattle.rep_record.specs.Blocks.{IsNextBlock}
use Rattle.rep_log.proofs.Blocks.{last_small}

-- its last seqno is within the limit
pub taken_small : (number seqno : ℕ) (body : List ℕ) (records : List Judged) → IsNextBlock number seqno body records → seqno ≤ MAX_SEQNO + 1 → seqno + length records ≤ MAX_SEQNO + 1
taken_small number seqno body records taken small = last_small seqno records small taken.is_block.are_records taken.follow
