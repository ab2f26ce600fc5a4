use Rattle.std.proofs.Common.{◌≡◌, ◌+◌, List, ℕ}
use Rattle.rep_record.specs.Blocks.{head_with, HasHead}
use Rattle.rep_record.proofs.Replaying.{ReplayedTo}
use Rattle.rep_record.proofs.replay.replay_block.Given as goal

-- the records so far were given on
abbrev pub invariant-loop : goal.invariant-loop
invariant-loop g l = record {
  body : List ℕ;
  has : HasHead l.bytes (head_with l.cell l.seqno l.count) body;
  at : ReplayedTo g.S.Replays l.initial.to l.to l.seqno l.counter body l.rest;
  next_is : l.next ≡ l.seqno + l.counter;
}
