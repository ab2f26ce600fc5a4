use Rattle.std.proofs.Common.{◌≡◌, ◌≤◌, ◌+◌, ◌++◌, length, map, take}
use Rattle.rep_types.specs.Replies.{reply_of}
use Rattle.rep_engine.proofs.accept.add_replies.Given as goal

-- The replies of the first so many items stand behind those that were there.
abbrev pub invariant-loop-i : goal.invariant-loop-i
invariant-loop-i l = record {
  end : l.i-end ≡ l.fn.count;
  within : l.i ≤ l.fn.count;
  replies : l.replies ≡ l.fn.replies ++ map reply_of (take l.i l.fn.backlog);
  size : length l.replies ≡ length l.fn.replies + l.i;
}
