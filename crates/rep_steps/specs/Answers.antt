-- The replies of an answer.
use Rattle.std.specs.Prelude.{Bool, Option, Some, None, List, []}
use Rattle.std.specs.Cmp.Lexicographic.{pointwise}
use Rattle.arrayvec.specs.ArrayVec.{ArrayVec}
use Rattle.rep_types.specs.declared.reply.Reply.{Reply}
use Rattle.rep_types.specs.contracts.reply.ReplyPartialEq.TheImpl as reply_eq

-- what is in the room for replies, where there is one
abbrev pub replies_in : Option (ArrayVec Reply) → List Reply
replies_in None = []
replies_in (Some room) = room.items

-- whether two lists of replies are the same, reply by reply
abbrev pub same_replies : List Reply → List Reply → Bool
same_replies = pointwise (reply_eq.ghosts).eq
