use Rattle.std.proofs.Common.{◌≡◌, ◌++◌, List, ◌∷◌, [], length, ap, ◌∙◌, arith, length-append}
use Rattle.rep_types.specs.declared.reply.Reply.{Reply}
use Rattle.rep_types.specs.Replies.{reply_of}
use Rattle.rep_engine.proofs.Replying.{one_more_reply, one_there}
use Rattle.rep_engine.proofs.accept.add_replies.Goals as goal

pub loop-i-preserved : goal.loop-i-preserved
loop-i-preserved c =
    let there = one_there c.args.backlog.now c.loop-i.i (omega (arith, c.loop-i-test.true, c.loop-i.invariant.end, c.requires.within)) in
    let j = there.0 in
    let pushed : c.add_reply.new.replies ≡ c.loop-i.replies ++ reply_of j ∷ [] = c.in_ok-add_reply.ensures.added j there.1 in
    record {
      end = c.loop-i.invariant.end;
      within = omega (arith, c.loop-i-test.true, c.loop-i.invariant.end);
      replies = pushed ∙ ap (λ (rs : List Reply). rs ++ reply_of j ∷ []) c.loop-i.invariant.replies ∙ one_more_reply c.args.replies.now c.args.backlog.now c.loop-i.i j there.1;
      size = ap length pushed ∙ omega (arith, length-append c.loop-i.replies (reply_of j ∷ []), c.loop-i.invariant.size);
    }
