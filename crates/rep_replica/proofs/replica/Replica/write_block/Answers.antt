use Rattle.std.proofs.Common.{List, sym, subst, ◌∙◌}
use Rattle.rep_types.specs.declared.reply.Reply.{Reply}
use Rattle.rep_types.proofs.Lists.{empty_by_test}
use Rattle.rep_replica.proofs.Committing.{is_something}
use Rattle.rep_replica.proofs.Turning.{Came, came_none, came_on, came_ended, came_to}
use Rattle.rep_replica.proofs.replica.Replica.write_block.Goals as goal

pub loop-self-init : goal.loop-self-init
loop-self-init g c =
    subst (λ (given : List Reply). Came g.D.Disk c.args.pages c.args.pages given c.args.self.now c.args.self.now) (sym c.new-replies.ensures)
    (came_none g.D.Disk c.runs_are_joined.ensures c.args.pages c.args.self.now c.requires.running c.requires.free)

pub loop-self-preserved : goal.loop-self-preserved
loop-self-preserved g c =
    came_on g.D.Disk c.runs_are_joined.ensures c.args.pages c.loop-self.left c.loop-self.replies c.args.self.now c.loop-self.self c.turn.new.self c.loop-self.invariant
    (empty_by_test c.loop-self.replies (sym c.is_empty.ensures ∙ c.loop-self-test.true)) c.in-Ok.came.0 c.in-Ok.came.1 c.in-Ok.ensures.running c.in-Ok.ensures.turns

pub returns-in-Err-clause-commits : goal.returns-in-Err-clause-commits
returns-in-Err-clause-commits g c =
    came_ended g.D.Disk c.runs_are_joined.ensures c.args.pages c.loop-self.left c.loop-self.replies c.args.self.now c.loop-self.self c.turn.new.self c.loop-self.invariant
    (empty_by_test c.loop-self.replies (sym c.is_empty.ensures ∙ c.loop-self-test.true)) c.in-Err.refusal c.requires.free c.in-Err.ensures.turns

pub returns-clause-commits : goal.returns-clause-commits
returns-clause-commits g c =
    came_to g.D.Disk c.runs_are_joined.ensures c.args.pages c.loop-self.left c.loop-self.replies c.args.self.now c.loop-self.self c.loop-self.invariant
    (is_something c.loop-self.replies (sym c.is_empty.ensures ∙ c.loop-self-test.false)) c.requires.free
