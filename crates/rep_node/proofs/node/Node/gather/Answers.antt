use Rattle.std.proofs.Common.{◌∙◌}
use Rattle.std.specs.Prelude.{OnOk}
use Rattle.rep_node.proofs.Keeps.{told_ok}
use Rattle.rep_node.proofs.Desks.{desk_given}
use Rattle.rep_node.proofs.node.Node.gather.Goals as goal

pub accept_next-longer-requires-clause-at : goal.accept_next-longer-requires-clause-at
accept_next-longer-requires-clause-at g c = let at = c.requires.at in (at.0, at.1, c.loop.invariant.2 at.0 at.1 at.2)

pub returns-clause-given : goal.returns-clause-given
returns-clause-given g c = λ v seat a. desk_given g.D.Disk v c.loop.seat.view c.loop.desk (c.loop.invariant.2 v seat a)

pub returns-in-Err-clause-given : goal.returns-in-Err-clause-given
returns-in-Err-clause-given g c = λ v seat a. c.accept_next-longer.ensures.given v seat (c.loop.invariant.2 v seat a)

pub returns-then-not-none_left-clause-given : goal.returns-then-not-none_left-clause-given
returns-then-not-none_left-clause-given g c = λ v seat a. c.accept_next-longer.ensures.given v seat (c.loop.invariant.2 v seat a)

pub loop-preserved : goal.loop-preserved
loop-preserved g c =
    let ok = λ (P : Type 0) (told : OnOk c.accept_next-longer.result.1 P). told_ok P c.accept_next-longer.result.1 c.in-Ok.none_left c.in-Ok.is told in (
      c.accept_next-longer.ensures.lock ∙ c.loop.invariant.0,
      ok _ c.accept_next-longer.ensures.runs ∙ c.loop.invariant.1,
      (λ v seat a. ok _ (c.accept_next-longer.ensures.at v seat (c.loop.invariant.2 v seat a))),
    )
