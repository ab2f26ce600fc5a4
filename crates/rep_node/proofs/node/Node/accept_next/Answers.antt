use Rattle.std.proofs.Common.{◌≡◌, None, refl}
use Rattle.rep_ordered.specs.Views.{turn_of, without}
use Rattle.rep_node.proofs.Standing.{queue_found}
use Rattle.rep_node.proofs.AtEngine.{view_is}
use Rattle.rep_node.proofs.Accepts.{accepted_at, accepted_given, both_at, queue_back}
use Rattle.rep_node.proofs.Desks.{desk_given, desk_learns}
use Rattle.rep_node.proofs.node.Node.accept_next.Given.{Over}
use Rattle.rep_node.proofs.node.Node.accept_next.Goals as goal
use Rattle.rep_node.proofs.node.Node.accept_next.Goals.{After-side_leave}

pub returns-in-Err-clause-given : goal.returns-in-Err-clause-given
returns-in-Err-clause-given g c = λ v seat a. let stopped = c.in-Err.ensures.stopped in
    desk_learns g.D.Disk 1 v c.args.seat.now.view c.args.desk (desk_given g.D.Disk v c.args.seat.now.view c.args.desk a) c.side_enter.new.seat.view stopped.1 stopped.2

pub queue_of-queue-requires : goal.queue_of-queue-requires
queue_of-queue-requires g c = let f = c.in-Ok.ensures.entered in queue_found g.D.Disk c.args.seat.now.view.first f.0 0 c.side_enter.new.seat.view.durable c.side_enter.new.seat.view.seen c.in-Ok.home f.1.keeps

pub accept-done-requires : goal.accept-done-requires
accept-done-requires g c = let at = c.requires.at in let f = c.in-Ok.ensures.entered in record {
  work = (at.1.start, f.0, c.side_enter.new.seat.view.seen, both_at g.D.Disk at.0 c.args.seat.now.view c.args.desk at.1 at.2 c.side_enter.new.seat.view f.0 c.in-Ok.home c.queue_of-queue.result f.1 c.queue_of-queue.ensures at.1.start at.1.first);
}

pub side_leave-requires-clause-value : goal.side_leave-requires-clause-value
side_leave-requires-clause-value g c = let at = c.requires.at in let f = c.in-Ok.ensures.entered in (
  refl,
  queue_back g.D.Disk at.0 c.args.seat.now.view c.args.desk at.1 at.2 c.side_enter.new.seat.view f.0 c.in-Ok.home c.queue_of-queue.result f.1 c.queue_of-queue.ensures
      c.accept-done.new.desk c.accept-done.new.queue c.accept-done.result c.accept-done.ensures.accepted c.accept-done.ensures.durable c.accept-done.ensures.unchanged,
)

-- the queue was left
left : (g : Over) (c : After-side_leave g) → c.side_leave.new.seat.view ≡ without None 2 (turn_of 2 c.side_enter.new.seat.view) 0 c.accept-done.new.queue.accepted c.side_enter.new.seat.view
left g c = view_is c.side_leave.new.seat c.side_enter.new.seat.lock (without None 2 (turn_of 2 c.side_enter.new.seat.view) 0 c.accept-done.new.queue.accepted c.side_enter.new.seat.view) c.side_leave.ensures.seat

pub returns-clause-at : goal.returns-clause-at
returns-clause-at g c = λ v seat a. let f = c.in-Ok.ensures.entered in
    accepted_at g.D.Disk v c.args.seat.now.view c.args.desk seat a c.side_enter.new.seat.view f.0 c.in-Ok.home c.queue_of-queue.result f.1 c.queue_of-queue.ensures
    c.accept-done.new.desk c.accept-done.new.queue c.accept-done.result c.accept-done.ensures.accepted c.accept-done.ensures.durable c.accept-done.ensures.unchanged c.side_leave.new.seat.view (left g (goal.at.returns-clause-at g c).After-side_leave)

pub returns-clause-given : goal.returns-clause-given
returns-clause-given g c = λ v seat a. let f = c.in-Ok.ensures.entered in
    accepted_given g.D.Disk v c.args.seat.now.view c.args.desk seat a c.side_enter.new.seat.view f.0 c.in-Ok.home c.queue_of-queue.result f.1 c.queue_of-queue.ensures
    c.accept-done.new.desk c.accept-done.new.queue c.accept-done.result c.accept-done.ensures.accepted c.accept-done.ensures.durable c.accept-done.ensures.unchanged c.side_leave.new.seat.view (left g (goal.at.returns-clause-given g c).After-side_leave)
