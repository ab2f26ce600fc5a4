use Rattle.std.proofs.Common.{sym, ◌∙◌}
use Rattle.rep_node.proofs.Accepting.{has_room, come_next, accepted_next, accepted_rises}
use Rattle.rep_node.proofs.keeping.accept.Goals as goal

pub wait_for-requires-clause-room : goal.wait_for-requires-clause-room
wait_for-requires-clause-room g c =
    let w = c.requires.work in
    has_room g.D.Disk c.histories_go_on.ensures w.0 w.1 w.2 c.args.desk.now c.args.queue.now w.3 c.fronts_are_determined.ensures (rw c.get_mut-engine.ensures.value at c.durable-durable.ensures.engine) c.next_items-count.result (rw c.get_mut-engine.ensures.value at c.next_items-count.ensures.count)

pub take_next-requires : goal.take_next-requires
take_next-requires g c =
    let w = c.requires.work in
    rw c.get_mut-engine.ensures.value (come_next g.D.Disk c.histories_go_on.ensures w.0 w.1 w.2 c.args.desk.now c.args.queue.now w.3 c.taken_items_stay.ensures)

pub returns-clause-accepted : goal.returns-clause-accepted
returns-clause-accepted g c = λ s number items w.
    let t = c.in_ok-take_next.ensures in
    accepted_next g.D.Disk c.histories_go_on.ensures s number items c.args.desk.now c.args.queue.now w c.take_next.new.engine c.next_items-count.result c.in_ok-take_next.field-0 c.delivered-queue.result c.take_next.new.backlog
    t.within ((rw c.get_mut-engine.ensures.value at c.next_items-count.ensures.count) ∙ sym (rw c.get_mut-engine.ensures.value at t.count)) (rw c.get_mut-engine.ensures.value at t.taken) t.left (rw c.get_mut-engine.ensures.value at t.rest) c.delivered-queue.ensures c.wait_for.new.waiting c.wait_for.ensures

pub returns-clause-rises : goal.returns-clause-rises
returns-clause-rises g c =
    let w = c.requires.work in
    let t = c.in_ok-take_next.ensures in
    accepted_rises g.D.Disk c.histories_go_on.ensures w.0 w.1 w.2 c.args.desk.now c.args.queue.now w.3 c.take_next.new.engine c.in_ok-take_next.field-0 c.delivered-queue.result t.within (rw c.get_mut-engine.ensures.value at t.taken) c.delivered-queue.ensures
