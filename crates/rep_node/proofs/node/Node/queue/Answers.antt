use Rattle.std.proofs.Common.{rules, ◌≡◌, ◌+◌, ◌≤◌, List, [], ◌∷◌, ◌++◌, length, arith, sym, refl, ap, ◌∙◌, subst}
use Rattle.std.specs.Prelude.{IsErr}
use Rattle.rep_types.specs.declared.judged.Judged.{Judged}
use Rattle.rep_ordered.specs.declared.view.View.{View}
use Rattle.rep_ordered.specs.declared.view.Joined.{Joined}
use Rattle.rep_ordered.specs.Views.{Every, OwnEntry, turn_of}
use Rattle.rep_node.specs.declared.home.Home.{Home}
use Rattle.rep_node.specs.Homes.{Start, QueueAt, common_in, position_of, values_of}
use Rattle.rep_node.specs.Seats.{own_entry}
use Rattle.rep_node.proofs.Standing.{at_third, has_room, next_queue, of_the_start, queue_found}
use Rattle.rep_node.proofs.node.Node.queue.Given.{Over}
use Rattle.rep_node.proofs.node.Node.queue.Goals as goal
use Rattle.rep_node.proofs.node.Node.queue.Goals.{After-queue_of-queue}

pub queue_of-queue-requires : goal.queue_of-queue-requires
queue_of-queue-requires g c = queue_found g.D.Disk c.args.seat.now.view.first c.args.judged.seqno 0 c.enter.new.seat.view.durable c.enter.new.seat.view.seen c.in_ok-home.home c.in_ok-home.ensures.entered.keeps

found : (g : Over) (c : After-queue_of-queue g) → QueueAt c.requires.seat.start c.args.judged.seqno c.enter.new.seat.view.seen c.queue_of-queue.result
found g c = at_third g.D.Disk c.args.seat.now.view.first c.args.judged.seqno 0 c.enter.new.seat.view.durable c.enter.new.seat.view.seen c.in_ok-home.home c.queue_of-queue.result c.in_ok-home.ensures.entered.keeps c.queue_of-queue.ensures c.requires.seat.start c.requires.seat.first

pub unreachable-requires : goal.unreachable-requires
unreachable-requires g c = let at = goal.at.unreachable-requires g c in let e = c.in_ok-home.ensures.entered in let w : View (Home g.row.D.Denot) Judged = c.enter.new.seat.view in
    let full : IsErr c.push.result = search rules in let many : length c.queue_of-queue.result.backlog ≡ 256 = c.push.ensures.backlogged.0 full in
    let named : common_in c.in_ok-home.home ≡ c.queue_of-queue.result.accepted = ap common_in c.queue_of-queue.ensures in let covers : w.durable ≤ common_in c.in_ok-home.home = e.covers (omega arith) in
    let near = c.requires.room in let rises = e.durable in
    let few : length c.queue_of-queue.result.backlog + 1 ≤ 256 = has_room c.histories_go_on.ensures c.requires.seat.start c.args.judged.seqno w.durable w.seen c.queue_of-queue.result (found g at.After-queue_of-queue) (omega arith) (omega arith) in omega arith

pub leave-requires-clause-value : goal.leave-requires-clause-value
leave-requires-clause-value g c = let at = goal.at.leave-requires-clause-value g c in let e = c.in_ok-home.ensures.entered in let w : View (Home g.row.D.Denot) Judged = c.enter.new.seat.view in let s = c.requires.seat.start in
    let is : w.first ≡ values_of s = ap (λ (z : View (Home g.row.D.Denot) Judged). z.first) e.view ∙ c.requires.seat.first in
    let start : w.start ≡ position_of s + 1 = ap (λ (z : View (Home g.row.D.Denot) Judged). z.start) e.view ∙ c.requires.seat.number in
    let joined : w.joined ≡ own_entry c.args.judged ∷ c.requires.judged.0 = ap (λ (z : View (Home g.row.D.Denot) Judged). z.joined) e.view ∙ c.requires.judged.1 in
    let mine = (subst (λ (l : List (Joined Judged)). Every (OwnEntry w.start w.seen w.own) l) joined e.sees.placed.entries).0 in
    let pushed : c.push.new.self ≡ c.queue_of-queue.result.backlog ++ c.args.judged ∷ [] = search rules in (
      refl,
      of_the_start (λ (t : Start g.row.D.Denot). QueueAt t (turn_of 2 w + 1) w.seen (record { backlog = c.push.new.self; accepted = c.queue_of-queue.result.accepted })) w.first s is
          (subst (λ n. QueueAt s (n + 1) w.seen (record { backlog = c.push.new.self; accepted = c.queue_of-queue.result.accepted })) (sym e.now)
          (next_queue c.histories_go_on.ensures s w.start c.args.judged.seqno w.seen w.own c.queue_of-queue.result (record { backlog = c.push.new.self; accepted = c.queue_of-queue.result.accepted }) c.args.judged (found g at.After-queue_of-queue) start mine refl pushed refl)),
    )
