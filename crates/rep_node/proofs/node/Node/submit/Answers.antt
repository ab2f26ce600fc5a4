use Rattle.std.proofs.Common.{rules, ◌≡◌, ℕ, ◌<◌, arith, ap, ◌∙◌}
use Rattle.std.proofs.lemmas.Grind.{common_steps}
use Rattle.rep_types.specs.declared.judged.Judged.{Judged}
use Rattle.rep_ordered.specs.declared.view.View.{View}
use Rattle.rep_ordered.specs.Seats.{Place}
use Rattle.rep_ordered.specs.Views.{reached_at, with_number}
use Rattle.rep_node.specs.declared.home.Home.{Home}
use Rattle.rep_node.specs.Seats.{DrewOne}
use Rattle.rep_node.proofs.Moves.{drew_begins, drew_later, drew_went, passed_next}
use Rattle.rep_node.proofs.node.Node.submit.Given.{Over}
use Rattle.rep_node.proofs.node.Node.submit.Goals as goal
use Rattle.rep_node.proofs.node.Node.submit.Goals.{After-claim-ticket, After-paced, After-wait_durable, After-certify, After-paced-2, After-queue, After-paced-3, After-wait_durable-2}

-- what the seat has come to by now
abbrev Came : (g : Over) → ℕ → View (Home g.row.D.Denot) Judged → View (Home g.row.D.Denot) Judged → Type 0
Came g = DrewOne g.D.Disk

claimed : (g : Over) (c : After-claim-ticket g) → Came g c.claim-ticket.result c.args.seat.now.view c.claim-ticket.new.seat.view
claimed g c = let is : c.claim-ticket.new.seat.view ≡ with_number c.claim-ticket.result c.args.seat.now.view = ap (λ (z : Place (Home g.row.D.Denot) Judged). z.view) c.claim-ticket.ensures.seat in
    drew_begins g.D.Disk _ _ _ is c.requires.free c.requires.allowance c.claim-ticket.ensures.fresh c.requires.seat

begun : (g : Over) (c : After-paced g) → Came g c.claim-ticket.result c.args.seat.now.view c.claim-ticket.new.seat.view → Came g c.claim-ticket.result c.args.seat.now.view c.paced.new.seat.view
begun g c before = drew_later g.D.Disk _ c.claim-ticket.new.seat.view c.paced.new.seat.view _ before c.paced.ensures.later

near : (g : Over) (c : After-wait_durable g) → Came g c.claim-ticket.result c.args.seat.now.view c.paced.new.seat.view → Came g c.claim-ticket.result c.args.seat.now.view c.wait_durable.new.seat.view
near g c before = drew_went g.D.Disk _ c.paced.new.seat.view c.wait_durable.new.seat.view _ before c.wait_durable.ensures.idle.0 c.wait_durable.ensures.idle.1

certified : (g : Over) (c : After-certify g) → Came g c.claim-ticket.result c.args.seat.now.view c.wait_durable.new.seat.view → Came g c.claim-ticket.result c.args.seat.now.view c.certify.new.seat.view
certified g c before = drew_went g.D.Disk _ c.wait_durable.new.seat.view c.certify.new.seat.view _ before c.certify.ensures.went c.certify.ensures.own.0

judged : (g : Over) (c : After-paced-2 g) → Came g c.claim-ticket.result c.args.seat.now.view c.certify.new.seat.view → Came g c.claim-ticket.result c.args.seat.now.view c.paced-2.new.seat.view
judged g c before = drew_later g.D.Disk _ c.certify.new.seat.view c.paced-2.new.seat.view _ before c.paced-2.ensures.later

queued : (g : Over) (c : After-queue g) → Came g c.claim-ticket.result c.args.seat.now.view c.paced-2.new.seat.view → Came g c.claim-ticket.result c.args.seat.now.view c.queue.new.seat.view
queued g c before = drew_went g.D.Disk _ c.paced-2.new.seat.view c.queue.new.seat.view _ before c.queue.ensures.went c.queue.ensures.own.0

waits : (g : Over) (c : After-paced-3 g) → Came g c.claim-ticket.result c.args.seat.now.view c.queue.new.seat.view → Came g c.claim-ticket.result c.args.seat.now.view c.paced-3.new.seat.view
waits g c before = drew_later g.D.Disk _ c.queue.new.seat.view c.paced-3.new.seat.view _ before c.paced-3.ensures.later

ended : (g : Over) (c : After-wait_durable-2 g) → Came g c.claim-ticket.result c.args.seat.now.view c.paced-3.new.seat.view → Came g c.claim-ticket.result c.args.seat.now.view c.wait_durable-2.new.seat.view
ended g c before = drew_went g.D.Disk _ c.paced-3.new.seat.view c.wait_durable-2.new.seat.view _ before c.wait_durable-2.ensures.idle.0 c.wait_durable-2.ensures.idle.1

pub returns-in_err-paced-clause-drawn : goal.returns-in_err-paced-clause-drawn
returns-in_err-paced-clause-drawn g c = let at = goal.at.returns-in_err-paced-clause-drawn g c in (c.claim-ticket.result, begun g at.After-paced (claimed g at.After-claim-ticket), search rules)

pub returns-in_err-wait_durable-clause-drawn : goal.returns-in_err-wait_durable-clause-drawn
returns-in_err-wait_durable-clause-drawn g c = let at = goal.at.returns-in_err-wait_durable-clause-drawn g c in (c.claim-ticket.result, near g at.After-wait_durable (begun g at.After-paced (claimed g at.After-claim-ticket)), search rules)

pub returns-in_err-judged-clause-drawn : goal.returns-in_err-judged-clause-drawn
returns-in_err-judged-clause-drawn g c = let at = goal.at.returns-in_err-judged-clause-drawn g c in (c.claim-ticket.result, certified g at.After-certify (near g at.After-wait_durable (begun g at.After-paced (claimed g at.After-claim-ticket))), search rules)

pub returns-in_err-paced-2-clause-drawn : goal.returns-in_err-paced-2-clause-drawn
returns-in_err-paced-2-clause-drawn g c = let at = goal.at.returns-in_err-paced-2-clause-drawn g c in (c.claim-ticket.result, judged g at.After-paced-2 (certified g at.After-certify (near g at.After-wait_durable (begun g at.After-paced (claimed g at.After-claim-ticket)))), search rules)

pub returns-in_err-queue-clause-drawn : goal.returns-in_err-queue-clause-drawn
returns-in_err-queue-clause-drawn g c = let at = goal.at.returns-in_err-queue-clause-drawn g c in (c.claim-ticket.result, queued g at.After-queue (judged g at.After-paced-2 (certified g at.After-certify (near g at.After-wait_durable (begun g at.After-paced (claimed g at.After-claim-ticket))))), search rules)

pub returns-in_err-paced-3-clause-drawn : goal.returns-in_err-paced-3-clause-drawn
returns-in_err-paced-3-clause-drawn g c = let at = goal.at.returns-in_err-paced-3-clause-drawn g c in (c.claim-ticket.result, waits g at.After-paced-3 (queued g at.After-queue (judged g at.After-paced-2 (certified g at.After-certify (near g at.After-wait_durable (begun g at.After-paced (claimed g at.After-claim-ticket)))))), search rules)

pub returns-in_err-wait_durable-2-clause-drawn : goal.returns-in_err-wait_durable-2-clause-drawn
returns-in_err-wait_durable-2-clause-drawn g c = let at = goal.at.returns-in_err-wait_durable-2-clause-drawn g c in (c.claim-ticket.result, ended g at.After-wait_durable-2 (waits g at.After-paced-3 (queued g at.After-queue (judged g at.After-paced-2 (certified g at.After-certify (near g at.After-wait_durable (begun g at.After-paced (claimed g at.After-claim-ticket))))))), search rules)

pub returns-clause-drawn : goal.returns-clause-drawn
returns-clause-drawn g c = let at = goal.at.returns-clause-drawn g c in (c.claim-ticket.result, ended g at.After-wait_durable-2 (waits g at.After-paced-3 (queued g at.After-queue (judged g at.After-paced-2 (certified g at.After-certify (near g at.After-wait_durable (begun g at.After-paced (claimed g at.After-claim-ticket))))))), search rules)

pub wait_durable-requires-clause-seat : goal.wait_durable-requires-clause-seat
wait_durable-requires-clause-seat g c = let at = goal.at.wait_durable-requires-clause-seat g c in (begun g at.After-paced (claimed g at.After-claim-ticket)).seat

pub wait_durable-requires-2-clause-seat : goal.wait_durable-requires-2-clause-seat
wait_durable-requires-2-clause-seat g c = let at = goal.at.wait_durable-requires-2-clause-seat g c in (waits g at.After-paced-3 (queued g at.After-queue (judged g at.After-paced-2 (certified g at.After-certify (near g at.After-wait_durable (begun g at.After-paced (claimed g at.After-claim-ticket))))))).seat

pub certify-requires-clause-seat : goal.certify-requires-clause-seat
certify-requires-clause-seat g c = let at = goal.at.certify-requires-clause-seat g c in (near g at.After-wait_durable (begun g at.After-paced (claimed g at.After-claim-ticket))).seat

pub queue-requires-clause-seat : goal.queue-requires-clause-seat
queue-requires-clause-seat g c = let at = goal.at.queue-requires-clause-seat g c in (judged g at.After-paced-2 (certified g at.After-certify (near g at.After-wait_durable (begun g at.After-paced (claimed g at.After-claim-ticket))))).seat

pub queue-requires-clause-judged : goal.queue-requires-clause-judged
queue-requires-clause-judged g c = (c.wait_durable.new.seat.view.joined, ap (λ (z : View (Home g.row.D.Denot) Judged). z.joined) c.paced-2.ensures.later.same ∙ c.in_ok-judged.ensures.joined.2)

pub returns-clause-passed : goal.returns-clause-passed
returns-clause-passed g c =
    let at = goal.at.returns-clause-passed g c in
    let all = ended g at.After-wait_durable-2 (waits g at.After-paced-3 (queued g at.After-queue (judged g at.After-paced-2 (certified g at.After-certify (near g at.After-wait_durable (begun g at.After-paced (claimed g at.After-claim-ticket))))))) in
    let seqno : c.in_ok-judged.judged.seqno ≡ c.claim-ticket.result = c.in_ok-judged.ensures.joined.1 in
    let passed : c.in_ok-judged.judged.seqno < reached_at 2 c.queue.new.seat.view.reached = search rules in
    let third = ap (λ (z : View (Home g.row.D.Denot) Judged). reached_at 2 z.reached) c.paced-3.ensures.later.same in
    let last = c.wait_durable-2.ensures.idle.0.goes.reached 2 in
    passed_next _ _ _ all.went all.own (let here : c.claim-ticket.result < reached_at 2 c.wait_durable-2.new.seat.view.reached = omega arith in here)

pub returns-clause-receipt : goal.returns-clause-receipt
returns-clause-receipt g c = grind (arith, common_steps)

pub returns-clause-paced : goal.returns-clause-paced
returns-clause-paced g c = search rules

pub returns-in_err-paced-2-clause-joined : goal.returns-in_err-paced-2-clause-joined
returns-in_err-paced-2-clause-joined g c = search rules
