use Rattle.std.proofs.Common.{rules, ◌≡◌, ℕ, length, arith, refl, sym, ap, ◌∙◌, subst}
use Rattle.std.proofs.lemmas.List.Sorted.{IsNonDecreasingBy-from_sort_by_key}
use Rattle.rep_types.specs.declared.judged.Judged.{Judged}
use Rattle.rep_ordered.specs.declared.view.View.{View}
use Rattle.rep_ordered.specs.Seats.{Place}
use Rattle.rep_ordered.specs.Views.{giving}
use Rattle.rep_node.specs.declared.batch.Job.{Job}
use Rattle.rep_node.specs.declared.home.Home.{Home}
use Rattle.rep_node.specs.Batches.{seqno_of}
use Rattle.rep_node.specs.Jobs.{IsJob, job_from, job_to}
use Rattle.rep_node.specs.Seats.{PassedOrStopped, SeesLegal}
use Rattle.rep_node.proofs.Moves.{seat_goes}
use Rattle.rep_node.proofs.Sharing.{sees_giving}
use Rattle.rep_node.proofs.Batching.{adjoin_to, job_giving, seat_giving, settled, settled_stopped, settled_went}
use Rattle.rep_node.proofs.node.Node.submit_shared.Given.{Over}
use Rattle.rep_node.proofs.node.Node.submit_shared.Goals as goal
use Rattle.rep_node.proofs.node.Node.submit_shared.Goals.{After-split_off}

-- what is left of the seat
left : (g : Over) (c : After-split_off g) → c.split_off.new.seat.view ≡ giving (length c.args.items.now) c.args.seat.now.view
left g c = ap (λ (z : Place (Home g.row.D.Denot) Judged). z.view) (c.split_off.ensures.seat (length c.args.items.now) c.in_ok-shares.ensures.shares)

pub run-end-requires-clause-seat : goal.run-end-requires-clause-seat
run-end-requires-clause-seat g c κs within = seat_giving g.D.Disk (length c.args.items.now) c.args.seat.now.view c.split_off.new.seat.view (left g (goal.at.run-end-requires-clause-seat g c).After-split_off) c.requires.rests.1.seat

pub run-end-requires-clause-free : goal.run-end-requires-clause-free
run-end-requires-clause-free g c κs within = ap (λ (z : View (Home g.row.D.Denot) Judged). z.held) (left g (goal.at.run-end-requires-clause-free g c).After-split_off) ∙ c.requires.rests.1.free

pub run-end-requires-clause-sees : goal.run-end-requires-clause-sees
run-end-requires-clause-sees g c κs within = subst (λ z. SeesLegal z z) (sym (left g (goal.at.run-end-requires-clause-sees g c).After-split_off)) (sees_giving c.args.seat.now.view (length c.args.items.now) c.requires.rests.1.sees)

pub run-end-requires-clause-passed : goal.run-end-requires-clause-passed
run-end-requires-clause-passed g c κs within = subst PassedOrStopped (sym (left g (goal.at.run-end-requires-clause-passed g c).After-split_off)) c.requires.rests.1.passed

pub run-end-requires-clause-runs : goal.run-end-requires-clause-runs
run-end-requires-clause-runs g c κs within = ap (λ (z : View (Home g.row.D.Denot) Judged). z.halted) (left g (goal.at.run-end-requires-clause-runs g c).After-split_off) ∙ c.requires.runs

pub run-end-requires-clause-jobs : goal.run-end-requires-clause-jobs
run-end-requires-clause-jobs g c κs within = let n : ℕ = length c.args.items.now in
    adjoin_to job_from job_to (IsJob c.args.seat.now.lock c.args.seat.now.view n) (IsJob c.args.self.now c.split_off.new.seat.view n) 0 n c.split_off.new.jobs.items
    (λ (j : Job g.row.D.Denot) h. subst (λ table. IsJob table c.split_off.new.seat.view n j) c.requires.lock (job_giving c.args.seat.now.lock n n c.args.seat.now.view c.split_off.new.seat.view j (left g (goal.at.run-end-requires-clause-jobs g c).After-split_off) h))
    (c.split_off.ensures.jobs n c.in_ok-shares.ensures.shares)

pub returns-clause-seat : goal.returns-clause-seat
returns-clause-seat g c = let enough = c.requires.allowance in let is = left g (goal.at.returns-clause-seat g c).After-split_off in
    let went = settled_went c.args.items.now (length c.args.items.now) (g.P.Pace.lets c.args.pace.now) c.args.keeps c.args.seat.now.view c.split_off.new.seat.view c.run-end.new.seat.view c.run-end.new.receipts.items c.run-end.result (omega arith) is c.run-end.ensures.gathered in
    seat_goes g.D.Disk c.args.seat.now.view c.run-end.new.seat.view went.goes c.run-end.ensures.gathered.once c.requires.rests.1.seat

pub returns-clause-sees : goal.returns-clause-sees
returns-clause-sees g c = c.run-end.ensures.gathered.sees

pub returns-clause-handed_in : goal.returns-clause-handed_in
returns-clause-handed_in g c = let enough = c.requires.allowance in
    settled c.args.items.now (length c.args.items.now) (g.P.Pace.lets c.args.pace.now) c.args.keeps c.args.seat.now.view c.split_off.new.seat.view c.run-end.new.seat.view c.run-end.new.receipts.items c.run-end.result (omega arith) (left g (goal.at.returns-clause-handed_in g c).After-split_off) c.run-end.ensures.gathered
    (record { receipts = c.sort_unstable_by_key.new.self; end = c.run-end.result }) c.sort_unstable_by_key.ensures.permutation (IsNonDecreasingBy-from_sort_by_key seqno_of c.sort_unstable_by_key.new.self.items c.sort_unstable_by_key.ensures.sorted (λ a r q k. search rules)) refl

pub returns-clause-kept : goal.returns-clause-kept
returns-clause-kept g c = λ alone. c.run-end.ensures.gathered.kept alone ∙ ap (λ (z : View (Home g.row.D.Denot) Judged). z.given_up) (left g (goal.at.returns-clause-kept g c).After-split_off)

pub returns-clause-runs : goal.returns-clause-runs
returns-clause-runs g c = λ none. c.run-end.ensures.gathered.runs none ∙ (ap (λ (z : View (Home g.row.D.Denot) Judged). z.halted) (left g (goal.at.returns-clause-runs g c).After-split_off) ∙ c.requires.runs)

pub returns-clause-stopped : goal.returns-clause-stopped
returns-clause-stopped g c = let enough = c.requires.allowance in
    settled_stopped c.args.items.now (length c.args.items.now) (g.P.Pace.lets c.args.pace.now) c.args.keeps c.args.seat.now.view c.split_off.new.seat.view c.run-end.new.seat.view c.run-end.new.receipts.items c.run-end.result (omega arith) (left g (goal.at.returns-clause-stopped g c).After-split_off) c.run-end.ensures.gathered
