use Rattle.std.proofs.Common.{rules, ◌≡◌, ◌+◌, ◌^◌, ◌≤◌, [], ◌∷◌, ◌++◌, Some, arith, sym, refl, ap, ◌∙◌, subst}
use Rattle.std.specs.Prelude.{IsErr}
use Rattle.rep_types.specs.declared.judged.Judged.{Judged}
use Rattle.rep_stations.specs.Judging.{HasJudged}
use Rattle.rep_ordered.specs.declared.view.View.{View}
use Rattle.rep_ordered.specs.Seats.{Place}
use Rattle.rep_ordered.specs.Views.{turn_of, without}
use Rattle.rep_node.specs.Seats.{own_entry}
use Rattle.rep_ordered.specs.GoingLaws.{later_same, went_through}
use Rattle.rep_node.specs.declared.home.Home.{Home}
use Rattle.rep_node.specs.Homes.{Start, AtHome, CertifierAt, IsLegal, IsLegalBehind, common_in, durable_in, values_of}
use Rattle.rep_node.proofs.Standing.{all_judged, at_first, certifier_found, next_certifier, of_the_start}
use Rattle.rep_node.proofs.node.Node.certify.Goals as goal
use Rattle.rep_node.proofs.node.Node.certify.Given.{Over}
use Rattle.rep_node.proofs.node.Node.certify.Goals.{After-certifier_of-certifier}

pub certifier_of-certifier-requires : goal.certifier_of-certifier-requires
certifier_of-certifier-requires g c = certifier_found g.D.Disk c.args.seat.now.view.first c.args.ticket 0 c.enter.new.seat.view.durable c.enter.new.seat.view.seen c.in_ok-home.home c.in_ok-home.ensures.entered.keeps

-- inside, the certifier has judged the whole history
judged : (g : Over) (c : After-certifier_of-certifier g) → HasJudged c.requires.seat.start.certifier.current c.enter.new.seat.view.seen c.certifier_of-certifier.result.current
judged g c = let e = c.in_ok-home.ensures.entered in let w : View (Home g.row.D.Denot) Judged = c.enter.new.seat.view in let s = c.requires.seat.start in let place = e.place refl in let number = c.requires.seat.number in
    all_judged s c.args.ticket w.seen w.durable c.certifier_of-certifier.result.current
    (at_first g.D.Disk c.args.seat.now.view.first c.args.ticket 0 w.durable w.seen c.in_ok-home.home c.certifier_of-certifier.result e.keeps c.certifier_of-certifier.ensures s c.requires.seat.first) (omega arith)

pub unreachable-requires : goal.unreachable-requires
unreachable-requires g c = let j = (judged g (goal.at.unreachable-requires g c).After-certifier_of-certifier).delivered in let place = c.in_ok-home.ensures.entered.place refl in let number = c.requires.seat.number in let limit = c.requires.ticket.1 in let failed : IsErr c.judge_next.result = search rules in let most : 2 ^ 60 ≤ c.certifier_of-certifier.result.current.delivered = c.judge_next.ensures.exhausted.0 failed in omega arith

pub leave-requires-clause-legal : goal.leave-requires-clause-legal
leave-requires-clause-legal g c = λ _. let e = c.in_ok-home.ensures.entered in let w : View (Home g.row.D.Denot) Judged = c.enter.new.seat.view in let s = c.requires.seat.start in let is : w.first ≡ values_of s = ap (λ (z : View (Home g.row.D.Denot) Judged). z.first) e.view ∙ c.requires.seat.first in let before = e.sees.legal s c.requires.seat.first in
    of_the_start (λ (t : Start g.row.D.Denot). IsLegalBehind t.certifier.current (w.seen ++ c.in-Ok.judged ∷ [])) w.first s is
    record { legal = c.in-Ok.ensures.legal s.certifier.current w.seen (judged g (goal.at.leave-requires-clause-legal g c).After-certifier_of-certifier) before.legal; placed = c.histories_go_on.ensures.placed_more w.seen c.in-Ok.judged before.placed c.in-Ok.ensures.placed }

pub leave-requires-clause-value : goal.leave-requires-clause-value
leave-requires-clause-value g c = let e = c.in_ok-home.ensures.entered in let w : View (Home g.row.D.Denot) Judged = c.enter.new.seat.view in let s = c.requires.seat.start in let is : w.first ≡ values_of s = ap (λ (z : View (Home g.row.D.Denot) Judged). z.first) e.view ∙ c.requires.seat.first in
    let place = e.place refl in let number = c.requires.seat.number in let room = c.requires.room in let rises = e.durable in (
      refl,
      of_the_start (λ (t : Start g.row.D.Denot). CertifierAt t (turn_of 0 w + 1) (w.seen ++ c.in-Ok.judged ∷ []) w.durable c.judge_next.new.certifier.current) w.first s is
          (subst (λ n. CertifierAt s (n + 1) (w.seen ++ c.in-Ok.judged ∷ []) w.durable c.judge_next.new.certifier.current) (sym e.now)
          (next_certifier s c.args.ticket w.seen w.durable c.judge_next.new.certifier.current c.in-Ok.judged (omega arith) (omega arith) (c.in-Ok.ensures.goes_on s.certifier.current w.seen (judged g (goal.at.leave-requires-clause-value g c).After-certifier_of-certifier)))),
    )

pub returns-clause-went : goal.returns-clause-went
returns-clause-went g c = let v : View (Home g.row.D.Denot) Judged = c.args.seat.now.view in let w : View (Home g.row.D.Denot) Judged = c.enter.new.seat.view in let u : View (Home g.row.D.Denot) Judged = c.leave.new.seat.view in
    let left : u ≡ without (Some c.in-Ok.judged) 0 (turn_of 0 w + 1) 0 0 w = ap (λ (z : Place (Home g.row.D.Denot) Judged). z.view) c.leave.ensures.seat in
    went_through (IsLegal v.first) (AtHome g.D.Disk v.first) durable_in common_in 0 c.args.ticket 1 (turn_of 0 w + 1) 0 0 (Some c.in-Ok.judged) v w w u c.in_ok-home.home c.requires.free c.in_ok-home.ensures.entered (later_same w) left

pub returns-clause-joined : goal.returns-clause-joined
returns-clause-joined g c = let e = c.in_ok-home.ensures.entered in let v : View (Home g.row.D.Denot) Judged = c.args.seat.now.view in let w : View (Home g.row.D.Denot) Judged = c.enter.new.seat.view in let u : View (Home g.row.D.Denot) Judged = c.leave.new.seat.view in
    let left : u ≡ without (Some c.in-Ok.judged) 0 (turn_of 0 w + 1) 0 0 w = ap (λ (z : Place (Home g.row.D.Denot) Judged). z.view) c.leave.ensures.seat in
    let same : c.unwrap.result ≡ c.in-Ok.judged = search rules in let is = c.in-Ok.ensures.judged in
    let place = e.place refl in let number = c.requires.seat.number in let j = (judged g (goal.at.returns-clause-joined g c).After-certifier_of-certifier).delivered in let turn = e.now in
    let seqno : c.in-Ok.judged.seqno ≡ c.args.ticket = ap (λ (z : Judged). z.seqno) is ∙ (let here : c.certifier_of-certifier.result.current.delivered + 1 ≡ c.args.ticket = omega arith in here) in (
      ap (λ (z : Judged). z.item) (same ∙ is),
      ap (λ (z : Judged). z.seqno) same ∙ seqno,
      ap (λ (z : View (Home g.row.D.Denot) Judged). z.joined) left ∙ (λ i. record { number = (e.now ∙ sym seqno) i; entry = c.in-Ok.judged } ∷ ap (λ (z : View (Home g.row.D.Denot) Judged). z.joined) e.view i) ∙ ap (λ (z : Judged). own_entry z ∷ v.joined) (sym same),
    )
