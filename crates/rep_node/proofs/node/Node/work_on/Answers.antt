use Rattle.rep_types.specs.declared.refusal.Refusal.{Refusal}
use Rattle.rep_types.specs.declared.refusal.Refusal.TheVariants.{LogFull}
use Rattle.std.proofs.Common.{◌≢◌}
use Rattle.rep_node.specs.Keeping.{AtDesk}
use Rattle.rep_node.proofs.Keeps.{told_err, told_ok}
use Rattle.rep_node.proofs.Desks.{desk_work, desk_worked}
use Rattle.rep_node.proofs.node.Node.work_on.Goals as goal

pub advance-requires : goal.advance-requires
advance-requires g c = let at = c.requires.at in record { work = (at.1.start, c.args.seat.now.view.seen, desk_work g.D.Disk at.0 c.args.seat.now.view c.args.desk at.1 at.2 at.1.start at.1.first) }

pub returns-then-not-gathers-clause-at : goal.returns-then-not-gathers-clause-at
returns-then-not-gathers-clause-at g c = λ v seat a. let e = c.advance.ensures in desk_worked g.D.Disk v c.args.seat.now.view c.args.desk seat a c.advance.result.0 c.advance.result.1 e.works e.given e.rises e.common e.full

pub advance-requires-in-Ok : goal.advance-requires-in-Ok
advance-requires-in-Ok g c = let at = c.requires.at in let t = c.gather-desk.new.seat.view in
    let b = told_ok (AtDesk g.D.Disk 0 at.0 t c.gather-desk.result.0) c.gather-desk.result.1 c.in-Ok.field-0 c.in-Ok.is (c.gather-desk.ensures.at at.0 at.1 at.2) in
    record { work = (at.1.start, t.seen, desk_work g.D.Disk at.0 t c.gather-desk.result.0 at.1 b at.1.start at.1.first) }

pub returns-in-Ok-clause-at : goal.returns-in-Ok-clause-at
returns-in-Ok-clause-at g c = λ v seat a. let t = c.gather-desk.new.seat.view in
    let b = told_ok (AtDesk g.D.Disk 0 v t c.gather-desk.result.0) c.gather-desk.result.1 c.in-Ok.field-0 c.in-Ok.is (c.gather-desk.ensures.at v seat a) in
    let e = c.advance-in-Ok.ensures in desk_worked g.D.Disk v t c.gather-desk.result.0 seat b c.advance-in-Ok.result.0 c.advance-in-Ok.result.1 e.works e.given e.rises e.common e.full

pub returns-in-Err-clause-at : goal.returns-in-Err-clause-at
returns-in-Err-clause-at g c = λ v seat a. record {
  works = tt;
  full = λ is. absurd (told_err (λ (r : Refusal). r ≢ LogFull) c.gather-desk.result.1 c.in-Err.refusal c.in-Err.is c.gather-desk.ensures.refused is);
  given = c.gather-desk.ensures.given v seat a;
}
