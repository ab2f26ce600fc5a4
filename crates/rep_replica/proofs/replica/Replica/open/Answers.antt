use Rattle.std.proofs.Common.{false, List, Err, sym, ap, subst, ◌∙◌}
use Rattle.std.proofs.lemmas.Result.{err_from_is_err_and}
use Rattle.rep_types.specs.declared.judged.Judged.{Judged}
use Rattle.rep_replica.specs.Opening.{Opens}
use Rattle.rep_replica.proofs.Opening.{opened_replica}
use Rattle.rep_replica.proofs.replica.Replica.open.Goals as goal

pub returns-in-Ok-clause-opens : goal.returns-in-Ok-clause-opens
returns-in-Ok-clause-opens g c honest =
    let engine = c.in_ok-engine.engine in
    let at = opened_replica g.D.Disk (g.D.Disk.size c.args.disk) (g.D.Disk.history c.args.disk) engine c.in_ok-engine.certifier c.in_ok-engine.ensures.opened (c.in_ok-engine.ensures.recovers honest) in
    subst (λ (js : List Judged). Opens g.D.Disk (g.D.Disk.history c.args.disk) (record { engine = engine; backlog = js; certifier = c.in_ok-engine.certifier; stopped = false })) (sym c.in-Ok.ensures.empty) at

pub returns-in_err-engine : goal.returns-in_err-engine
returns-in_err-engine g c =
    let passed = err_from_is_err_and c.from_residual.result c.from_residual.ensures.1 in
    rw (passed.1 ∙ ap Err passed.2) (record {
      call = c.in_err-engine.ensures.call;
      small = λ less. cc (c.in_err-engine.ensures.small less);
      unwritten = c.in_err-engine.ensures.unwritten;
      begins = tt;
      opens = λ honest. tt;
      refused = c.in_err-engine.ensures.refused;
    })
