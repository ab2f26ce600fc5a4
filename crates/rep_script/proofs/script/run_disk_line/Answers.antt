use Rattle.std.proofs.Common.{Err, sym, ap, subst, ◌∙◌, rules}
use Rattle.std.proofs.lemmas.Result.{err_from_is_err_and}
use Rattle.rep_script.specs.ScriptLines.{script_line}
use Rattle.rep_script.specs.Judging.{content}
use Rattle.rep_script.specs.Scripts.{RunsLine, RunsDiskLine}
use Rattle.rep_script.proofs.Scripting.{content_on_disk, fails_on_disk}
use Rattle.rep_script.proofs.script.run_disk_line.Goals as goal

pub returns-in_err-run_line-clause-runs : goal.returns-in_err-run_line-clause-runs
returns-in_err-run_line-clause-runs g c =
    let said = content script_line c.args.number c.args.line.now in
    let runs : RunsLine g.D.Disk c.args.replica.now said (Err c.in_err-run_line.field-0.0) c.run_line.new.replica =
    rw c.in_err-run_line.was at c.run_line.ensures.runs in
    let q = err_from_is_err_and c.from_residual.result c.from_residual.ensures.1 in
    subst (λ line. RunsDiskLine g.D.Disk c.args.replica.now line c.from_residual.result c.run_line.new.replica)
    (sym (content_on_disk c.args.number c.args.line.now))
    (fails_on_disk g.D.Disk c.args.replica.now c.run_line.new.replica c.args.number said c.from_residual.result c.in_err-run_line.field-0.0
    (q.1 ∙ ap Err q.2) runs)

pub returns-in-Some-clause-runs : goal.returns-in-Some-clause-runs
returns-in-Some-clause-runs g c = search rules
