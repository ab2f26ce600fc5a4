use Rattle.std.proofs.lemmas.Result.{err_from_is_err_and}
use Rattle.rep_script.specs.CatchingUp.{donated_line}
use Rattle.rep_script.proofs.Answering.{nothing_told}
use Rattle.rep_script.proofs.catchup.donated_text.Goals as goal

-- ---- where it is refused

pub returns-in_err-last-clause-told : goal.returns-in_err-last-clause-told
returns-in_err-last-clause-told g c =
    let p = err_from_is_err_and c.from_residual.result c.from_residual.ensures.1 in
    rw p.1 (0, nothing_told (donated_line 0) (g.W.Sink.contents c.args.writer.now) p.0)
