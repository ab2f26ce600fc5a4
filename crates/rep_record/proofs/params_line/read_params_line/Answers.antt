use Rattle.std.proofs.Common.{◌∙◌}
use Rattle.rep_record.specs.Reading.{params_form}
use Rattle.rep_record.proofs.Outcomes.{params_come, params_kept, params_own}
use Rattle.rep_record.proofs.params_line.read_params_line.Goals as goal

pub returns : goal.returns
returns c =
    let exact = rw c.read_draft.ensures at c.params_of.ensures ∙ params_kept c.args.number (params_form c.args.line.now) in
    let h = params_come c.args.number c.args.line.now c.params_of.result exact in
    record { found = h.found; formed = h.formed; unformed = h.unformed; exact = exact; own = params_own c.args.number (params_form c.args.line.now) c.params_of.result exact }
