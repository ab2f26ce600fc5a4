use Rattle.std.proofs.Common.{◌≡◌, ◌⊎◌, inr, Result, IfErr, sym, subst, rules}
use Rattle.std.proofs.lemmas.Result.{err_from_is_err_and}
use Rattle.rep_types.specs.declared.refusal.Refusal.{Refusal}
use Rattle.rep_types.specs.declared.refusal.Refusal.TheVariants.{OutOfMemory, Corrupt}
use Rattle.rep_types.specs.declared.refusal.Part.TheVariants.{Window as in_window}
use Rattle.rep_layout.specs.declared.super_body.SuperBody.{SuperBody}
use Rattle.rep_recover.specs.Looking.{IsNoWindow}
use Rattle.rep_recover.proofs.windows.window_in.Goals as goal

pub returns-in_err-reader-clause-refused : goal.returns-in_err-reader-clause-refused
returns-in_err-reader-clause-refused c =
    let b : SuperBody = c.args.superblock.now in
    let e = c.in_err-reader.ensures in
    let P : Refusal → Type 0 = λ x. (x ≡ OutOfMemory) ⊎ ((x ≡ Corrupt in_window) × IsNoWindow b c.args.bytes.now) in
    let refuses : P c.in_err-reader.field-0.0 = inr (e.refused, λ v is spelled. (let other = e.only v is spelled in absurd cc)) in
    let err = err_from_is_err_and c.from_residual.result c.from_residual.ensures.1 in
    subst (λ (r : Result _ Refusal). IfErr r P) (sym err.1) (subst P (sym err.2) refuses)

pub returns-clause-form : goal.returns-clause-form
returns-clause-form c = search rules
