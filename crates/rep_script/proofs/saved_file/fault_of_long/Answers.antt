use Rattle.std.proofs.Common.{◌≡◌, Err, ◌≤◌, length, ap, ◌∙◌, sym, arith}
use Rattle.rep_script.proofs.SavedTexts.{one_place, none_is_answered}
use Rattle.rep_script.proofs.saved_file.fault_of_long.Goals as goal

pub returns-in_default : goal.returns-in_default
returns-in_default c =
    none_is_answered c.args.lines.now
    (λ x less same.
    let place : x ≡ c.in-Err-Malformed.at = one_place x c.in-Err-Malformed.at c.parse.result (same ∙ sym c.parse.ensures.value) (c.in-Err-Malformed.is ∙ ap Err c.in-Err-Malformed.field-0-is) in
    let behind : length c.args.lines.now ≤ c.in-Err-Malformed.at = c.if-at-lines.false in
    absurd (omega (arith, place, behind, less)))
