use Rattle.std.proofs.Common.{◌++◌, List, append_assoc, sym, ap, ◌∙◌}
use Rattle.rep_types.specs.Entries.{Entry}
use Rattle.rep_types.specs.Order.{recent}
use Rattle.rep_cert.specs.Holdings.{upto}
use Rattle.rep_cert.proofs.Kept.{recent_upto-append}
use Rattle.rep_cert.proofs.ring.entries_between.Goals as goal

pub returns-clause-between : goal.returns-clause-between
returns-clause-between c =
    let cut : List Entry → List Entry = λ es. recent c.args.floor (upto c.args.position es) in
    let given = c.args.given.now in
    let older = c.as_slices.result.0.now in
    let newer = c.as_slices.result.1.now in
    let both = recent_upto-append c.args.floor c.args.position in
    let first = c.in_ok-push_window.ensures.window ∙ ap (λ (es : List Entry). es ++ cut given) c.new-copies.ensures.items in
    let second = c.in_ok-push_window-2.ensures.window ∙ (ap (λ (es : List Entry). es ++ cut older) first ∙ sym (both given older)) in
    c.in_ok-push_window-3.ensures.window
    ∙ (ap (λ (es : List Entry). es ++ cut newer) second
    ∙ (sym (both (given ++ older) newer) ∙ ap cut (append_assoc given older newer ∙ ap (λ (es : List Entry). given ++ es) c.as_slices.ensures)))
