use Rattle.std.proofs.Common.{◌-◌, length, take, get_or, sym, ap, ◌∙◌}
use Rattle.rep_saved.specs.Lines.{up_to_last}
use Rattle.rep_saved.proofs.Trimmed.{by_last, blank_last, other_last}
use Rattle.rep_saved.proofs.line.up_to_last.Goals as goal

pub returns-then-not-is_blank : goal.returns-then-not-is_blank
returns-then-not-is_blank c =
    let whole = by_last c.loop-rest.rest.now c.in-len1-up.len_at_least in
    sym (c.loop-rest.invariant ∙ ap up_to_last whole ∙ other_last (take (length c.loop-rest.rest.now - 1) c.loop-rest.rest.now) (get_or c.loop-rest.rest.now (length c.loop-rest.rest.now - 1) 0) (sym c.is_blank.ensures ∙ c.if-not-is_blank.true) ∙ sym whole)

pub loop-rest-preserved : goal.loop-rest-preserved
loop-rest-preserved c =
    let whole = by_last c.loop-rest.rest.now c.in-len1-up.len_at_least in
    c.loop-rest.invariant ∙ ap up_to_last whole ∙ blank_last (take (length c.loop-rest.rest.now - 1) c.loop-rest.rest.now) (get_or c.loop-rest.rest.now (length c.loop-rest.rest.now - 1) 0) (sym c.is_blank.ensures ∙ c.if-not-is_blank.false)
