use Rattle.std.proofs.Common.{◌-◌, length, take, get_or, sym, ap, ◌∙◌, eq-eqb, ne_eqb}
use Rattle.rep_script.specs.SavedTexts.{ended_lines}
use Rattle.rep_saved.proofs.Trimmed.{by_last}
use Rattle.rep_script.proofs.SavedTexts.{other_at_end, feed_at_end}
use Rattle.rep_script.proofs.saved_file.ended_lines.Goals as goal

pub returns-then-byte-eq10 : goal.returns-then-byte-eq10
returns-then-byte-eq10 c =
    let whole = by_last c.loop-lines.lines.now c.in-len1-up.len_at_least in
    sym (c.loop-lines.invariant ∙ ap ended_lines whole ∙ feed_at_end (take (length c.loop-lines.lines.now - 1) c.loop-lines.lines.now) (get_or c.loop-lines.lines.now (length c.loop-lines.lines.now - 1) 0) (eq-eqb _ 10 c.if-byte-eq10.true) ∙ sym whole)

pub loop-lines-preserved : goal.loop-lines-preserved
loop-lines-preserved c =
    let whole = by_last c.loop-lines.lines.now c.in-len1-up.len_at_least in
    c.loop-lines.invariant ∙ ap ended_lines whole ∙ other_at_end (take (length c.loop-lines.lines.now - 1) c.loop-lines.lines.now) (get_or c.loop-lines.lines.now (length c.loop-lines.lines.now - 1) 0) (ne_eqb _ 10 c.if-byte-eq10.false)
