use Rattle.std.proofs.Common.{sym, ◌∙◌}
use Rattle.std.proofs.lemmas.Option.{same_Some}
use Rattle.rep_pages.proofs.Imaging.{image_more}
use Rattle.rep_pages.proofs.page.Page.image.Goals as goal
use Rattle.rep_pages.proofs.page.Page.image.Goals.{in-Some, in-None}

pub loop-index-preserved : goal.loop-index-preserved
loop-index-preserved c = rw c.push.ensures.items (image_more c.args.schema.now c.args.versions.now c.args.position c.args.self.now c.loop-index.index c.loop-index.rows.items c.match-row_at.row
    (λ key row there. elim c.match-row_at.branch [
      | in-Some w ↦ rw (w.row-is, ← same_Some _ _ (sym w.in-Some.is ∙ c.row_at.ensures.only key row there)) w.row_after-row.ensures
      | in-None w ↦ let found = sym w.in-None.is ∙ c.row_at.ensures.only key row there in absurd cc
    ])
    (λ none. elim c.match-row_at.branch [
      | in-Some w ↦ let found = w.in-Some.ensures.found in absurd (none w.in-Some.key found.0 found.1)
      | in-None w ↦ w.row-is
    ])
    c.loop-index.invariant)
