use Rattle.rep_pages.proofs.Imaging.{AreImages}
use Rattle.rep_pages.proofs.page.Page.image.Given as goal

-- the rows so far are those of the image
abbrev pub invariant-loop-index : goal.invariant-loop-index
invariant-loop-index l = AreImages l.schema l.versions l.position l.self l.index l.rows.items
