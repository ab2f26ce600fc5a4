use Rattle.std.proofs.Common.{refl, ap, length, ◌∙◌}
use Rattle.rep_pages.proofs.Bodies.{body_size}
use Rattle.rep_pages.proofs.page.Page.write_body.Goals as goal

pub returns-clause-size : goal.returns-clause-size
returns-clause-size c =
    let rows = c.put-2.ensures.put in
    ap length (rw (rows.bytes, c.put.ensures.put.bytes, c.new-out.ensures) refl) ∙ body_size c.in_ok-first.first c.args.self.now rows.fits.size rows.fits.each
