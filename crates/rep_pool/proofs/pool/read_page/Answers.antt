use Rattle.std.proofs.Common.{◌≡◌, ◌≤◌, sym, subst, rules, IsOk, IfOk}
use Rattle.rep_cells.specs.Device.{disk_of, layout_of}
use Rattle.rep_pages.specs.declared.page.Page.{Page as PageBody}
use Rattle.rep_pages.specs.Pages.{IsPageBody}
use Rattle.rep_pool.proofs.Pages.{reads}
use Rattle.rep_pool.proofs.pool.read_page.Goals as goal

pub returns-clause-reads : goal.returns-clause-reads
returns-clause-reads g c =
    let ok : IsOk c.read_area.result = search rules in
    reads g.D.Disk (layout_of c.args.cells.now) c.args.base.now c.args.number c.args.slot c.read_area.new.room (disk_of c.args.cells.now) c.read_area.result c.read_body.result c.requires.there ok c.read_area.ensures.read
    (record {
      found = subst (λ rows. IfOk c.read_body.result (λ (page : PageBody). IsPageBody rows page c.read_area.new.room × (page.number ≡ c.args.number) × (page.position ≤ c.args.base.now.position))) c.schema.ensures c.read_body.ensures.found;
      only = λ page is number earlier. c.read_body.ensures.only page (subst (λ rows. IsPageBody rows page c.read_area.new.room) (sym c.schema.ensures) is) number earlier;
    })
