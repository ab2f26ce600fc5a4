use Rattle.std.proofs.Common.{◌≤◌, ℕ, List, sym, subst, rules, IsOk, IfOk}
use Rattle.rep_cells.specs.Device.{disk_of, layout_of}
use Rattle.rep_pages.specs.Pages.{IsPageBody}
use Rattle.rep_pages.specs.Spelled.{SpellRows, page_in}
use Rattle.rep_pool.specs.BasePages.{page_read}
use Rattle.rep_pool.proofs.Pages.{Takes, reads, takes_read}
use Rattle.rep_pool.proofs.pool.read_into.Goals as goal

pub returns-clause-reads : goal.returns-clause-reads
returns-clause-reads g c =
    let ok : IsOk c.read_area.result = search rules in
    let takes : Takes c.args.base.now c.args.number c.get.result.now (page_read c.args.number c.get.result.now c.position_in.result) =
    takes_read c.args.base.now c.args.number c.get.result.now c.position_in.result
    (subst (λ (rows : List ℕ). IfOk c.position_in.result (λ position. IsPageBody rows (page_in c.args.number position c.get.result.now) c.get.result.now × SpellRows c.get.result.now × (position ≤ c.args.base.now.position))) c.schema.ensures c.position_in.ensures.found)
    (λ page is number earlier. c.position_in.ensures.only page (subst (λ (rows : List ℕ). IsPageBody rows page c.get.result.now) (sym c.schema.ensures) is) number earlier)
    in
    reads g.D.Disk (layout_of c.args.cells.now) c.args.base.now c.args.number c.args.slot c.read_area.new.room (disk_of c.args.cells.now) c.read_area.result (page_read c.args.number c.read_area.new.room c.position_in.result) c.requires.there ok c.read_area.ensures.read
    (subst (λ (bytes : List ℕ). Takes c.args.base.now c.args.number bytes (page_read c.args.number bytes c.position_in.result)) c.get.ensures takes)
