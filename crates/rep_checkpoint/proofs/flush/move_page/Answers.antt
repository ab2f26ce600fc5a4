use Rattle.std.proofs.Common.{◌≡◌, ap, subst, ◌∙◌, List, ℕ, Result, IfOk, rules}
use Rattle.rep_layout.specs.declared.place.Layout.{Layout}
use Rattle.rep_layout.specs.declared.place.Place.TheVariants.{Page}
use Rattle.rep_cells.specs.Device.{disk_of, layout_of}
use Rattle.rep_pages.specs.declared.page.Page.{Page as PageBody}
use Rattle.rep_pages.specs.Images.{IsImage}
use Rattle.rep_pages.specs.Slots.{state_of_page, spare_slot}
use Rattle.rep_log.specs.Moves.{fault_of}
use Rattle.rep_checkpoint.specs.Pages.{PutsPage}
use Rattle.rep_checkpoint.proofs.Reading.{not_read, moved, image_is_page, written_agrees}
use Rattle.rep_checkpoint.proofs.flush.move_page.Goals as goal
use Rattle.rep_checkpoint.proofs.flush.move_page.Goals.{After-image-page}

pub returns-in-Err-clause-moves : goal.returns-in-Err-clause-moves
returns-in-Err-clause-moves g c = λ pooled.
    not_read c.images_read_as_allowed.ensures c.stable_bases_are_read.ensures g.D.Disk (layout_of c.args.cells.now) c.args.base.now c.args.versions.now c.args.position c.args.number (disk_of c.args.cells.now) (disk_of c.take_page.new.cells) c.args.pool.now c.take_page.result c.in-Err.refusal
    c.requires.super_body c.requires.layout pooled c.take_page.ensures.same c.take_page.ensures.page c.in-Err.is

pub returns-in-Err-clause-agrees : goal.returns-in-Err-clause-agrees
returns-in-Err-clause-agrees g c = λ no. c.take_page.ensures.agrees

number_is : (g : _) (c : After-image-page g) → c.in-Ok.page.number ≡ c.args.number
number_is g c = subst (λ (r : Result PageBody _). IfOk r (λ page. page.number ≡ c.args.number)) c.in-Ok.is c.take_page.ensures.number

image_is : (g : _) (c : After-image-page g) → IsImage c.args.base.now.params.rows c.args.versions.now c.args.position c.in-Ok.page c.image-page.result
image_is g c = subst (λ (rows : List ℕ). IsImage rows c.args.versions.now c.args.position c.in-Ok.page c.image-page.result) c.schema.ensures c.image-page.ensures

pub put_page-requires-clause-page : goal.put_page-requires-clause-page
put_page-requires-clause-page g c = (
  c.requires.page.0,
  image_is_page c.args.base.now.params.rows c.args.versions.now c.args.position c.args.number c.in-Ok.page c.image-page.result c.requires.page.0 (number_is g (goal.at.put_page-requires-clause-page g c).After-image-page) (image_is g (goal.at.put_page-requires-clause-page g c).After-image-page) c.requires.page.1,
)

pub returns-clause-moves : goal.returns-clause-moves
returns-clause-moves g c = λ pooled.
    moved c.stable_bases_are_read.ensures g.D.Disk (layout_of c.args.cells.now) c.args.base.now c.args.versions.now c.args.position c.args.number (disk_of c.args.cells.now) (disk_of c.take_page.new.cells) (disk_of c.put_page.new.cells) c.args.pool.now c.take_page.result c.in-Ok.page c.image-page.result c.put_page.result
    c.requires.super_body c.requires.layout pooled c.take_page.ensures.call.stays_honest c.take_page.ensures.same (number_is g (goal.at.returns-clause-moves g c).After-image-page) c.take_page.ensures.page c.in-Ok.is (image_is g (goal.at.returns-clause-moves g c).After-image-page)
    (subst (λ (k : Layout). PutsPage g.D.Disk k c.args.base.now c.image-page.result (spare_slot (state_of_page c.args.base.now c.image-page.result.number)) (disk_of c.take_page.new.cells) (disk_of c.put_page.new.cells) (fault_of c.put_page.result)) c.take_page.ensures.layout c.put_page.ensures.puts)
    c.put_page.ensures.refused

pub returns-clause-agrees : goal.returns-clause-agrees
returns-clause-agrees g c =
    let slot = spare_slot (state_of_page c.args.base.now c.image-page.result.number) in
    let puts = subst (λ (k : Layout). PutsPage g.D.Disk k c.args.base.now c.image-page.result slot (disk_of c.take_page.new.cells) (disk_of c.put_page.new.cells) (fault_of c.put_page.result)) c.take_page.ensures.layout c.put_page.ensures.puts in
    written_agrees c.pools_go_on.ensures g.D.Disk c.args.base.now.params.rows (layout_of c.args.cells.now) (disk_of c.args.cells.now) (disk_of c.take_page.new.cells) (disk_of c.put_page.new.cells) c.args.pool.now c.take_page.new.self c.args.number
    (Page c.image-page.result.number slot) slot c.put_page.result c.put_page.ensures.call.was_honest c.take_page.ensures.agrees (c.take_page.ensures.free slot) (ap (λ (n : ℕ). Page n slot) ((image_is g (goal.at.returns-clause-agrees g c).After-image-page).number ∙ number_is g (goal.at.returns-clause-agrees g c).After-image-page)) puts.inside c.put_page.ensures.refused

pub returns-clause-call : goal.returns-clause-call
returns-clause-call g c = search rules
