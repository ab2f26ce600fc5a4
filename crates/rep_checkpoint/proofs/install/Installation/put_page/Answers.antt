use Rattle.std.proofs.Common.{Ok, Err, refl, sym, ap, subst, ◌∙◌, ℕ}
use Rattle.rep_cells.specs.Device.{disk_of, layout_of}
use Rattle.rep_pages.specs.Slots.{state_of_page, spare_slot}
use Rattle.rep_checkpoint.specs.declared.install.Installation.TheInside.{Inside}
use Rattle.rep_checkpoint.specs.Coming.{Coming, IsComing}
use Rattle.rep_checkpoint.proofs.ComingPages.{is_within, coming_placed}
use Rattle.rep_checkpoint.proofs.ComingCalls.{comes, forgotten_agrees}
use Rattle.rep_checkpoint.proofs.install.Installation.put_page.Goals as goal

pub returns-in-Ok-clause-puts : goal.returns-in-Ok-clause-puts
returns-in-Ok-clause-puts g c =
    let position = ap (λ (k : Inside). k.next.super.position) c.self-inside.view_is ∙ ap (λ (i : Coming). i.next.super.position) c.self.view_is in
    comes c.row_places_are_told.ensures g.D.Disk (layout_of c.args.cells.now) c.args.base.now c.args.page c.args.rows c.args.self.now c.place.new.self _ (disk_of c.args.cells.now) (disk_of c.put_page.new.cells) (Ok c.in-Ok.field-0)
    c.requires.coming c.requires.due c.requires.page (ap (λ (n : ℕ). record { number = c.args.page; position = n; rows = c.args.rows }) position) c.place.ensures tt c.in-Ok.ensures.puts c.in-Ok.ensures.refused

pub returns-in-Err-clause-puts : goal.returns-in-Err-clause-puts
returns-in-Err-clause-puts g c =
    let position = ap (λ (k : Inside). k.next.super.position) c.self-inside.view_is ∙ ap (λ (i : Coming). i.next.super.position) c.self.view_is in
    comes c.row_places_are_told.ensures g.D.Disk (layout_of c.args.cells.now) c.args.base.now c.args.page c.args.rows c.args.self.now c.args.self.now _ (disk_of c.args.cells.now) (disk_of c.put_page.new.cells) (Err c.in-Err.refusal)
    c.requires.coming c.requires.due c.requires.page (ap (λ (n : ℕ). record { number = c.args.page; position = n; rows = c.args.rows }) position) tt refl c.in-Err.ensures.puts c.in-Err.ensures.refused

pub returns-in-Ok-clause-agrees : goal.returns-in-Ok-clause-agrees
returns-in-Ok-clause-agrees g c =
    let slot = spare_slot (state_of_page c.args.base.now c.args.page) in
    forgotten_agrees c.pools_go_on.ensures g.D.Disk c.args.base.now.params.rows (layout_of c.args.cells.now) (disk_of c.args.cells.now) (disk_of c.put_page.new.cells) c.args.pool.now c.wrote.new.self c.args.page slot (Ok c.in-Ok.field-0)
    c.put_page.ensures.call.was_honest c.wrote.ensures.without (c.wrote.ensures.free slot) c.in-Ok.ensures.puts.inside c.in-Ok.ensures.refused

pub returns-in-Ok-clause-coming : goal.returns-in-Ok-clause-coming
returns-in-Ok-clause-coming g c =
    let lt = is_within c.row_places_are_told.ensures c.args.base.now c.args.self.now.next c.args.page c.args.rows c.requires.coming c.requires.page in
    subst (λ (i : Coming). IsComing c.args.base.now i.next) (sym c.place.ensures) (coming_placed c.args.base.now c.args.self.now.next c.args.page lt c.requires.coming)
