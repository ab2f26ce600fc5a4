use Rattle.std.proofs.Common.{◌≡◌, ◌∙◌, refl, sym, subst}
use Rattle.rep_disk.specs.History.{History, seen}
use Rattle.rep_layout.specs.declared.place.Layout.{Layout}
use Rattle.rep_layout.specs.declared.place.Slot.{Slot}
use Rattle.rep_layout.specs.declared.place.Place.TheVariants.{Page}
use Rattle.rep_layout.specs.declared.page_state.PageState.TheVariants.{In}
use Rattle.rep_cells.specs.Device.{disk_of, layout_of}
use Rattle.rep_cells.specs.Readings.{IsPlace, reading_of}
use Rattle.rep_pages.specs.declared.page.Page.{Page as PageBody}
use Rattle.rep_pages.specs.Slots.{state_of_page}
use Rattle.rep_pages.specs.Spelled.{page_in}
use Rattle.rep_pool.specs.Pools.{Pooled, IsKept, Agrees}
use Rattle.rep_pool.specs.BasePages.{kept_in}
use Rattle.rep_pool.proofs.Each.{kept_each}
use Rattle.rep_pool.proofs.Given.{row_kept, not_kept, given_row, given_agrees, refused_kept}
use Rattle.rep_pool.proofs.GoingOn.{kept_agrees}
use Rattle.rep_pool.proofs.Pages.{same_slot, absent_row, is_page, spelled_at}
use Rattle.rep_pool.proofs.pool.Pool.row.Goals as goal
use Rattle.rep_pool.proofs.pool.Pool.row.Goals.{After-keep}

pub returns-in_default-clause-row : goal.returns-in_default-clause-row
returns-in_default-clause-row g c = λ honest agrees. absent_row _ c.args.base.now c.args.place.page c.args.place.index (λ slot is. c.in_default.not-In slot (c.slot_of.ensures ∙ is))

-- ---- the page is kept

pub returns-in-Some-clause-row : goal.returns-in-Some-clause-row
returns-in-Some-clause-row g c = λ honest agrees.
    let was = row_kept c.args.place.page c.args.place.index c.args.base.now.position c.in-In.slot c.args.self.now c.row_of.new.self c.row_of.result c.row_of.ensures.found c.row_of.ensures.none c.in-Some.row c.in-Some.is in
    given_row c.pages_are_told.ensures (layout_of c.args.cells.now) (g.D.Disk.history (disk_of c.args.cells.now)) c.args.base.now c.args.place.page c.args.place.index c.in-In.slot c.args.self.now was.0 c.in-Some.row (sym c.slot_of.ensures ∙ c.in-In.is) was.1 was.2 agrees

pub returns-in-Some-clause-agrees : goal.returns-in-Some-clause-agrees
returns-in-Some-clause-agrees g c = λ pooled honest.
    let was = row_kept c.args.place.page c.args.place.index c.args.base.now.position c.in-In.slot c.args.self.now c.row_of.new.self c.row_of.result c.row_of.ensures.found c.row_of.ensures.none c.in-Some.row c.in-Some.is in
    given_agrees c.args.base.now.params.rows (layout_of c.args.cells.now) (g.D.Disk.history (disk_of c.args.cells.now)) c.args.place.page c.args.self.now c.row_of.new.self c.in-Some.row was.3 was.4 (pooled honest)

pub returns-in-Some-clause-refused : goal.returns-in-Some-clause-refused
returns-in-Some-clause-refused g c =
    let was = row_kept c.args.place.page c.args.place.index c.args.base.now.position c.in-In.slot c.args.self.now c.row_of.new.self c.row_of.result c.row_of.ensures.found c.row_of.ensures.none c.in-Some.row c.in-Some.is in
    refused_kept c.args.base.now.position c.args.place.index was.0 c.in-Some.row was.2

-- ---- it was read

-- the pool was as it is said
before : (g : _) (c : After-keep g) → c.self.inside.pages.entries ≡ c.args.self.now
before g c =
    c.self.view_is ∙ (not_kept c.args.place.page c.args.place.index c.args.base.now.position c.in-In.slot c.args.self.now c.row_of.new.self c.row_of.result c.row_of.ensures.found c.row_of.ensures.none c.in_default-row_of.not-Some).1

pub invariant_of-self-2 : goal.invariant_of-self-2
invariant_of-self-2 g c =
    (c.keep.ensures.cap, kept_each (λ number slot page. page.number ≡ number) c.args.place.page (kept_in c.args.place.page c.in-In.slot c.in_ok-position.position c.read_into.new.room) c.self.inside.pages.entries c.keep.new.pages.entries c.keep.ensures.kept refl c.self.invariant.1)

pub returns-clause-read : goal.returns-clause-read
returns-clause-read g c = λ slot there none.
    let same = same_slot c.args.base.now c.args.place.page c.in-In.slot slot (sym c.slot_of.ensures ∙ c.in-In.is) there in
    let page : PageBody = page_in c.args.place.page c.in_ok-position.position c.read_into.new.room in (
      page,
      subst (λ (s : Slot). IsKept c.args.place.page (record { slot = s; page = page }) c.args.self.now c.keep.new.pages.entries) same
          (subst (λ (pages : Pooled). IsKept c.args.place.page (record { slot = c.in-In.slot; page = page }) pages c.keep.new.pages.entries) (before g c) c.keep.ensures.kept),
    )

pub returns-clause-agrees : goal.returns-clause-agrees
returns-clause-agrees g c = λ pooled honest.
    let l : Layout = layout_of c.args.cells.now in
    let h : History = g.D.Disk.history (disk_of c.args.cells.now) in
    let number = c.args.place.page in
    let slot = c.in-In.slot in
    let there : state_of_page c.args.base.now number ≡ In slot = sym c.slot_of.ensures ∙ c.in-In.is in
    let was = c.read_into.ensures.call.was_honest honest in
    let agrees = pooled was in
    let page : PageBody = page_in number c.in_ok-position.position c.read_into.new.room in
    let has = (c.in_ok-position.ensures.reads was agrees.unfailed).page in
    let place : IsPlace l (Page number slot) = subst (λ (k : Layout). IsPlace k (Page number slot)) (sym c.requires.layout) (is_page c.args.base.now c.requires.super_body number slot there) in
    subst (λ (past : History). Agrees c.args.base.now.params.rows l past c.keep.new.pages.entries) (sym (c.read_into.ensures.same was))
    (kept_agrees c.args.base.now.params.rows l h number (record { slot = slot; page = page }) c.self.inside.pages.entries c.keep.new.pages.entries c.keep.ensures.kept (place, spelled_at (reading_of l (seen h)) c.args.base.now number slot page has there)
    (subst (λ (pages : Pooled). Agrees c.args.base.now.params.rows l h pages) (sym (before g c)) agrees))
