use Rattle.std.proofs.Common.{◌≡◌, ◌∙◌, sym, subst}
use Rattle.rep_disk.specs.History.{History}
use Rattle.rep_layout.specs.declared.place.Slot.{Slot}
use Rattle.rep_layout.specs.declared.place.Place.TheVariants.{Page}
use Rattle.rep_cells.specs.Device.{disk_of, layout_of}
use Rattle.rep_pool.specs.Pools.{Agrees, IsFree}
use Rattle.rep_pool.proofs.Each.{found_is, free_then}
use Rattle.rep_pool.proofs.Given.{found_spelled}
use Rattle.rep_pool.proofs.GoingOn.{without_agrees}
use Rattle.rep_pool.proofs.Pages.{absent_as, kept_page, later_page}
use Rattle.rep_pool.proofs.pool.Pool.take_page.Goals as goal
use Rattle.rep_pool.proofs.pool.Pool.take_page.Goals.{After-take}

pub returns-in_default-clause-page : goal.returns-in_default-clause-page
returns-in_default-clause-page g c = λ honest agrees. absent_as _ c.args.base.now c.args.number c.absent.result c.absent.ensures.number c.absent.ensures.rows (λ slot is. c.in_default.not-In slot (c.slot_of.ensures ∙ is))

pub returns-in_default-clause-agrees : goal.returns-in_default-clause-agrees
returns-in_default-clause-agrees g c = λ pooled honest.
    subst (Agrees c.args.base.now.params.rows (layout_of c.args.cells.now) (g.D.Disk.history (disk_of c.args.cells.now))) (sym c.wrote.ensures.without)
    (without_agrees c.args.base.now.params.rows (layout_of c.args.cells.now) (g.D.Disk.history (disk_of c.args.cells.now)) c.args.number c.args.self.now (pooled honest))

-- ---- what the pool keeps once the page is taken

free : (g : _) (c : After-take g) → (slot : Slot) → IsFree (Page c.args.number slot) c.take.new.self
free g c slot = subst (IsFree (Page c.args.number slot)) (sym c.take.ensures.without) (free_then c.args.number slot c.args.self.now c.take.ensures.once)

agrees_still : (g : _) (c : After-take g) → Agrees c.args.base.now.params.rows (layout_of c.args.cells.now) (g.D.Disk.history (disk_of c.args.cells.now)) c.args.self.now
    → Agrees c.args.base.now.params.rows (layout_of c.args.cells.now) (g.D.Disk.history (disk_of c.args.cells.now)) c.take.new.self
agrees_still g c agrees =
    subst (Agrees c.args.base.now.params.rows (layout_of c.args.cells.now) (g.D.Disk.history (disk_of c.args.cells.now))) (sym c.take.ensures.without)
    (without_agrees c.args.base.now.params.rows (layout_of c.args.cells.now) (g.D.Disk.history (disk_of c.args.cells.now)) c.args.number c.args.self.now agrees)

-- ---- the page is kept

pub returns-in-Err-clause-free : goal.returns-in-Err-clause-free
returns-in-Err-clause-free g c = free g (goal.at.returns-in-Err-clause-free g c).After-take

pub returns-in-Err-clause-page : goal.returns-in-Err-clause-page
returns-in-Err-clause-page g c = λ honest agrees.
    let at = sym c.take.ensures.taken ∙ c.in-Some.is in
    let is = found_spelled c.args.base.now.params.rows (layout_of c.args.cells.now) (g.D.Disk.history (disk_of c.args.cells.now)) c.args.number c.in-In.slot c.args.self.now c.in-Some.page at agrees in
    later_page c.pages_are_told.ensures _ c.args.base.now c.args.number c.in-In.slot c.in-Some.page c.in-Err.refusal is (sym c.slot_of.ensures ∙ c.in-In.is) (λ le. let never = sym c.in-Err.is ∙ c.is_earlier.ensures.only le in absurd cc)

pub returns-in-Err-clause-agrees : goal.returns-in-Err-clause-agrees
returns-in-Err-clause-agrees g c = λ pooled honest. agrees_still g (goal.at.returns-in-Err-clause-agrees g c).After-take (pooled honest)

pub returns-in-Ok-clause-free : goal.returns-in-Ok-clause-free
returns-in-Ok-clause-free g c = free g (goal.at.returns-in-Ok-clause-free g c).After-take

pub returns-in-Ok-clause-number : goal.returns-in-Ok-clause-number
returns-in-Ok-clause-number g c = found_is (λ number slot page. page.number ≡ number) c.args.number c.in-In.slot c.args.self.now c.in-Some.page (sym c.take.ensures.taken ∙ c.in-Some.is) c.take.ensures.numbered

pub returns-in-Ok-clause-page : goal.returns-in-Ok-clause-page
returns-in-Ok-clause-page g c = λ honest agrees.
    let at = sym c.take.ensures.taken ∙ c.in-Some.is in
    let is = found_spelled c.args.base.now.params.rows (layout_of c.args.cells.now) (g.D.Disk.history (disk_of c.args.cells.now)) c.args.number c.in-In.slot c.args.self.now c.in-Some.page at agrees in
    kept_page _ c.args.base.now c.args.number c.in-In.slot c.in-Some.page is (sym c.slot_of.ensures ∙ c.in-In.is) c.in-Ok.ensures.earlier

pub returns-in-Ok-clause-agrees : goal.returns-in-Ok-clause-agrees
returns-in-Ok-clause-agrees g c = λ pooled honest. agrees_still g (goal.at.returns-in-Ok-clause-agrees g c).After-take (pooled honest)

-- ---- it was read

pub returns-in-None-clause-free : goal.returns-in-None-clause-free
returns-in-None-clause-free g c = free g (goal.at.returns-in-None-clause-free g c).After-take

pub returns-in-None-clause-agrees : goal.returns-in-None-clause-agrees
returns-in-None-clause-agrees g c = λ pooled honest.
    let was = c.read_page.ensures.call.was_honest honest in
    subst (λ (past : History). Agrees c.args.base.now.params.rows (layout_of c.args.cells.now) past c.take.new.self) (sym (c.read_page.ensures.same was))
    (agrees_still g (goal.at.returns-in-None-clause-agrees g c).After-take (pooled was))
