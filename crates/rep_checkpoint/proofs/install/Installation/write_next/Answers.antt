use Rattle.std.proofs.Common.{◌≡◌, sym, ap, subst, ◌∙◌, rules}
use Rattle.rep_layout.specs.declared.place.Side.{Side}
use Rattle.rep_layout.specs.declared.place.Place.TheVariants.{Super, Window}
use Rattle.rep_layout.specs.Places.{offset_of}
use Rattle.rep_layout.specs.Supers.{super_bytes}
use Rattle.rep_layout.specs.Windows.{window_bytes}
use Rattle.rep_cells.specs.Device.{disk_of, layout_of}
use Rattle.rep_cells.specs.States.{filling}
use Rattle.rep_cells.specs.Calls.{WritesOnly, StepsAt}
use Rattle.rep_checkpoint.specs.declared.stage.Part.{Part}
use Rattle.rep_checkpoint.specs.declared.stage.Part.TheVariants.{Flushing, Ready}
use Rattle.rep_checkpoint.specs.declared.stage.Stage.TheVariants.{Toward}
use Rattle.rep_checkpoint.specs.Next.{Next, window_of}
use Rattle.rep_checkpoint.specs.Calls.{next_offset, next_bytes, next_place, next_step}
use Rattle.rep_checkpoint.specs.Coming.{Coming}
use Rattle.rep_checkpoint.proofs.install.Installation.write_next.Goals as goal

pub returns-in-Ready-clause-states : goal.returns-in-Ready-clause-states
returns-in-Ready-clause-states g c =
    let l = layout_of c.args.cells.now in
    let old = disk_of c.args.cells.now in
    let new = disk_of c.put_super.new.cells in
    let base = c.args.base.now in
    let v = c.args.self.now in
    let part : v.part ≡ Ready = sym (ap (λ (i : Coming). i.part) c.self.view_is) ∙ c.in-Ready.is in
    subst (λ (p : Part). StepsAt g.D.Disk l (next_place base (Toward v.next p)) (next_step (Toward v.next p)) old new c.put_super.result) (sym part)
    (subst (λ (n : Next). StepsAt g.D.Disk l (next_place base (Toward n Ready)) (filling (super_bytes n.super)) old new c.put_super.result) (ap (λ (i : Coming). i.next) c.self.view_is)
    (subst (λ (sd : Side). StepsAt g.D.Disk l (Super sd) (filling (super_bytes c.self.inside.next.super)) old new c.put_super.result) c.spare_side-side.ensures c.put_super.ensures.states))

pub returns-in-Flushing-clause-written : goal.returns-in-Flushing-clause-written
returns-in-Flushing-clause-written g c =
    let l = layout_of c.args.cells.now in
    let old = disk_of c.args.cells.now in
    let new = disk_of c.put_window.new.cells in
    let base = c.args.base.now in
    let v = c.args.self.now in
    let part : v.part ≡ Flushing = sym (ap (λ (i : Coming). i.part) c.self.view_is) ∙ c.in-Flushing.is in
    subst (λ (p : Part). WritesOnly g.D.Disk (next_offset l base (Toward v.next p)) (next_bytes (Toward v.next p)) old new c.put_window.result) (sym part)
    (subst (λ (n : Next). WritesOnly g.D.Disk (next_offset l base (Toward n Flushing)) (window_bytes (window_of n)) old new c.put_window.result) (ap (λ (i : Coming). i.next) c.self.view_is)
    (subst (λ (sd : Side). WritesOnly g.D.Disk (offset_of l (Window sd)) (window_bytes (window_of c.self.inside.next)) old new c.put_window.result) c.spare_side-side.ensures c.put_window.ensures.written))

pub returns-in-Flushing-clause-inside : goal.returns-in-Flushing-clause-inside
returns-in-Flushing-clause-inside g c = search rules
