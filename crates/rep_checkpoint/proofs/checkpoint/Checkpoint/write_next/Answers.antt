use Rattle.std.proofs.Common.{rules, ◌≡◌, sym, ap, subst, ◌∙◌, Result}
use Rattle.rep_disk.specs.declared.disk.Disk.{Ghosts}
use Rattle.rep_disk.specs.declared.disk.DiskFault.{DiskFault as Fault}
use Rattle.rep_layout.specs.declared.place.Layout.{Layout}
use Rattle.rep_layout.specs.declared.super_body.SuperBody.{SuperBody}
use Rattle.rep_layout.specs.declared.place.Side.{Side}
use Rattle.rep_layout.specs.declared.place.Place.TheVariants.{Super, Window}
use Rattle.rep_layout.specs.Places.{offset_of}
use Rattle.rep_layout.specs.Supers.{super_bytes}
use Rattle.rep_layout.specs.Windows.{window_bytes}
use Rattle.rep_cells.specs.Device.{disk_of, layout_of}
use Rattle.rep_cells.specs.States.{filling}
use Rattle.rep_cells.specs.Calls.{WritesOnly, StepsAt}
use Rattle.rep_checkpoint.specs.declared.stage.Part.TheVariants.{Flushing, Ready}
use Rattle.rep_checkpoint.specs.declared.stage.Stage.{Stage}
use Rattle.rep_checkpoint.specs.declared.stage.Stage.TheVariants.{Toward}
use Rattle.rep_checkpoint.specs.Next.{Next, window_of}
use Rattle.rep_checkpoint.specs.Standing.{Standing, spare_side}
use Rattle.rep_checkpoint.specs.Calls.{next_offset, next_bytes, next_place, next_step}
use Rattle.rep_checkpoint.proofs.checkpoint.Checkpoint.write_next.Goals as goal

-- the window's write is the one that comes next, and so is the superblock's
module _ {D : Type 0} (g : Ghosts D) (l : Layout) (base : SuperBody) (next : Next) (stage : Stage) (side : Side) (here : side ≡ spare_side base) (old new : D) (result : Result (Unit {0}) Fault) where
  window_written : stage ≡ Toward next Flushing → WritesOnly g (offset_of l (Window side)) (window_bytes (window_of next)) old new result → WritesOnly g (next_offset l base stage) (next_bytes stage) old new result
  window_written is written =
      subst (λ (st : Stage). WritesOnly g (next_offset l base st) (next_bytes st) old new result) (sym is)
      (subst (λ (sd : Side). WritesOnly g (offset_of l (Window sd)) (window_bytes (window_of next)) old new result) here written)

  super_stepped : stage ≡ Toward next Ready → StepsAt g l (Super side) (filling (super_bytes next.super)) old new result → StepsAt g l (next_place base stage) (next_step stage) old new result
  super_stepped is steps =
      subst (λ (st : Stage). StepsAt g l (next_place base st) (next_step st) old new result) (sym is)
      (subst (λ (sd : Side). StepsAt g l (Super sd) (filling (super_bytes next.super)) old new result) here steps)

  super_written : stage ≡ Toward next Ready → WritesOnly g (offset_of l (Super side)) (super_bytes next.super) old new result → WritesOnly g (next_offset l base stage) (next_bytes stage) old new result
  super_written is written =
      subst (λ (st : Stage). WritesOnly g (next_offset l base st) (next_bytes st) old new result) (sym is)
      (subst (λ (sd : Side). WritesOnly g (offset_of l (Super sd)) (super_bytes next.super) old new result) here written)

pub returns-in-Toward-default-Ready-clause-written : goal.returns-in-Toward-default-Ready-clause-written
returns-in-Toward-default-Ready-clause-written g c =
    let stage : c.args.self.now.stage ≡ Toward c.in-Toward-default-Ready.next Ready = search rules in
    super_written g.D.Disk (layout_of c.args.cells.now) c.args.self.now.base _ _ _ (c.spare_side-side.ensures ∙ ap (λ (w : Standing). spare_side w.base) c.self.view_is) (disk_of c.args.cells.now) _ _ stage c.put_super.ensures.written

pub returns-in-Toward-default-Flushing-clause-written : goal.returns-in-Toward-default-Flushing-clause-written
returns-in-Toward-default-Flushing-clause-written g c =
    let stage : c.args.self.now.stage ≡ Toward c.in-Toward-default-Flushing.next Flushing = search rules in
    window_written g.D.Disk (layout_of c.args.cells.now) c.args.self.now.base _ _ _ (c.spare_side-side.ensures ∙ ap (λ (w : Standing). spare_side w.base) c.self.view_is) (disk_of c.args.cells.now) _ _ stage c.put_window.ensures.written

pub returns-in-Toward-default-Ready-clause-states : goal.returns-in-Toward-default-Ready-clause-states
returns-in-Toward-default-Ready-clause-states g c =
    let stage : c.args.self.now.stage ≡ Toward c.in-Toward-default-Ready.next Ready = search rules in
    super_stepped g.D.Disk (layout_of c.args.cells.now) c.args.self.now.base _ _ _ (c.spare_side-side.ensures ∙ ap (λ (w : Standing). spare_side w.base) c.self.view_is) (disk_of c.args.cells.now) _ _ stage c.put_super.ensures.states
