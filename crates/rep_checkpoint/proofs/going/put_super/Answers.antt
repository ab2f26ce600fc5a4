use Rattle.std.proofs.Common.{ap, subst, ◌∙◌, List, ℕ}
use Rattle.rep_layout.specs.declared.place.Place.TheVariants.{Super}
use Rattle.rep_layout.specs.Supers.{super_bytes}
use Rattle.rep_cells.specs.Device.{disk_of, layout_of}
use Rattle.rep_cells.specs.States.{filling}
use Rattle.rep_cells.specs.Calls.{StepsAt}
use Rattle.rep_checkpoint.specs.Next.{Next}
use Rattle.rep_checkpoint.proofs.going.put_super.Goals as goal

pub returns-clause-states : goal.returns-clause-states
returns-clause-states g c =
    let body = c.as_slice.ensures.value ∙ c.super_bytes-body.ensures.bytes ∙ ap (λ (n : Next). super_bytes n.super) c.next.view_is in
    subst (λ (b : List ℕ). StepsAt g.D.Disk (layout_of c.args.cells.now) (Super c.args.side) (filling b) (disk_of c.args.cells.now) (disk_of c.fill.new.self) c.fill.result) body c.fill.ensures.states
