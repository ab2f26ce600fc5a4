-- The images of an engine that isn't stopped.
use Rattle.std.proofs.Common.{◌≡◌, sym, subst}
use Rattle.rep_disk.specs.declared.disk.Disk.{Ghosts}
use Rattle.rep_layout.specs.Places.{layout_of}
use Rattle.rep_layout.specs.declared.place.Layout.{Layout}
use Rattle.rep_cells.specs.Readings.{reading_of}
use Rattle.rep_cells.specs.States.{Allowed}
use Rattle.rep_cells.specs.Laws.{ImagesReadAsAllowed}
use Rattle.rep_checkpoint.specs.Nodes.{StandsAs, NodesLeaveTheirEnds}
use Rattle.rep_engine.specs.Engines.{Engine}
use Rattle.rep_engine.specs.Holding.{LeavesItsEnds}

-- each means what stands there, in the places of the superblock's parameters
pub leaves_its_ends : NodesLeaveTheirEnds → ImagesReadAsAllowed → {D : Type 0} → (g : Ghosts D) (e : Engine D) → e.layout ≡ layout_of e.checkpoint.base.params → LeavesItsEnds g e
leaves_its_ends law reads g e layout = λ n holds runs image here.
    let there = holds.runs runs in
    law image n e.checkpoint e.log there.blocks there.sealed there.states holds.node (subst (λ k. StandsAs n k e.checkpoint e.log there.blocks there.sealed there.states) (sym here.sized) there.stands)
    (subst (λ (l : Layout). Allowed l there.states (reading_of l image)) layout (reads e.layout (g.history e.disk) there.states image there.assigns here))
