-- What a call answered, from what was found out of it.
use Rattle.std.proofs.Common.{◌≡◌, false, List, Option, None, sym, ap, ◌∙◌}
use Rattle.std.specs.Prelude.{is_some}
use Rattle.rep_types.specs.declared.judged.Judged.{Judged}
use Rattle.rep_types.proofs.Choices.{none_by_test}
use Rattle.rep_layout.specs.declared.place.Layout.{Layout}
use Rattle.rep_cells.specs.declared.cells.Cells.{Cells}
use Rattle.rep_cells.specs.Device.{disk_of, layout_of}
use Rattle.rep_versions.specs.Versions.{Kept}
use Rattle.rep_log.specs.declared.phase.Phase.{Phase}
use Rattle.rep_log.specs.Standing.{Standing as Log}
use Rattle.rep_checkpoint.specs.Standing.{Standing as Checkpoint}
use Rattle.rep_engine.specs.Engines.{Engine}

-- the engine of these parts, as it is inside of a call
abbrev pub inside : {D : Type 0} {g : _} → Cells D g → Checkpoint → Log → Kept → List Judged → Option Phase → Engine D
inside cells checkpoint log kept block halted = record { disk = disk_of cells; layout = layout_of cells; checkpoint = checkpoint; log = log; kept = kept; block = block; halted = halted }

-- a call on its parts left the layout, and it is halted by how that came out
pub came_out : {D : Type 0} (old : Engine D) (disk : D) (l : Layout) (checkpoint : Checkpoint) (halted by : Option Phase) → l ≡ old.layout → halted ≡ by → record old { disk = disk; layout = l; checkpoint = checkpoint; halted = halted } ≡ record old { disk = disk; checkpoint = checkpoint; halted = by }
came_out old disk l checkpoint halted by same is =
    ap (λ (k : Layout). record old { disk = disk; layout = k; checkpoint = checkpoint; halted = halted }) same
    ∙ ap (λ (o : Option Phase). record old { disk = disk; checkpoint = checkpoint; halted = o }) is

-- the engine before a call that was not refused for it runs
pub runs_of : {D : Type 0} {within old : Engine D} → within ≡ old → false ≡ is_some within.halted → old.halted ≡ None
runs_of {D} {within} is still = sym (ap (λ (e : Engine D). e.halted) is) ∙ none_by_test within.halted (sym still)

-- and inside of such a call too
pub runs_within : {D : Type 0} {within old : Engine D} → within ≡ old → old.halted ≡ None → within.halted ≡ None
runs_within {D} is runs = ap (λ (e : Engine D). e.halted) is ∙ runs
