use Rattle.std.proofs.Common.{◌≡◌, Ok}
use Rattle.rep_cells.specs.Device.{disk_of, layout_of}
use Rattle.rep_recover.specs.Going.{Goes}
use Rattle.rep_recover.specs.Formatting.{WillClose}
use Rattle.rep_recover.proofs.format.close_log.Given as goal

-- the cells below the counter are closed
abbrev pub invariant-loop-cell : goal.invariant-loop-cell
invariant-loop-cell g l = record {
  layout : layout_of l.cells ≡ layout_of l.initial.cells;
  lap : l.cell-end ≡ (layout_of l.initial.cells).cells;
  goes : Goes {T = Unit {0}} g.D.Disk (layout_of l.initial.cells) (WillClose 0) (WillClose l.cell) (disk_of l.initial.cells) (disk_of l.cells) (Ok tt);
}
