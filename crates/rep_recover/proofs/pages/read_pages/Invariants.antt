use Rattle.std.proofs.Common.{◌≡◌, [], length, Ok}
use Rattle.rep_disk.specs.History.{seen, failed}
use Rattle.rep_layout.specs.declared.place.TheConstants.{PAGE_BODY}
use Rattle.rep_cells.specs.Device.{disk_of, layout_of}
use Rattle.rep_cells.specs.Readings.{reading_of}
use Rattle.rep_recover.specs.Looking.{Looks, HasFirstPages}
use Rattle.rep_recover.proofs.pages.read_pages.Given as goal

-- the pages below the counter stand in their slots
abbrev pub invariant-loop-number : goal.invariant-loop-number
invariant-loop-number g l = record {
  layout : layout_of l.cells ≡ layout_of l.initial.cells;
  lap : l.number-end ≡ (layout_of l.initial.cells).pages;
  room : length l.room ≡ PAGE_BODY;
  looks : Looks {T = Unit {0}} g.D.Disk (disk_of l.initial.cells) (disk_of l.cells) (Ok tt);
  found : g.D.Disk.honest (disk_of l.initial.cells) → failed (g.D.Disk.history (disk_of l.initial.cells)) ≡ []
      → HasFirstPages (reading_of (layout_of l.initial.cells) (seen (g.D.Disk.history (disk_of l.initial.cells)))) l.superblock l.number;
}
