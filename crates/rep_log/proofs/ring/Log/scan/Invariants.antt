use Rattle.std.proofs.Common.{◌≡◌, ◌+◌, ◌≤◌, List, [], length, Ok}
use Rattle.rep_types.specs.declared.limits.TheConstants.{MAX_CELLS, MAX_SEQNO}
use Rattle.rep_types.specs.declared.judged.Judged.{Judged}
use Rattle.rep_disk.specs.History.{seen, failed}
use Rattle.rep_disk.specs.Devices.{Calls}
use Rattle.rep_cells.specs.Device.{disk_of, layout_of}
use Rattle.rep_cells.specs.Readings.{reading_of}
use Rattle.rep_record.specs.Replaying.{Replayed}
use Rattle.rep_log.specs.Scanning.{HasCells}
use Rattle.rep_log.proofs.Scanned.{Progress}
use Rattle.rep_log.proofs.ring.Log.scan.Given as goal

-- the device is as it was, and the scan has come as far as the counter, behind these items
abbrev pub invariant-loop-k : goal.invariant-loop-k
invariant-loop-k g l = record {
  layout : layout_of l.cells ≡ l.layout;
  was_layout : layout_of l.initial.cells ≡ l.layout;
  limits : HasCells l.layout;
  lap : l.k-end ≡ l.layout.cells;
  started : l.start ≤ l.position;
  placed : l.position ≤ MAX_SEQNO;
  from : l.scan.from ≡ l.start;
  stands : length l.scan.stands ≡ MAX_CELLS;
  came : l.scan.next ≤ l.start + l.k;
  items : List Judged;
  counted : l.scan.seqno ≡ l.position + 1 + length items;
  replayed : Replayed g.S.Replays l.initial.to items l.to;
  filled : l.scan.next + (l.position + 1) ≤ l.start + l.scan.seqno;
  call : Calls {T = Unit {0}} g.D.Disk (disk_of l.initial.cells) (disk_of l.cells) (Ok tt);
  same : g.D.Disk.honest (disk_of l.initial.cells) → g.D.Disk.history (disk_of l.cells) ≡ g.D.Disk.history (disk_of l.initial.cells);
  progress : g.D.Disk.honest (disk_of l.initial.cells) → failed (g.D.Disk.history (disk_of l.initial.cells)) ≡ []
      → Progress (reading_of l.layout (seen (g.D.Disk.history (disk_of l.initial.cells)))) l.layout (l.position + 1) l.k l.scan items;
}
