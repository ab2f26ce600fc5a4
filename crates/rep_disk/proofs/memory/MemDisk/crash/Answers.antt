use Rattle.std.proofs.Common.{rules, ◌≡◌}
use Rattle.rep_disk.specs.History.{Begins}
use Rattle.rep_disk.specs.Memory.{IsAfterLoss}
use Rattle.rep_disk.specs.Record.{replay, lost}
use Rattle.rep_disk.proofs.Record.{crashed, left_is_image}
use Rattle.rep_disk.proofs.memory.MemDisk.crash.Goals as goal

pub returns-clause-left : goal.returns-clause-left
returns-clause-left c =
    let image_is : c.copy_from_slice.new.self.items ≡ lost c.args.loss c.self.inside.bytes.items c.self.inside.stable.items c.self.inside.pending.items = search rules in
    let left : IsAfterLoss c.args.loss (replay (Begins c.self.inside.found.items) c.self.inside.calls.items) c.copy_from_slice.new.self.items =
    crashed c.args.loss _ c.self.inside.bytes.items c.self.inside.stable.items _ c.self.inside.pending.items c.self.invariant.bytes_are c.self.invariant.last_are c.self.invariant.ranges_are image_is in
    rw (← c.self.view_is, c.clear.ensures.items) left

pub returns-clause-image : goal.returns-clause-image
returns-clause-image c = left_is_image c.args.loss _ _ (returns-clause-left c)
