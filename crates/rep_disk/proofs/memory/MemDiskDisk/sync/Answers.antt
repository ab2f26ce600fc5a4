use Rattle.std.proofs.Common.{rules, ◌≡◌, length}
use Rattle.rep_disk.specs.History.{History, Synced}
use Rattle.rep_disk.specs.Record.{replay, laid}
use Rattle.rep_disk.proofs.Record.{kept_synced}
use Rattle.rep_disk.proofs.Bytes.{written_back}
use Rattle.rep_disk.proofs.memory.MemDiskDisk.sync.Goals as goal

pub invariant_of-self-2 : goal.invariant_of-self-2
invariant_of-self-2 c =
    let noted : (h : History) → replay h c.note_sync-noted.new.calls.items ≡ Synced (replay h c.self.inside.calls.items) = search rules in
    let is : c.lay_ranges.new.bytes ≡ laid c.self.inside.pending.items c.self.inside.bytes.items c.self.inside.stable.items = search rules in
    let size : length c.lay_ranges.new.bytes ≡ c.self.inside.stable.len = search rules in
    kept_synced c.self.inside.found.items c.self.inside.calls.items c.note_sync-noted.new.calls.items c.self.inside.bytes.items c.self.inside.stable.items _ c.self.inside.pending.items _
    c.self.invariant noted (search rules) (written_back _ _ _ _ is size)
