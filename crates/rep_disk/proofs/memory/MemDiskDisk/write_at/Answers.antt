use Rattle.std.proofs.Common.{rules, ◌≡◌, ◌++◌, ◌∷◌, [], length}
use Rattle.rep_disk.specs.declared.memory.Range.{Range}
use Rattle.rep_disk.specs.Bytes.{put}
use Rattle.rep_disk.specs.History.{History, Wrote}
use Rattle.rep_disk.specs.Record.{replay}
use Rattle.rep_disk.proofs.Record.{kept_wrote}
use Rattle.rep_disk.proofs.Bytes.{written_back}
use Rattle.rep_disk.proofs.memory.MemDiskDisk.write_at.Goals as goal

pub invariant_of-self-2 : goal.invariant_of-self-2
invariant_of-self-2 c =
    let noted : (h : History) → replay h c.note_write-noted.new.calls.items ≡ Wrote c.args.at c.args.bytes.now (replay h c.self.inside.calls.items) = search rules in
    let range : Range = record { at = c.args.at; len = length c.args.bytes.now } in
    let wider : c.note_write-noted.new.pending.items ≡ c.self.inside.pending.items ++ range ∷ [] = search rules in
    let laid : c.overwrite.new.bytes ≡ put c.self.inside.bytes.items c.args.at c.args.bytes.now = search rules in
    let size : length c.overwrite.new.bytes ≡ c.self.inside.bytes.len = search rules in
    kept_wrote c.self.inside.found.items c.self.inside.calls.items c.note_write-noted.new.calls.items c.self.inside.bytes.items c.self.inside.stable.items c.self.inside.pending.items c.note_write-noted.new.pending.items c.args.at c.args.bytes.now _
    c.self.invariant noted wider (search rules) (written_back _ _ _ _ laid size)
