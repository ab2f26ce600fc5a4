use Rattle.rep_disk.specs.declared.memory.Call.TheVariants as call
use Rattle.rep_disk.proofs.Record.{replay_pushed}
use Rattle.rep_disk.proofs.memory.note_sync.Goals as goal

pub returns-clause-noted : goal.returns-clause-noted
returns-clause-noted c h = replay_pushed h c.args.calls.now.items c.push.new.self.items call.Synced c.in_ok-push.ensures.items
