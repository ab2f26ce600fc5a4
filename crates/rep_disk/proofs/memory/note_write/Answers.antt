use Rattle.std.proofs.Common.{rules, ◌≡◌, ◌++◌, ◌∷◌, [], ℕ, List, ap, ◌∙◌}
use Rattle.rep_disk.specs.declared.memory.Call.TheVariants as call
use Rattle.rep_disk.specs.History.{Wrote}
use Rattle.rep_disk.specs.Record.{replay}
use Rattle.rep_disk.proofs.Record.{replay_pushed}
use Rattle.rep_disk.proofs.memory.note_write.Goals as goal

pub returns-clause-noted : goal.returns-clause-noted
returns-clause-noted c h =
    let copied : c.in_ok-copy.copy.items ≡ c.args.bytes.now = search rules in
    let pushed : c.push-2.new.self.items ≡ c.args.calls.now.items ++ call.Wrote c.args.at c.in_ok-copy.copy ∷ [] = rw (← c.reserve.ensures.items) c.in_ok-push-2.ensures.items in
    replay_pushed h c.args.calls.now.items c.push-2.new.self.items (call.Wrote c.args.at c.in_ok-copy.copy) pushed
    ∙ ap (λ (bytes : List ℕ). Wrote c.args.at bytes (replay h c.args.calls.now.items)) copied
