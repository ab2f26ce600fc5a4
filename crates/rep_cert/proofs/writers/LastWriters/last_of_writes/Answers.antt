use Rattle.std.proofs.Common.{max, sym, ap, ◌∙◌}
use Rattle.rep_cert.specs.Writers.{HasPlace, writer, greatest_of}
use Rattle.rep_cert.proofs.LastWriters.{greatest_of_push, keys_more, key_at}
use Rattle.rep_cert.proofs.writers.LastWriters.last_of_writes.Goals as goal

pub of-requires : goal.of-requires
of-requires c = key_at (HasPlace c.args.self.now.starts.items c.args.self.now.seqnos.items) c.args.writes.now c.loop-write.write-index c.write-item.result c.requires c.loop-write-test.true c.write-item.is

pub loop-write-preserved : goal.loop-write-preserved
loop-write-preserved c =
    let number = writer c.args.self.now.starts.items c.args.self.now.seqnos.items in
    c.later-last.ensures
    ∙ (ap (λ n. max n c.loop-write.last) c.of.ensures
    ∙ (ap (max (number c.write-item.result.key)) c.loop-write.invariant
    ∙ sym (ap (greatest_of number) (keys_more c.args.writes.now c.loop-write.write-index c.write-item.result c.loop-write-test.true c.write-item.is) ∙ greatest_of_push number _ c.write-item.result.key)))
