use Rattle.std.proofs.Common.{◌∙◌}
use Rattle.rep_cert.specs.Writers.{writer}
use Rattle.rep_cert.proofs.LastWriters.{greatest_of_more}
use Rattle.rep_cert.proofs.writers.LastWriters.last_of_keys.Goals as goal

pub loop-key-preserved : goal.loop-key-preserved
loop-key-preserved c =
    c.later-last.ensures
    ∙ greatest_of_more (writer c.args.self.now.starts.items c.args.self.now.seqnos.items) c.args.keys.now c.loop-key.key-index _ c.loop-key.last c.of.result c.loop-key-test.true c.loop-key.invariant
    c.of.ensures
