use Rattle.std.proofs.Common.{◌∙◌, arith}
use Rattle.rep_cert.proofs.LastWriters.{last_writer_more}
use Rattle.rep_cert.proofs.writers.LastWriters.raise_all.Goals as goal

pub raise-requires : goal.raise-requires
raise-requires c = rw c.loop-entry.invariant.starts (record { tables = c.requires.tables; size = c.loop-entry.invariant.size ∙ c.requires.size })

pub loop-entry-preserved : goal.loop-entry-preserved
loop-entry-preserved c = record {
  starts = c.raise.ensures.starts ∙ c.loop-entry.invariant.starts;
  former = c.raise.ensures.former ∙ c.loop-entry.invariant.former;
  size = c.raise.ensures.size ∙ c.loop-entry.invariant.size;
  raised = λ key row.
      omega (
        arith,
        c.raise.ensures.raised key row,
        c.loop-entry.invariant.raised key row,
        last_writer_more key c.args.entries.now c.loop-entry.entry-index c.entry-item.result c.loop-entry-test.true c.entry-item.is,
      );
}
