use Rattle.rep_record.proofs.Blocks.{answer_only}
use Rattle.rep_record.proofs.block_reader.read_block.Goals as goal

pub returns-clause-only : goal.returns-clause-only
returns-clause-only c = answer_only c.args.bytes.now c.read_body.result c.read_body.ensures.only
