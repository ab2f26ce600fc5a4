use Rattle.std.proofs.Common.{◌∙◌}
use Rattle.rep_types.proofs.Gtids.{uuid_read}
use Rattle.rep_types.proofs.gtid.read_uuid.Goals as goal

pub returns : goal.returns
returns c =
    let head = c.in_ok-head.ensures.lookup.0 in
    c.ok.ensures.value ∙ uuid_read c.args.text.now c.in_ok-head.head.now c.try_parse_ascii.result head.1 head.2 c.try_parse_ascii.ensures.ok c.try_parse_ascii.ensures.bytes
