use Rattle.rep_catchup.proofs.DonateTail.{is_placed_record}
use Rattle.rep_catchup.proofs.donor.write_above.Goals as goal

pub write_record-requires : goal.write_record-requires
write_record-requires g c = is_placed_record c.args.judged.now c.requires
