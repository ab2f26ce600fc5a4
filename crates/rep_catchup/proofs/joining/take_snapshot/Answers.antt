use Rattle.rep_catchup.proofs.JoinBringing.{on_ok_of, on_err_of}
use Rattle.rep_catchup.proofs.JoinTaking.{counted_small}
use Rattle.rep_catchup.proofs.JoinFollowing.{after_snapshot}
use Rattle.rep_catchup.proofs.JoinCutting.{short_behind_on, short_left}
use Rattle.rep_catchup.proofs.JoinTelling.{tells_then, bring_told, brought_same}
use Rattle.rep_catchup.proofs.joining.take_snapshot.Goals as goal

pub returns-in-Ok-clause-taken : goal.returns-in-Ok-clause-taken
returns-in-Ok-clause-taken g c =
    after_snapshot g.D.Disk c.history_by_items.ensures c.args.replica c.bring-replica.result.0 c.follow-followed.new.replica c.args.header.now.format c.args.header.now.uuid c.args.position c.args.transfer.now c.bring-replica.new.transfer c.follow-followed.new.transfer
    (g.R.Source.remaining c.args.reader.now) (g.R.Source.remaining c.bring-replica.new.reader) (g.R.Source.remaining c.follow-followed.new.reader) c.follow-followed.result
    (on_ok_of c.bring-replica.result.1 c.in-Ok.field-0 c.in-Ok.is c.bring-replica.ensures.brought) c.follow-followed.ensures.followed

pub returns-in-Ok-clause-cut : goal.returns-in-Ok-clause-cut
returns-in-Ok-clause-cut g c = λ before taken.
    short_behind_on g.D.Disk c.history_by_items.ensures c.args.replica c.follow-followed.new.replica c.args.header.now.format c.args.header.now.uuid c.args.position c.args.at c.args.transfer.now before (g.R.Source.remaining c.args.reader.now) c.follow-followed.result c.ranges.position.fits
    (counted_small c.args.at c.ranges.at.fits) c.requires.counted taken c.bring-replica.result.0 c.bring-replica.new.transfer (g.R.Source.remaining c.bring-replica.new.reader)
    (on_ok_of c.bring-replica.result.1 c.in-Ok.field-0 c.in-Ok.is c.bring-replica.ensures.brought) c.follow-followed.ensures.cut

pub returns-in-Err-clause-cut : goal.returns-in-Err-clause-cut
returns-in-Err-clause-cut g c = λ before taken.
    short_left g.D.Disk c.history_by_items.ensures c.args.replica c.bring-replica.result.0 c.args.header.now.format c.args.header.now.uuid c.args.position c.args.at c.args.transfer.now before (g.R.Source.remaining c.args.reader.now) c.in-Err.refusal c.ranges.position.fits
    (counted_small c.args.at c.ranges.at.fits) c.requires.counted taken (on_err_of _ c.bring-replica.result.1 c.in-Err.refusal c.in-Err.is c.bring-replica.ensures.refused) (on_err_of _ c.bring-replica.result.1 c.in-Err.refusal c.in-Err.is c.bring-replica.ensures.left)

-- ---- what is told of the device

pub returns-in-Ok-clause-tells : goal.returns-in-Ok-clause-tells
returns-in-Ok-clause-tells g c =
    let brought = on_ok_of c.bring-replica.result.1 c.in-Ok.field-0 c.in-Ok.is c.bring-replica.ensures.brought in
    tells_then g.D.Disk c.args.replica c.bring-replica.result.0 c.follow-followed.new.replica c.follow-followed.result
    (brought_same g.D.Disk c.args.replica c.bring-replica.result.0 c.bring-replica.result.1 c.in-Ok.field-0 c.in-Ok.is c.bring-replica.ensures.told)
    (λ n holds. let there = brought.node n holds in (there.node, there.holds)) c.follow-followed.ensures.tells

pub returns-in-Err-clause-tells : goal.returns-in-Err-clause-tells
returns-in-Err-clause-tells g c =
    bring_told g.D.Disk c.args.replica c.bring-replica.result.0 c.args.header.now.format c.args.position c.args.at (g.R.Source.remaining c.args.reader.now) c.bring-replica.result.1 c.in-Err.refusal c.in-Err.is c.bring-replica.ensures.told c.bring-replica.ensures.refused
