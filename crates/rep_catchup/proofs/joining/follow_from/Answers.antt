use Rattle.std.proofs.Common.{ℕ, Option, subst, rules}
use Rattle.std.proofs.lemmas.Result.{err_from_is_err_and}
use Rattle.rep_layout.specs.Supers.{IsNil}
use Rattle.rep_replica.specs.Replicas.{facts_of}
use Rattle.rep_transfer.specs.Transfers.{part_bytes}
use Rattle.rep_catchup.specs.Joining.{Follows}
use Rattle.rep_catchup.proofs.JoinGrowing.{grown_none}
use Rattle.rep_catchup.proofs.JoinTaking.{counted_small}
use Rattle.rep_catchup.proofs.JoinFollowing.{from_end, part_goes_on}
use Rattle.rep_catchup.proofs.JoinCutting.{cut_in_hand, cut_behind_on, nil_is_out}
use Rattle.rep_catchup.proofs.JoinTelling.{tells_then, tells_malformed, grown_goes}
use Rattle.rep_catchup.proofs.joining.follow_from.Goals as goal

pub returns-in-Some-clause-followed : goal.returns-in-Some-clause-followed
returns-in-Some-clause-followed g c =
    from_end g.D.Disk c.args.replica.now c.take_part.new.replica (g.R.Source.remaining c.args.reader.now) c.in-Some.last (part_bytes c.args.part)
    (subst (λ (ended : Option ℕ). Follows g.D.Disk c.args.replica.now c.take_part.new.replica ended (part_bytes c.args.part)) c.in-Some.is c.in_ok-last.ensures.took)

pub returns-in-None-clause-followed : goal.returns-in-None-clause-followed
returns-in-None-clause-followed g c =
    part_goes_on g.D.Disk c.history_by_items.ensures c.runs_are_joined.ensures c.args.replica.now c.take_part.new.replica c.follow.new.replica c.args.transfer.now c.follow.new.transfer (g.R.Source.remaining c.args.reader.now)
    (g.R.Source.remaining c.follow.new.reader) c.in_ok-last.field-0 (part_bytes c.args.part) c.follow.result c.in-None.is c.in_ok-last.ensures.took c.follow.ensures.followed

-- ---- where it isn't taken

pub returns-then-is_nil-clause-cut : goal.returns-then-is_nil-clause-cut
returns-then-is_nil-clause-cut g c = λ before taken.
    let nil : IsNil (facts_of g.D.Disk c.args.replica.now).uuid = search rules in
    cut_in_hand g.D.Disk c.history_by_items.ensures c.runs_are_joined.ensures c.args.replica.now c.args.replica.now c.args.at before (g.R.Source.remaining c.args.reader.now) c.args.part _
    (counted_small c.args.at c.ranges.at.fits) (grown_none c.history_by_items.ensures g.D.Disk c.runs_are_joined.ensures c.args.replica.now) c.requires.fits taken
    (nil_is_out g.D.Disk c.args.replica.now c.args.part c.args.at nil)

pub returns-in_err-last-clause-cut : goal.returns-in_err-last-clause-cut
returns-in_err-last-clause-cut g c = λ before taken.
    let p = err_from_is_err_and c.from_residual.result c.from_residual.ensures.1 in
    rw (p.1, p.2) (cut_in_hand g.D.Disk c.history_by_items.ensures c.runs_are_joined.ensures c.args.replica.now c.take_part.new.replica c.args.at before (g.R.Source.remaining c.args.reader.now) c.args.part
    c.in_err-last.field-0.0 (counted_small c.args.at c.ranges.at.fits) c.in_err-last.ensures.kept c.requires.fits taken c.in_err-last.ensures.refused)

pub returns-in-None-clause-cut : goal.returns-in-None-clause-cut
returns-in-None-clause-cut g c = λ before taken.
    cut_behind_on g.D.Disk c.history_by_items.ensures c.runs_are_joined.ensures c.args.replica.now c.take_part.new.replica c.follow.new.replica c.args.at c.args.transfer.now before
    (g.R.Source.remaining c.args.reader.now) c.in_ok-last.field-0 (part_bytes c.args.part) c.follow.result c.in-None.is c.requires.counted taken c.in_ok-last.ensures.took c.follow.ensures.cut

-- ---- what is told of the device

pub returns-then-is_nil-clause-tells : goal.returns-then-is_nil-clause-tells
returns-then-is_nil-clause-tells g c = tells_malformed g.D.Disk c.args.replica.now c.args.at

pub returns-in-None-clause-tells : goal.returns-in-None-clause-tells
returns-in-None-clause-tells g c =
    tells_then g.D.Disk c.args.replica.now c.take_part.new.replica c.follow.new.replica c.follow.result c.in_ok-last.ensures.tells
    (grown_goes g.D.Disk c.args.replica.now c.take_part.new.replica c.in_ok-last.ensures.took.records c.in_ok-last.ensures.took.grown) c.follow.ensures.tells
