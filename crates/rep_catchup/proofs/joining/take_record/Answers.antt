use Rattle.std.proofs.Common.{[], ◌∷◌}
use Rattle.rep_catchup.specs.Growing.{where_ok}
use Rattle.rep_catchup.proofs.JoinGrowing.{grown_then}
use Rattle.rep_catchup.proofs.JoinTelling.{tells_then, grown_goes}
use Rattle.rep_catchup.proofs.joining.take_record.Goals as goal

pub returns-clause-grown : goal.returns-clause-grown
returns-clause-grown g c =
    grown_then c.history_by_items.ensures g.D.Disk c.runs_are_joined.ensures c.args.replica.now c.make_room.new.replica c.deliver.new.replica [] (where_ok c.deliver.result (c.args.judged ∷ []))
    c.make_room.ensures.grown c.deliver.ensures.grown

pub returns-clause-tells : goal.returns-clause-tells
returns-clause-tells g c =
    tells_then g.D.Disk c.args.replica.now c.make_room.new.replica c.deliver.new.replica c.deliver.result c.in_ok-make_room.ensures.tells (grown_goes g.D.Disk c.args.replica.now c.make_room.new.replica [] c.make_room.ensures.grown)
    c.deliver.ensures.tells
