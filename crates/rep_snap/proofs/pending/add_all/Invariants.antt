use Rattle.std.proofs.Common.{◌≡◌, ◌++◌, drop, fold, map, take}
use Rattle.rep_snap.specs.declared.change.Change.TheVariants.{Publish}
use Rattle.rep_snap.specs.Shelves.{changed}
use Rattle.rep_snap.specs.Rule.{Leads}
use Rattle.rep_snap.proofs.pending.add_all.Given as goal

-- the pairs so far are added
abbrev pub invariant-loop-pair : goal.invariant-loop-pair
invariant-loop-pair g l = (l.writer.desk ≡ l.fn.writer.desk) × (l.told ≡ record l.fn.told { list = l.fn.told.list ++ map Publish (take l.pair-index l.pairs) })
    × Leads l.writer.desk.shown.value (fold changed l.writer.desk.shown.value (drop l.writer.behind l.writer.log.items)) l.told
