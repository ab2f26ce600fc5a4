use Rattle.rep_catchup.proofs.JoinGrowing.{settled, settled_ends, settle_early, is_stopped}
use Rattle.rep_catchup.proofs.JoinTelling.{settled_tells}
use Rattle.rep_catchup.proofs.joining.settle.Goals as goal

pub returns : goal.returns
returns g c =
    let works = c.settle.ensures.works (is_stopped g.D.Disk c.args.replica.now c.requires.running) in
    record {
      grown = settled c.history_by_items.ensures g.D.Disk c.nodes_stay_nodes.ensures c.runs_come_to.ensures c.args.replica.now c.settle.new.self c.settle.result works;
      ends = settled_ends c.history_by_items.ensures g.D.Disk c.args.replica.now c.settle.new.self c.settle.result c.requires.running works;
      tells = settled_tells g.D.Disk c.args.replica.now c.settle.new.self c.settle.result works;
      quiet = c.settle.ensures.quiet;
      refused = settle_early c.history_by_items.ensures g.D.Disk c.args.replica.now c.settle.new.self c.settle.result c.requires.running works c.settle.ensures.refused;
    }
