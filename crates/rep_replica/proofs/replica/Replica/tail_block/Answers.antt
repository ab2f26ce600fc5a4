use Rattle.std.proofs.Common.{◌≢◌, ◌<◌, ◌^◌, Err, sym, subst, ◌∙◌}
use Rattle.rep_types.specs.declared.refusal.Refusal.TheVariants.{Corrupt}
use Rattle.rep_types.specs.declared.refusal.Part.TheVariants.{Log as in_log}
use Rattle.rep_replica.specs.Replicas.{Replica}
use Rattle.rep_replica.proofs.Donating.{asks, holds_on, block_of_all, base_of_all, no_block}
use Rattle.rep_replica.proofs.Asking.{asked_none, is_asked}
use Rattle.rep_replica.proofs.replica.Replica.tail_block.Goals as goal

abbrev within : (g : _) (c : goal.After-tail_block g) → Replica g.row.D.Denot
within g c = record { engine = c.self.inside.engine; backlog = c.self.inside.backlog; certifier = c.self.inside.certifier; stopped = c.self.inside.stopped }

pub returns-clause-holds : goal.returns-clause-holds
returns-clause-holds g c n holds other =
    holds_on g.D.Disk in_log (within g c) c.args.self.now c.self.view_is (sym c.is_stopped.ensures ∙ c.if-is_stopped.false) c.tail_block.new.self c.tail_block.result c.tail_block.ensures.asks n
    c.tail_block.ensures.holds holds other

pub returns-clause-asks : goal.returns-clause-asks
returns-clause-asks g c =
    asks g.D.Disk in_log (within g c) c.args.self.now c.self.view_is (sym c.is_stopped.ensures ∙ c.if-is_stopped.false) c.tail_block.new.self c.tail_block.result c.tail_block.ensures.asks

pub returns-clause-block : goal.returns-clause-block
returns-clause-block g c n holds =
    block_of_all g.D.Disk (within g c) c.args.self.now c.self.view_is n holds c.args.index c.tail_block.result c.tail_block.ensures.block

pub returns-clause-whole : goal.returns-clause-whole
returns-clause-whole g c n holds =
    base_of_all g.D.Disk (within g c) c.args.self.now c.self.view_is n holds (λ _. c.tail_block.result ≢ Err (Corrupt in_log)) c.tail_block.ensures.whole

pub returns-then-is_stopped-clause-spelled : goal.returns-then-is_stopped-clause-spelled
returns-then-is_stopped-clause-spelled g c honest = no_block _ _ _ _

pub returns-clause-fits : goal.returns-clause-fits
returns-clause-fits g c other = subst (λ (r : Replica g.row.D.Denot). r.engine.log.next < 2 ^ 64) c.self.view_is (c.tail_block.ensures.fits other)

pub returns-then-is_stopped-clause-asked : goal.returns-then-is_stopped-clause-asked
returns-then-is_stopped-clause-asked g c = asked_none g.D.Disk c.args.self.now

pub returns-clause-asked : goal.returns-clause-asked
returns-clause-asked g c =
    is_asked g.D.Disk in_log c.args.self.now _ c.tail_block.result (returns-clause-asks g c) (returns-clause-holds g c)
