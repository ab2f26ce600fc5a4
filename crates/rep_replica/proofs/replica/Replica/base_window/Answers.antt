use Rattle.std.proofs.Common.{◌≡◌, ◌≢◌, Err, IfOk, sym, ◌∙◌}
use Rattle.rep_types.specs.declared.refusal.Refusal.TheVariants.{Corrupt}
use Rattle.rep_types.specs.declared.refusal.Part.TheVariants.{Window as in_window}
use Rattle.rep_types.specs.Order.{State}
use Rattle.rep_replica.specs.Replicas.{Replica}
use Rattle.rep_replica.proofs.Donating.{asks, holds_on, base_of_all, no_window}
use Rattle.rep_replica.proofs.Asking.{asked_none, is_asked}
use Rattle.rep_replica.proofs.replica.Replica.base_window.Goals as goal

abbrev within : (g : _) (c : goal.After-base_window g) → Replica g.row.D.Denot
within g c = record { engine = c.self.inside.engine; backlog = c.self.inside.backlog; certifier = c.self.inside.certifier; stopped = c.self.inside.stopped }

pub returns-clause-asks : goal.returns-clause-asks
returns-clause-asks g c =
    asks g.D.Disk in_window (within g c) c.args.self.now c.self.view_is (sym c.is_stopped.ensures ∙ c.if-is_stopped.false) c.base_window.new.self c.base_window.result c.base_window.ensures.asks

pub returns-clause-window : goal.returns-clause-window
returns-clause-window g c n holds =
    base_of_all g.D.Disk (within g c) c.args.self.now c.self.view_is n holds (λ (S : State). IfOk c.base_window.result (λ w. w.kept ≡ S.kept)) c.base_window.ensures.window

pub returns-clause-holds : goal.returns-clause-holds
returns-clause-holds g c n holds other =
    holds_on g.D.Disk in_window (within g c) c.args.self.now c.self.view_is (sym c.is_stopped.ensures ∙ c.if-is_stopped.false) c.base_window.new.self c.base_window.result c.base_window.ensures.asks n
    c.base_window.ensures.holds holds other

pub returns-clause-whole : goal.returns-clause-whole
returns-clause-whole g c n holds =
    base_of_all g.D.Disk (within g c) c.args.self.now c.self.view_is n holds (λ _. c.base_window.result ≢ Err (Corrupt in_window)) c.base_window.ensures.whole

pub returns-then-is_stopped-clause-spelled : goal.returns-then-is_stopped-clause-spelled
returns-then-is_stopped-clause-spelled g c honest = no_window _ c.args.self.now.engine.checkpoint.base in_window

pub returns-then-is_stopped-clause-asked : goal.returns-then-is_stopped-clause-asked
returns-then-is_stopped-clause-asked g c = asked_none g.D.Disk c.args.self.now

pub returns-clause-asked : goal.returns-clause-asked
returns-clause-asked g c =
    is_asked g.D.Disk in_window c.args.self.now _ c.base_window.result (returns-clause-asks g c) (returns-clause-holds g c)
