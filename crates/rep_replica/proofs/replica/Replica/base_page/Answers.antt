use Rattle.std.proofs.Common.{◌≡◌, ◌≢◌, None, Err, IfOk, sym, subst, ◌∙◌}
use Rattle.std.specs.Prelude.{IfSome}
use Rattle.rep_types.specs.declared.refusal.Refusal.TheVariants.{Corrupt}
use Rattle.rep_types.specs.declared.refusal.Part.TheVariants.{Pages as in_pages}
use Rattle.rep_types.specs.Order.{State}
use Rattle.rep_layout.specs.declared.page_state.PageState.TheVariants.{Nowhere}
use Rattle.rep_pages.specs.Slots.{state_of_page}
use Rattle.rep_recover.specs.Donating.{IsBasePage, HasNoRow}
use Rattle.rep_replica.specs.Replicas.{Replica}
use Rattle.rep_replica.proofs.Donating.{asks, holds_on, base_of_all, holds_running, no_page}
use Rattle.rep_replica.proofs.Asking.{asked_none, is_asked}
use Rattle.rep_replica.proofs.replica.Replica.base_page.Goals as goal

abbrev within : (g : _) (c : goal.After-base_page g) → Replica g.row.D.Denot
within g c = record { engine = c.self.inside.engine; backlog = c.self.inside.backlog; certifier = c.self.inside.certifier; stopped = c.self.inside.stopped }

pub returns-clause-page : goal.returns-clause-page
returns-clause-page g c n holds =
    subst (λ (r : Replica g.row.D.Denot). IfOk c.base_page.result (λ found. IfSome found (IsBasePage r.engine.checkpoint.base n.base.content c.args.page))) c.self.view_is
    (base_of_all g.D.Disk (within g c) c.args.self.now c.self.view_is n holds
    (λ (S : State). IfOk c.base_page.result (λ found. IfSome found (IsBasePage c.self.inside.engine.checkpoint.base S.content c.args.page))) c.base_page.ensures.page)

pub returns-clause-asks : goal.returns-clause-asks
returns-clause-asks g c =
    asks g.D.Disk in_pages (within g c) c.args.self.now c.self.view_is (sym c.is_stopped.ensures ∙ c.if-is_stopped.false) c.base_page.new.self c.base_page.result c.base_page.ensures.asks

pub returns-clause-absent : goal.returns-clause-absent
returns-clause-absent g c n holds =
    subst (λ (r : Replica g.row.D.Denot). r.engine.halted ≡ None → state_of_page r.engine.checkpoint.base c.args.page ≡ Nowhere → HasNoRow r.engine.checkpoint.base n.base.content c.args.page) c.self.view_is
    (base_of_all g.D.Disk (within g c) c.args.self.now c.self.view_is n holds
    (λ (S : State). c.self.inside.engine.halted ≡ None → state_of_page c.self.inside.engine.checkpoint.base c.args.page ≡ Nowhere → HasNoRow c.self.inside.engine.checkpoint.base S.content c.args.page) c.base_page.ensures.absent)

pub returns-clause-holds : goal.returns-clause-holds
returns-clause-holds g c n holds other =
    holds_on g.D.Disk in_pages (within g c) c.args.self.now c.self.view_is (sym c.is_stopped.ensures ∙ c.if-is_stopped.false) c.base_page.new.self c.base_page.result c.base_page.ensures.asks n
    c.base_page.ensures.holds holds other

pub returns-then-is_stopped-clause-absent : goal.returns-then-is_stopped-clause-absent
returns-then-is_stopped-clause-absent g c n holds none = absurd (holds_running g.D.Disk c.args.self.now n holds none (sym c.is_stopped.ensures ∙ c.if-is_stopped.true))

pub returns-clause-whole : goal.returns-clause-whole
returns-clause-whole g c n holds =
    base_of_all g.D.Disk (within g c) c.args.self.now c.self.view_is n holds (λ _. c.base_page.result ≢ Err (Corrupt in_pages)) c.base_page.ensures.whole

pub returns-then-is_stopped-clause-spelled : goal.returns-then-is_stopped-clause-spelled
returns-then-is_stopped-clause-spelled g c honest = no_page _ c.args.self.now.engine.checkpoint.base c.args.page in_pages

pub returns-then-is_stopped-clause-asked : goal.returns-then-is_stopped-clause-asked
returns-then-is_stopped-clause-asked g c = asked_none g.D.Disk c.args.self.now

pub returns-clause-asked : goal.returns-clause-asked
returns-clause-asked g c =
    is_asked g.D.Disk in_pages c.args.self.now _ c.base_page.result (returns-clause-asks g c) (returns-clause-holds g c)
