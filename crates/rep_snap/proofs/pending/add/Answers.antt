use Rattle.std.proofs.Common.{◌∙◌, sym, ap, subst, ◌++◌, ◌∷◌, [], drop, fold}
use Rattle.rep_snap.specs.declared.shelf.Shelf.{Shelf}
use Rattle.rep_snap.specs.declared.shelf.Step.{Step}
use Rattle.rep_snap.specs.Shelves.{changed}
use Rattle.rep_snap.specs.Views.{Telling}
use Rattle.rep_snap.specs.Rule.{Leads}
use Rattle.rep_snap.proofs.Ruling.{leads_more}
use Rattle.rep_snap.proofs.pending.add.Goals as goal

pub returns-in-Ok-clause-leads : goal.returns-in-Ok-clause-leads
returns-in-Ok-clause-leads g c =
    let old = c.args.writer.now in
    let new = c.append.new.self in
    let step : Step = record { change = c.args.change; seen = c.extend.new.seen } in
    let longer : Telling = record { book = c.again.result.book; list = c.again.result.log } in
    let history = sym c.told.view_is in
    let added = c.if-not-extend.ensures in
    subst (λ (x : Shelf g.row.A.Denot). Leads x (fold changed x (drop new.behind new.log.items)) longer) (sym (ap (λ d. d.shown.value) c.in-Ok.ensures.desk))
    (leads_more old.desk.shown.value _ _ c.args.told longer step c.in-Ok.ensures.pending (ap (λ s. record { book = s.book; list = s.log }) c.again.ensures) c.requires.leads
    (added.book.0 ∙ sym (ap (λ t. t.book) history)) (added.added ∙ sym (ap (λ t. t.list ++ c.args.change ∷ []) history)) c.requires.follows)
