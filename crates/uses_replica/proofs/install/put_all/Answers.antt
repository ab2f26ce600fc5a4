use Rattle.std.proofs.Common.{◌∙◌, List, Result, refl, sym, subst}
use Rattle.std.specs.Prelude.{IsOk}
use Rattle.rep_pages.specs.Rows.{Rows}
use Rattle.rep_types.specs.declared.refusal.Refusal.{Refusal}
use Rattle.rep_types.specs.declared.refusal.Refusal.TheVariants.{Malformed}
use Rattle.rep_types.proofs.Lists.{empty_by_length}
use Rattle.uses_replica.specs.Bringing.{PutsAll}
use Rattle.uses_replica.proofs.Bringing.{Put, put_none, put_more, put_refused, put_all, put_some, ok_of, refused_page, same_coming, by_err}
use Rattle.uses_replica.proofs.install.put_all.Goals as goal

pub loop-page-init : goal.loop-page-init
loop-page-init g c = put_none g.D.Disk c.args.pages.items c.args.installation.now c.into_iter-page-iterator.result.rest.items c.into_iter-page-iterator.ensures.into_iter_gives.0

pub returns-then-not-takes : goal.returns-then-not-takes
returns-then-not-takes g c = put_some g.D.Disk c.args.pages.items c.args.installation.now c.loop-page.page-iterator.rest.items c.loop-page.installation (Malformed 0) c.loop-page.invariant

pub loop-page-preserved : goal.loop-page-preserved
loop-page-preserved g c =
    let now = c.loop-page.installation in
    let put = subst (λ (ps : List (_ × Rows)). Put g.D.Disk c.args.pages.items ps c.args.installation.now now) c.in-Some.ensures.steps.0 c.loop-page.invariant in
    let ok : IsOk c.put_page.result = subst IsOk (sym c.in_ok-put_page.was) refl in
    put_more g.D.Disk c.args.pages.items c.args.installation.now c.next.new.self.rest.items now c.put_page.new.self c.in-Some.page c.in-Some.rows put c.put_page.ensures.rest c.put_page.ensures.leaves (ok_of c.put_page.result ok c.put_page.ensures.done) (λ n y h. ok_of c.put_page.result ok (c.put_page.ensures.holds n y h))

pub returns-in_err-put_page : goal.returns-in_err-put_page
returns-in_err-put_page g c =
    let now = c.loop-page.installation in
    let put = subst (λ (ps : List (_ × Rows)). Put g.D.Disk c.args.pages.items ps c.args.installation.now now) c.in-Some.ensures.steps.0 c.loop-page.invariant in
    let e = c.in_err-put_page.field-0.0 in
    by_err (λ (r : Result (Unit {0}) Refusal). PutsAll g.D.Disk c.args.pages.items c.args.installation.now c.put_page.new.self r) c.from_residual.result c.from_residual.ensures.0
    (λ r. put_refused g.D.Disk c.args.pages.items c.args.installation.now c.next.new.self.rest.items now c.put_page.new.self c.in-Some.page c.in-Some.rows put c.put_page.ensures.rest c.put_page.ensures.leaves r (same_coming c.put_page.result e c.in_err-put_page.was c.put_page.ensures.fault)
    (refused_page g.D.Disk now c.put_page.new.self now.engine.log.phase c.put_page.result e c.in_err-put_page.was now.engine.halted c.put_page.ensures.stopped c.put_page.ensures.running))

pub returns : goal.returns
returns g c =
    let none = empty_by_length c.loop-page.page-iterator.rest.items (sym c.loop-page.page-iterator.rest.ok.0 ∙ c.in-None.ensures.steps.0) in
    put_all g.D.Disk c.args.pages.items c.args.installation.now c.loop-page.installation (subst (λ (ps : List (_ × Rows)). Put g.D.Disk c.args.pages.items ps c.args.installation.now c.loop-page.installation) none c.loop-page.invariant)
