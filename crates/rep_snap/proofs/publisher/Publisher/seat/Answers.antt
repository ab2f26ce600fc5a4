use Rattle.std.proofs.Common.{rules, ◌≡◌, ◌∙◌, sym, ap, subst, length, vec_len, IfOk, IfSome}
use Rattle.std.proofs.lemmas.List.Elements.{All-pop}
use Rattle.rep_snap.specs.Views.{Listing, Watching, newcomer, unaware}
use Rattle.rep_snap.proofs.Looking.{newcomer_is}
use Rattle.rep_snap.proofs.Showing.{refused_as}
use Rattle.rep_snap.proofs.publisher.Publisher.seat.Goals as goal

pub invariant_of-self : goal.invariant_of-self
invariant_of-self g c =
    let kept = c.self.invariant in
    let popped = All-pop (λ (r : Watching g.row.A.Denot). r ≡ newcomer c.self.inside.opening) c.self.inside.ready.items c.pop.new.self.items c.pop.result c.pop.ensures.items kept.6 in
    (kept.0, kept.1, kept.2, kept.3, kept.4, kept.5, popped.0)

pub returns-in-Some-clause-reader : goal.returns-in-Some-clause-reader
returns-in-Some-clause-reader g c =
    let kept = c.self.invariant in
    let popped = All-pop (λ (r : Watching g.row.A.Denot). r ≡ newcomer c.self.inside.opening) c.self.inside.ready.items c.pop.new.self.items c.pop.result c.pop.ensures.items kept.6 in
    subst (λ o. IfSome o (λ (r : Watching g.row.A.Denot). r ≡ newcomer c.self.inside.opening)) c.in-Some.is popped.1 ∙ newcomer_is _ _ _ _ _ kept.4 c.self.view_is

pub invariant_of-self-2 : goal.invariant_of-self-2
invariant_of-self-2 g c =
    let kept = c.self.invariant in
    let popped = All-pop (λ (r : Watching g.row.A.Denot). r ≡ newcomer c.self.inside.opening) c.self.inside.ready.items c.pop.new.self.items c.pop.result c.pop.ensures.items kept.6 in
    (kept.0, kept.1, kept.2, kept.3, kept.4, kept.5, popped.0)

pub returns-clause-reader : goal.returns-clause-reader
returns-clause-reader g c = subst (λ (u : Watching g.row.A.Denot). IfOk c.newcomer.result (λ r. r ≡ u)) (ap unaware c.self.view_is) c.newcomer.ensures.reader

pub returns-clause-refused : goal.returns-clause-refused
returns-clause-refused g c =
    let counted : vec_len c.self.inside.ready ≡ length c.self.inside.ready.items = search rules in
    let none = sym (ap (λ (p : Listing g.row.A.Denot). p.ready) c.self.view_is) ∙ sym counted ∙ c.in_default.ensures.cases.0 in
    refused_as c.newcomer.result _ _ none c.newcomer.ensures.refused
