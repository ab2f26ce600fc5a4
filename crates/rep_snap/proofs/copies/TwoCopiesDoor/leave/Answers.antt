use Rattle.std.proofs.Common.{◌∙◌, sym, ap, subst, Some}
use Rattle.rep_snap.specs.declared.shelf.Shelf.{Shelf}
use Rattle.rep_snap.specs.Rule.{Knows}
use Rattle.rep_snap.proofs.Ruling.{later_self}
use Rattle.rep_snap.proofs.copies.TwoCopiesDoor.leave.Goals as goal

pub returns : goal.returns
returns g c = subst (λ v. Knows g.A.Admits.allows v c.args.inside.sight) (sym (c.leave.ensures.1 ∙ c.inside.invariant ∙ ap (λ (z : Shelf g.row.A.Denot). Some z.sight) c.inside.view_is))
    (later_self c.args.inside.sight)
