use Rattle.std.proofs.Common.{◌∙◌, sym, ap, subst}
use mathlib.Core.List.{IsPrefix}
use Rattle.rep_snap.specs.declared.shelf.Sight.{Sight}
use Rattle.rep_snap.specs.declared.shelf.Shelf.{Shelf}
use Rattle.rep_snap.specs.Rule.{Sound, Knows}
use Rattle.rep_snap.proofs.Ruling.{looks}
use Rattle.rep_snap.proofs.Looking.{knew}
use Rattle.rep_snap.proofs.copies.TwoCopiesDoor.enter.Goals as goal

pub enter_as-requires : goal.enter_as-requires
enter_as-requires g c x = looks g.A.Admits.allows _ _ x

pub begins_with-requires : goal.begins_with-requires
begins_with-requires g c =
    let allows = g.A.Admits.allows in
    let shown = c.in-Ok.ensures.1 in
    let here = sym c.get.ensures in
    let s : Sight g.row.A.Denot = c.requires.0 in
    let later = knew allows _ s _ (subst (λ v. Knows allows v s) (sym c.self.view_is) c.requires.1) shown.later in record {
      book = c.requires.2 ∙ sym later.book ∙ ap (λ (z : Shelf g.row.A.Denot). z.sight.seen.book) here;
      count = (subst (Sound allows) here shown.sound).shows.count;
    }

pub returns-in-Err : goal.returns-in-Err
returns-in-Err g c = (λ s known. subst (λ v. Knows g.A.Admits.allows v s) (sym (c.in-Err.ensures.1 ∙ c.self.view_is)) known, tt)

pub returns-then-not-begins_with : goal.returns-then-not-begins_with
returns-then-not-begins_with g c =
    let allows = g.A.Admits.allows in
    let shown = c.in-Ok.ensures.1 in
    (λ s known. subst (λ v. Knows allows v s) (sym (c.leave.ensures.1 ∙ shown.now)) (knew allows _ s _ (subst (λ v. Knows allows v s) (sym c.self.view_is) known) shown.later), tt)

pub returns : goal.returns
returns g c =
    let allows = g.A.Admits.allows in
    let shown = c.in-Ok.ensures.1 in record {
      sound = shown.sound;
      later = λ s known. knew allows _ s _ (subst (λ v. Knows allows v s) (sym c.self.view_is) known) shown.later;
      told = subst (λ (z : Shelf g.row.A.Denot). IsPrefix c.args.told.now.list z.sight.seen.log) c.get.ensures c.if-not-begins_with.ensures;
    }
