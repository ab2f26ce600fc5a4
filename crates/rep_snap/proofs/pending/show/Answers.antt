use Rattle.std.proofs.Common.{◌≡◌, rules, sym, subst}
use Rattle.crossbeam_utils.specs.Register.{TurnsAt}
use Rattle.rep_snap.specs.declared.shelf.Shelf.{Shelf}
use Rattle.rep_snap.specs.Rule.{Keeps, Shown}
use Rattle.rep_snap.specs.Views.{Later}
use Rattle.rep_snap.proofs.Ruling.{later_self, steps}
use Rattle.rep_snap.proofs.pending.show.Goals as goal

pub publish_as-writer-requires : goal.publish_as-writer-requires
publish_as-writer-requires g c next is =
    let allows = g.A.Admits.allows in
    let desk = c.args.writer.desk in
    subst (λ (y : Shelf g.row.A.Denot). TurnsAt (Keeps allows) desk.place.id desk.place.me.0.client desk.shown.value y (Shown allows)) (sym is)
    (steps allows desk.place.id desk.place.me.0.client desk.shown.value _ (λ _. (c.requires.next, c.requires.later)))

pub returns-in-Err-clause-later : goal.returns-in-Err-clause-later
returns-in-Err-clause-later g c =
    let new = c.publish_as-writer.result.0 in
    let same : new.desk.shown.value ≡ c.args.writer.desk.shown.value = search rules in
    subst (λ (x : Shelf g.row.A.Denot). Later c.args.writer.desk.shown.value.sight x.sight) (sym same) (later_self c.args.writer.desk.shown.value.sight)
