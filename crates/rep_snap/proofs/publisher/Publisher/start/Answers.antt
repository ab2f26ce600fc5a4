use Rattle.std.proofs.Common.{◌≡◌, ◌∙◌, sym, ap, subst, refl, None, [], ◌∷◌, fold}
use Rattle.crossbeam_utils.specs.Register.{TurnsAt}
use Rattle.rep_snap.specs.declared.shelf.Shelf.{Shelf}
use Rattle.rep_snap.specs.Shelves.{changed}
use Rattle.rep_snap.specs.Rule.{Keeps, Shown}
use Rattle.rep_snap.proofs.Changing.{sound_first}
use Rattle.rep_snap.proofs.Ruling.{begins, looks}
use Rattle.rep_snap.proofs.Showing.{shown_stays, is_opened}
use Rattle.rep_snap.proofs.publisher.Publisher.start.Goals as goal

pub new-requires-clause-rule : goal.new-requires-clause-rule
new-requires-clause-rule g c =
    let allows = g.A.Admits.allows in
    subst (λ (x : Shelf g.row.A.Denot). Keeps allows x (None ∷ [])) (sym c.first_shelf-first.ensures)
    (begins allows _ (sound_first allows _ c.open-seen.ensures.1 refl refl refl refl (g.A.Admits.empty c.again.result c.args.position)))

pub publish_as-writer-requires : goal.publish_as-writer-requires
publish_as-writer-requires g c next is =
    let allows = g.A.Admits.allows in
    let x : Shelf g.row.A.Denot = c.in-Ok.writer.desk.shown.value in
    let seat = c.in-Ok.writer.desk.place in
    let same : next ≡ x = is ∙ ap (fold changed x) c.in-Ok.ensures.1 in
    subst (λ (y : Shelf g.row.A.Denot). TurnsAt (Keeps allows) seat.id seat.me.0.client x y (Shown allows)) (sym same) (looks allows seat.id seat.me.0.client x)

pub returns-clause-started : goal.returns-clause-started
returns-clause-started g c =
    let x : Shelf g.row.A.Denot = c.in-Ok.writer.desk.shown.value in
    let shown : Shelf g.row.A.Denot = c.publish_as-writer.result.0.desk.shown.value in
    let stays : shown ≡ x = shown_stays c.publish_as-writer.result.1 x shown _ _ _ c.publish_as-writer.ensures.values (ap (fold changed x) c.in-Ok.ensures.1) in
    let first = stays ∙ c.in-Ok.ensures.0 ∙ c.first_shelf-first.ensures in
    is_opened c.with_ready.result shown.sight c.args.basis c.args.position c.args.readers
    (ap (λ (y : Shelf g.row.A.Denot). y.sight.basis) first ∙ c.again.ensures)
    (ap (λ (y : Shelf g.row.A.Denot). y.sight.start) first)
    (ap (λ (y : Shelf g.row.A.Denot). y.sight.seen.log) first ∙ c.open-seen.ensures.1)
    c.with_ready.ensures.ready
