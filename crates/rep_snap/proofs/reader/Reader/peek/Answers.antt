use Rattle.std.proofs.Common.{◌≡◌, ◌∙◌, refl, sym, ap, subst, inl}
use mathlib.Core.List.{IsPrefix}
use Rattle.rep_snap.specs.declared.shelf.Sight.{Sight}
use Rattle.rep_snap.specs.declared.shelf.Shelf.{Shelf}
use Rattle.rep_snap.specs.Lists.{published, front_of}
use Rattle.rep_snap.specs.Views.{Later}
use Rattle.rep_snap.specs.Rule.{Sound}
use Rattle.rep_snap.specs.Doors.{FoundShut}
use Rattle.rep_snap.proofs.Looking.{onto, onward, at_itself, peeks, stays, found_shut}
use Rattle.rep_snap.proofs.reader.Reader.peek.Goals as goal

pub enter-requires : goal.enter-requires
enter-requires g c = (c.self.invariant.0.known, c.self.invariant.0.at, c.self.invariant.2 ∙ c.self.invariant.0.later.book)

pub invariant_of-reader : goal.invariant_of-reader
invariant_of-reader g c =
    let at = c.self.invariant.0 in
    (record { known = at.known; at = c.in-Err.ensures.0 at.known at.at; later = at.later; begins = at.begins }, c.self.invariant.1, c.self.invariant.2)

pub returns-in-Err-clause-answer : goal.returns-in-Err-clause-answer
returns-in-Err-clause-answer g c = inl (
  refl,
  c.self.view_is,
  found_shut g.D.Door.knows g.D.Door.shut c.self.inside.sight c.self.inside.told c.args.self c.self.inside.door c.in-Err.door
      c.self.view_is c.self.invariant.0 c.in-Err.ensures.1,
)

pub invariant_of-reader-2 : goal.invariant_of-reader-2
invariant_of-reader-2 g c =
    let allows = g.A.Admits.allows in
    let s : Sight g.row.A.Denot = c.self.inside.sight in
    let y : Shelf g.row.A.Denot = g.D.Door.shown c.in-Ok.inside in
    let opens = c.in-Ok.ensures in
    let later : Later s y.sight = onward _ s c.self.inside.told allows y c.self.invariant.0 opens in
    let here : c.look-shelf.result.now ≡ y = c.look-shelf.ensures in
    let new : c.up_to-sight.result ≡ y.sight = onto allows s y.sight c.up_to-sight.result later (c.up_to-sight.ensures ∙ ap (λ (z : Shelf g.row.A.Denot). record s { seen = z.sight.seen }) here) in (
      at_itself (g.D.Door.knows c.leave.result) c.up_to-sight.result c.self.inside.told (subst (g.D.Door.knows c.leave.result) (sym new) c.leave.ensures),
      ap (λ (z : Shelf g.row.A.Denot). z.front) here ∙ opens.sound.shows.front ∙ ap (λ (t : Sight g.row.A.Denot). front_of t.start (published t.seen.log)) (sym new),
      c.self.invariant.2 ∙ sym later.book ∙ ap (λ (t : Sight g.row.A.Denot). t.seen.book) (sym new),
    )

pub returns-clause-answer : goal.returns-clause-answer
returns-clause-answer g c =
    let allows = g.A.Admits.allows in
    let s : Sight g.row.A.Denot = c.self.inside.sight in
    let x : Shelf g.row.A.Denot = c.look-shelf.result.now in
    let opens = c.in-Ok.ensures in
    let here = sym c.look-shelf.ensures in
    let later : Later s x.sight = subst (λ (z : Shelf g.row.A.Denot). Later s z.sight) here (onward _ s c.self.inside.told allows _ c.self.invariant.0 opens) in
    let new : c.up_to-sight.result ≡ x.sight = onto allows s x.sight c.up_to-sight.result later c.up_to-sight.ensures in
    peeks allows (FoundShut g.D.Door.knows g.D.Door.shut) s c.up_to-sight.result c.self.inside.told x c.args.self c.args.key c.args.snapshot c.look_up-answer.result
    c.self.view_is (subst (Sound allows) here opens.sound) later (subst (λ (z : Shelf g.row.A.Denot). IsPrefix c.self.inside.told.list z.sight.seen.log) here opens.told) new c.look_up-answer.ensures

pub returns-clause-same : goal.returns-clause-same
returns-clause-same g c =
    let allows = g.A.Admits.allows in
    let s : Sight g.row.A.Denot = c.self.inside.sight in
    let x : Shelf g.row.A.Denot = c.look-shelf.result.now in
    let later : Later s x.sight = subst (λ (z : Shelf g.row.A.Denot). Later s z.sight) (sym c.look-shelf.ensures) (onward _ s c.self.inside.told allows _ c.self.invariant.0 c.in-Ok.ensures) in
    stays allows s c.up_to-sight.result c.self.inside.told x c.args.self c.self.view_is later (onto allows s x.sight c.up_to-sight.result later c.up_to-sight.ensures)
