use Rattle.std.proofs.Common.{◌≡◌, ◌∙◌, sym, ap, subst, List, Some, drop}
use Rattle.rep_snap.specs.declared.change.Change.{Change}
use Rattle.rep_snap.specs.declared.shelf.Sight.{Sight}
use Rattle.rep_snap.specs.declared.shelf.Shelf.{Shelf}
use Rattle.rep_snap.specs.Book.{head_of}
use Rattle.rep_snap.specs.Lists.{published, front_of}
use Rattle.rep_snap.specs.Views.{Later}
use Rattle.rep_snap.specs.Rule.{Knows, Sound}
use Rattle.rep_snap.proofs.Looking.{at_itself}
use Rattle.rep_snap.proofs.Ruling.{admits, forks, merges}
use Rattle.rep_snap.proofs.publisher.Publisher.newcomer.Goals as goal

pub reader-requires : goal.reader-requires
reader-requires g c = admits g.A.Admits.allows

pub tell-requires : goal.tell-requires
tell-requires g c = forks g.A.Admits.allows _ _

pub learn-requires-clause-rule : goal.learn-requires-clause-rule
learn-requires-clause-rule g c = merges g.A.Admits.allows _ _ _ _

pub invariant_of-self : goal.invariant_of-self
invariant_of-self g c =
    let kept = c.self.invariant in
    let told = c.tell.ensures.kept in
    let same : c.tell.new.self.desk.shown.value ≡ c.self.inside.writer.desk.shown.value = ap (λ p. p.value) told.0 in
    let now = sym same in (
      kept.0 ∙ ap (λ (x : Shelf g.row.A.Denot). head_of x.sight.seen.book) now,
      subst (Sound g.A.Admits.allows) now kept.1,
      told.3 ∙ kept.2 ∙ ap (λ (x : Shelf g.row.A.Denot). Some x.sight) now,
      λ ok. (λ i. drop (told.2 i) (told.1 i).items) ∙ kept.3 ok,
      subst (λ (x : Shelf g.row.A.Denot). Later c.self.inside.opening x.sight) now kept.4,
      kept.5,
      kept.6,
    )

pub invariant_of-result-2 : goal.invariant_of-result-2
invariant_of-result-2 g c =
    let allows = g.A.Admits.allows in
    let kept = c.self.invariant in
    let now : c.learn.new.self.place.me.0.client ≡ Some c.self.inside.writer.desk.shown.value.sight = c.learn.ensures.1 ∙ c.tell.ensures.given.1 ∙ kept.2 in
    let later = subst (λ (t : Sight g.row.A.Denot). Later t c.self.inside.writer.desk.shown.value.sight) (sym c.again.ensures) kept.4 in (
      at_itself (Knows allows c.learn.new.self.place.me.0.client) c.again.result _ (subst (λ v. Knows allows v c.again.result) (sym now) later),
      sym (ap (λ (t : Sight g.row.A.Denot). front_of t.start (published t.seen.log)) c.again.ensures ∙ ap (λ (l : List Change). front_of c.self.inside.opening.start (published l)) kept.5),
      ap (λ s. s.book) c.again-2.ensures ∙ sym (ap (λ (t : Sight g.row.A.Denot). t.seen.book) c.again.ensures),
    )
