use Rattle.std.proofs.Common.{◌∙◌, sym, ap, subst}
use Rattle.rep_snap.specs.declared.shelf.Shelf.{Shelf}
use Rattle.rep_snap.specs.Book.{head_of}
use Rattle.rep_snap.specs.Lists.{published}
use Rattle.rep_snap.specs.Views.{Later, telling}
use Rattle.rep_snap.proofs.Lists.{published-prune}
use Rattle.rep_snap.proofs.Ruling.{later_trans, sound_next}
use Rattle.rep_snap.proofs.Showing.{all_shown}
use Rattle.rep_snap.proofs.publisher.Publisher.prune.Goals as goal

pub show-writer-requires-clause-next : goal.show-writer-requires-clause-next
show-writer-requires-clause-next g c =
    let told = c.tell-told.ensures ∙ sym (ap telling c.self.view_is) in
    sound_next g.A.Admits.allows c.self.inside.writer.desk.shown.value _ _ c.in-Ok.field-0 _ (ap (λ d. d.shown.value) c.add.ensures.desk) c.in-Ok.ensures.leads
    (ap (λ t. published t.list) c.in-Ok.ensures.told ∙ published-prune c.tell-told.result.list _ ∙ ap (λ t. published t.list) told) c.self.invariant.1.allowed

pub invariant_of-self-2 : goal.invariant_of-self-2
invariant_of-self-2 g c =
    let kept = c.self.invariant in
    let shown = c.show-writer.ensures in
    let now : Shelf g.row.A.Denot = c.show-writer.result.0.desk.shown.value in
    let later = subst (λ (x : Shelf g.row.A.Denot). Later x.sight now.sight) (ap (λ d. d.shown.value) c.add.ensures.desk) shown.later in (
      kept.0 ∙ ap head_of (sym later.book),
      shown.sound,
      shown.seen,
      all_shown c.show-writer.result.1 _ _ _ _ c.is_err.ensures.value shown.shown,
      later_trans c.self.inside.opening c.self.inside.writer.desk.shown.value.sight now.sight kept.4 later,
      kept.5,
      kept.6,
    )
