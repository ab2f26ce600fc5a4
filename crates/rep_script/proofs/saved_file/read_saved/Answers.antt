use Rattle.std.proofs.Common.{ap, ◌∙◌, inr}
use Rattle.std.proofs.lemmas.Result.{err_from_is_err_and}
use Rattle.rep_script.specs.SavedTexts.{saved_within}
use Rattle.rep_streams.proofs.Noted.{noted_ok}
use Rattle.rep_script.proofs.SavedTexts.{front_read_as, front_long, front_unread}
use Rattle.rep_script.proofs.saved_file.read_saved.Goals as goal

pub returns-in_err-text-clause-read : goal.returns-in_err-text-clause-read
returns-in_err-text-clause-read g c =
    let p = err_from_is_err_and c.from_residual.result c.from_residual.ensures.1 in
    rw (p.1, p.2) (front_unread (g.R.Source.remaining c.args.source.now) c.in_err-text.field-0.0 (rw c.in_err-text.was at c.read_front.ensures.refused))

pub returns-clause-read : goal.returns-clause-read
returns-clause-read g c =
    front_read_as (g.R.Source.remaining c.args.source.now) c.in_ok-text.text.items c.parse_within.result c.in_ok-text.ensures.front
    (c.parse_within.ensures.value ∙ ap saved_within c.deref.ensures.value)

pub returns-clause-notes : goal.returns-clause-notes
returns-clause-notes g c = record {
  fault = λ is. inr (front_long (g.R.Source.remaining c.args.source.now) c.in_ok-text.text.items c.in_ok-text.ensures.front (rw c.deref.ensures.value at (c.parse_within.ensures.long is)));
  fine = λ other. noted_ok _ _ _ c.in_ok-text.ensures.notes;
}
