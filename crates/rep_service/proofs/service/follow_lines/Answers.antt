use Rattle.std.proofs.Common.{◌∙◌, Bool, Ok, Err, ap, refl}
use Rattle.rep_lines.specs.Feeds.{ahead}
use Rattle.rep_follow.specs.declared.following.End.{End}
use Rattle.rep_service.proofs.Noting.{by_either}
use Rattle.rep_service.proofs.Following.{followed_text, followed_line, followed_not}
use Rattle.rep_service.proofs.service.follow_lines.Goals as goal

pub returns-in-Err-clause-notes : goal.returns-in-Err-clause-notes
returns-in-Err-clause-notes g c = by_either End Bool _ _ _ _ _ _ c.in-Err.refusal refl refl c.in-Err.ensures.notes

pub returns-in-Ok-Text-clause-lives : goal.returns-in-Ok-Text-clause-lives
returns-in-Ok-Text-clause-lives g c =
    followed_text g.D.Disk c.parts_are_joined.ensures _ _ _ _ _ _ _ _ _ _ _ _ _ c.follow_items-ended.result _ _ (ap (λ i. ahead i.feed (g.R.Source.remaining c.follow_items-ended.new.source)) c.count.ensures) c.follow_items-ended.ensures.follows
    c.in-Ok-Text.field-0 c.in-Ok-Text.is (rw c.in-Ok-Text.is at c.in-Ok-Text.field-0-is)

pub returns-in-Err-clause-lives : goal.returns-in-Err-clause-lives
returns-in-Err-clause-lives g c =
    followed_not g.D.Disk c.parts_are_joined.ensures _ _ _ _ _ _ _ _ _ _ _ _ _ c.follow_items-ended.result _ _ (ap (λ i. ahead i.feed (g.R.Source.remaining c.follow_items-ended.new.source)) c.count.ensures) c.follow_items-ended.ensures.follows c.in-Err.refusal c.in-Err.is

pub returns-in-Ok-clause-lives : goal.returns-in-Ok-clause-lives
returns-in-Ok-clause-lives g c =
    followed_line g.D.Disk c.parts_are_joined.ensures _ _ _ _ _ _ _ _ _ _ _ _ _ c.follow_items-ended.result _ _ (ap (λ i. ahead i.feed (g.R.Source.remaining c.follow_items-ended.new.source)) c.count-2.ensures ∙ ap (λ i. ahead i.feed (g.R.Source.remaining c.follow_items-ended.new.source)) c.count.ensures) c.follow_items-ended.ensures.follows
    c.in-Ok-Line.field-0 c.in-Ok-Line.is (rw c.in-Ok-Line.is at c.in-Ok-Line.field-0-is) _ (ap (λ i. i.line.items) c.count-2.ensures ∙ ap (λ i. i.line.items) c.count.ensures) _ _ _ (Ok tt) c.in-Ok.ensures.takes

pub returns-in-Err-follow_line-clause-lives : goal.returns-in-Err-follow_line-clause-lives
returns-in-Err-follow_line-clause-lives g c =
    followed_line g.D.Disk c.parts_are_joined.ensures _ _ _ _ _ _ _ _ _ _ _ _ _ c.follow_items-ended.result _ _ (ap (λ i. ahead i.feed (g.R.Source.remaining c.follow_items-ended.new.source)) c.count-2.ensures ∙ ap (λ i. ahead i.feed (g.R.Source.remaining c.follow_items-ended.new.source)) c.count.ensures) c.follow_items-ended.ensures.follows
    c.in-Ok-Line.field-0 c.in-Ok-Line.is (rw c.in-Ok-Line.is at c.in-Ok-Line.field-0-is) _ (ap (λ i. i.line.items) c.count-2.ensures ∙ ap (λ i. i.line.items) c.count.ensures) _ _ _ (Err c.in-Err-follow_line.refusal) c.in-Err-follow_line.ensures.takes
