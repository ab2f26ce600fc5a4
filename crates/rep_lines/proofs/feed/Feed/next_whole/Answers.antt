use Rattle.std.proofs.Common.{◌∙◌, ◌++◌, ◌∷◌, ◌+◌, sym, ap, arith, refl, slice_range}
use Rattle.std.specs.List.{list_any}
use Rattle.rep_lines.specs.Lines.{is_feed, clipped}
use Rattle.rep_lines.proofs.Clipping.{any_clipped}
use Rattle.rep_lines.proofs.Places.{not_found}
use Rattle.rep_lines.proofs.Ranges.{line_taken}
use Rattle.rep_lines.proofs.Ahead.{line_ahead}
use Rattle.rep_lines.proofs.feed.Feed.next_whole.Goals as goal

pub returns-in_default-clause-none : goal.returns-in_default-clause-none
returns-in_default-clause-none c e =
    let raw = slice_range c.self.inside.buffer c.self.inside.start c.self.inside.end in
    (ap (list_any is_feed) (sym c.self.view_is) ∙ any_clipped 0 raw ∙ not_found raw (sym c.feed_place.ensures ∙ c.in_default.is), refl, refl)

pub returns-clause-handed : goal.returns-clause-handed
returns-clause-handed c e =
    let at = line_taken c.self.inside.buffer c.self.inside.start c.self.inside.end c.in-Some.place c.min-kept.result c.self.invariant.0
    (omega (arith, c.self.told, c.self.invariant.1)) (sym c.feed_place.ensures ∙ c.in-Some.is) c.min-kept.ensures in
    let rest = clipped (slice_range c.self.inside.buffer (c.self.inside.start + (c.in-Some.place + 1)) c.self.inside.end) in
    (sym c.self.view_is ∙ at.0 ∙ ap (λ l. l ++ 10 ∷ rest) (sym c.set_line.ensures), ap (list_any is_feed) c.set_line.ensures ∙ at.1)

pub returns-clause-ahead : goal.returns-clause-ahead
returns-clause-ahead c e left =
    let at = line_taken c.self.inside.buffer c.self.inside.start c.self.inside.end c.in-Some.place c.min-kept.result c.self.invariant.0
    (omega (arith, c.self.told, c.self.invariant.1)) (sym c.feed_place.ensures ∙ c.in-Some.is) c.min-kept.ensures in
    let rest = clipped (slice_range c.self.inside.buffer (c.self.inside.start + (c.in-Some.place + 1)) c.self.inside.end) in
    line_ahead _ _ rest left (sym c.self.view_is ∙ at.0 ∙ ap (λ l. l ++ 10 ∷ rest) (sym c.set_line.ensures))
