use Rattle.std.proofs.Common.{sym, ap, ◌∙◌, slice_range}
use Rattle.std.specs.List.{list_any}
use Rattle.std.specs.Option.{is_some}
use Rattle.rep_lines.specs.Lines.{is_feed}
use Rattle.rep_lines.proofs.Clipping.{any_clipped}
use Rattle.rep_lines.proofs.Places.{found_any}
use Rattle.rep_lines.proofs.feed.Feed.has_line.Goals as goal

pub returns : goal.returns
returns c =
    let raw = slice_range c.self.inside.buffer c.self.inside.start c.self.inside.end in
    c.is_some.ensures ∙ ap is_some c.feed_place.ensures ∙ found_any raw ∙ sym (any_clipped 0 raw) ∙ ap (list_any is_feed) c.self.view_is
