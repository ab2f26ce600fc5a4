use Rattle.std.proofs.Common.{◌≡◌, ◌∙◌, sym, ap, arith, slice_range, rules, false, true}
use Rattle.std.specs.List.{list_any}
use Rattle.std.specs.Prelude.{nat_lt}
use Rattle.std.proofs.lemmas.Bool.{ltb-false, ltb-true}
use Rattle.rep_lines.specs.Lines.{is_feed}
use Rattle.rep_lines.proofs.Clipping.{any_clipped}
use Rattle.rep_lines.proofs.Ranges.{range_same, range_none}
use Rattle.rep_lines.proofs.Ahead.{same_ahead, read_ahead, reads_more}
use Rattle.rep_lines.proofs.feed.Feed.more.Goals as goal

pub returns-in_err-count-clause-ahead : goal.returns-in_err-count-clause-ahead
returns-in_err-count-clause-ahead g c =
    let raw = slice_range c.self.inside.buffer c.self.inside.start c.self.inside.end in
    let none = sym (any_clipped 0 raw) ∙ ap (list_any is_feed) c.self.view_is ∙ sym c.has_line.ensures ∙ c.if-has_line.false in
    let front = c.in_err-count.ensures.front ∙ c.move_to_front-self-inside.ensures.front in
    same_ahead _ _ _ _ (range_same _ raw c.read_behind.new.buffer c.move_to_front-self-inside.result (sym c.self.view_is) none front) c.in_err-count.ensures.kept

pub returns-in_err-count-clause-err : goal.returns-in_err-count-clause-err
returns-in_err-count-clause-err g c =
    let raw = slice_range c.self.inside.buffer c.self.inside.start c.self.inside.end in
    let none = sym (any_clipped 0 raw) ∙ ap (list_any is_feed) c.self.view_is ∙ sym c.has_line.ensures ∙ c.if-has_line.false in
    let front = c.in_err-count.ensures.front ∙ c.move_to_front-self-inside.ensures.front in
    let same = range_same _ raw c.read_behind.new.buffer c.move_to_front-self-inside.result (sym c.self.view_is) none front in
    search (rules, same)

pub returns-clause-ahead : goal.returns-clause-ahead
returns-clause-ahead g c =
    let raw = slice_range c.self.inside.buffer c.self.inside.start c.self.inside.end in
    let none = sym (any_clipped 0 raw) ∙ ap (list_any is_feed) c.self.view_is ∙ sym c.has_line.ensures ∙ c.if-has_line.false in
    let front = c.in_ok-count.ensures.front ∙ c.move_to_front-self-inside.ensures.front in
    read_ahead _ raw c.read_behind.new.buffer c.move_to_front-self-inside.result c.in_ok-count.count _ _ (sym c.self.view_is) none front c.in_ok-count.ensures.read

pub returns-clause-end : goal.returns-clause-end
returns-clause-end g c ended =
    let raw = slice_range c.self.inside.buffer c.self.inside.start c.self.inside.end in
    let none = sym (any_clipped 0 raw) ∙ ap (list_any is_feed) c.self.view_is ∙ sym c.has_line.ensures ∙ c.if-has_line.false in
    let front = c.in_ok-count.ensures.front ∙ c.move_to_front-self-inside.ensures.front in
    let few : nat_lt 0 c.in_ok-count.count ≡ false = cc in
    let zero : c.in_ok-count.count ≡ 0 = omega (arith, ltb-false 0 c.in_ok-count.count few) in
    (range_none _ raw c.read_behind.new.buffer c.move_to_front-self-inside.result c.in_ok-count.count zero (sym c.self.view_is) none front, c.in_ok-count.ensures.end zero)

pub returns-clause-read : goal.returns-clause-read
returns-clause-read g c goes_on none_waits =
    let raw = slice_range c.self.inside.buffer c.self.inside.start c.self.inside.end in
    let none = sym (any_clipped 0 raw) ∙ ap (list_any is_feed) c.self.view_is ∙ sym c.has_line.ensures ∙ c.if-has_line.false in
    let front = c.in_ok-count.ensures.front ∙ c.move_to_front-self-inside.ensures.front in
    let some : nat_lt 0 c.in_ok-count.count ≡ true = cc in
    reads_more _ raw c.read_behind.new.buffer c.move_to_front-self-inside.result c.in_ok-count.count _ _ (sym c.self.view_is) none front (ltb-true 0 c.in_ok-count.count some) c.in_ok-count.ensures.count c.in_ok-count.ensures.read
