use Rattle.std.proofs.Common.{◌≡◌, ◌+◌, List, [], ◌∷◌, ◌++◌, take, drop, slice_get, Some, None, true, sym, ap, ◌∙◌, arith}
use Rattle.rep_types.specs.declared.judged.Judged.{Judged}
use Rattle.rep_record.specs.Blocks.{has_room, filled_by}
use Rattle.rep_record.specs.Fronts.{fitting}
use Rattle.rep_backlog.proofs.Fronts.{get_behind, more_than, rest_after, with_one_more, fitting_first, fitting_no_first, fitting_none}
use Rattle.rep_backlog.proofs.backlog.Backlog.fitting.Goals as goal

pub loop-judged-preserved : goal.loop-judged-preserved
loop-judged-preserved c =
    let all = c.self.inside.items.items in
    let m = c.loop-judged.count in
    let j = c.in-Some.judged.now in
    let block = c.args.builder.now ++ take m all in
    let at : slice_get (drop m all) 0 ≡ Some j = get_behind all m ∙ ap (slice_get all) (sym c.from.ensures) ∙ sym c.in-Some.ensures in
    let room : has_room block j ≡ true = sym (c.if-not-take.ensures.room block c.loop-judged.invariant.filled) in
    let longer : c.args.builder.now ++ take (m + 1) all ≡ block ++ j ∷ [] = with_one_more c.args.builder.now all m j at in
    let filled : c.take.new.self ≡ filled_by (block ++ j ∷ []) = rw room at (c.take.ensures.after block c.loop-judged.invariant.filled) in
    let one : fitting block (drop m all) ≡ fitting (block ++ j ∷ []) (drop 1 (drop m all)) + 1 = fitting_first block (drop m all) j at room in
    let same : fitting (c.args.builder.now ++ take (m + 1) all) (drop (m + 1) all) ≡ fitting (block ++ j ∷ []) (drop 1 (drop m all)) =
    ap (λ (b : List Judged). fitting b (drop (m + 1) all)) longer ∙ ap (fitting (block ++ j ∷ [])) (sym (rest_after all m j at)) in
    record {
      within = omega (arith, more_than all m j at);
      few = c.loop-judged.invariant.few;
      filled = filled ∙ ap filled_by (sym longer);
      counted = omega (arith, c.loop-judged.invariant.counted, one, same);
    }

pub returns-then-not-take-clause-count : goal.returns-then-not-take-clause-count
returns-then-not-take-clause-count c =
    let all = c.self.inside.items.items in
    let m = c.loop-judged.count in
    let j = c.in-Some.judged.now in
    let block = c.args.builder.now ++ take m all in
    let at : slice_get (drop m all) 0 ≡ Some j = get_behind all m ∙ ap (slice_get all) (sym c.from.ensures) ∙ sym c.in-Some.ensures in
    let none : fitting block (drop m all) ≡ 0 = fitting_no_first block (drop m all) j at (sym (c.if-not-take.ensures.room block c.loop-judged.invariant.filled)) in
    let count : m ≡ fitting c.args.builder.now all = omega (arith, c.loop-judged.invariant.counted, none) in
    count ∙ ap (fitting c.args.builder.now) c.self.view_is

pub returns-in_default-clause-count : goal.returns-in_default-clause-count
returns-in_default-clause-count c =
    let all = c.self.inside.items.items in
    let m = c.loop-judged.count in
    let block = c.args.builder.now ++ take m all in
    let at : slice_get (drop m all) 0 ≡ None = get_behind all m ∙ ap (slice_get all) (sym c.from.ensures) ∙ sym c.in_default.ensures in
    let none : fitting block (drop m all) ≡ 0 = fitting_none block (drop m all) at in
    let count : m ≡ fitting c.args.builder.now all = omega (arith, c.loop-judged.invariant.counted, none) in
    count ∙ ap (fitting c.args.builder.now) c.self.view_is
