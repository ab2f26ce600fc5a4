use Rattle.std.proofs.Common.{rules, ◌≡◌, ◌+◌, ◌-◌, ◌<◌, List, [], ◌∷◌, ◌++◌, length, drop, slice_get, Some, true, sym, ap, ◌∙◌, subst, arith}
use Rattle.rep_types.specs.declared.judged.Judged.{Judged}
use Rattle.rep_record.specs.Blocks.{has_room}
use Rattle.rep_record.specs.Fronts.{fitting}
use Rattle.rep_backlog.proofs.Fronts.{more_than, rest_after, with_one_more, fitting_first, fitting_no_first, fitting_none}
use Rattle.rep_backlog.proofs.backlog.Backlog.drain.Goals as goal

pub loop-first-preserved : goal.loop-first-preserved
loop-first-preserved c =
    let all = c.self.inside.items.items in
    let here = c.loop-first.self-inside.items.items in
    let m = c.loop-first.moved in
    let j = c.in-Some.first.now in
    let first : slice_get here 0 ≡ Some j = sym c.in-Some.ensures in
    let P : List Judged → Type 0 = λ js. slice_get js 0 ≡ Some j in
    let at : slice_get (drop m all) 0 ≡ Some j = subst P c.loop-first.invariant.rest first in
    let room : has_room c.loop-first.builder j ≡ true = sym c.if-not-push.ensures.room in
    let inside : m < length all = more_than all m j at in
    let built : c.push.new.self ≡ c.loop-first.builder ++ j ∷ [] = rw room at c.push.ensures.after in
    let some : 0 < length here = more_than here 0 j first in
    let but_one : length here - (c.len.result - 1) ≡ 1 = omega (arith, c.len.ensures, some) in
    let left : c.truncate_front.new.self.items ≡ drop 1 here = ap (λ b. b.items) c.truncate_front.ensures ∙ ap (λ n. drop n here) but_one in
    let same : fitting c.push.new.self c.truncate_front.new.self.items ≡ fitting (c.loop-first.builder ++ j ∷ []) (drop 1 here) =
    ap (λ (b : List Judged). fitting b c.truncate_front.new.self.items) built ∙ ap (fitting (c.loop-first.builder ++ j ∷ [])) left in
    let one : fitting c.loop-first.builder here ≡ fitting (c.loop-first.builder ++ j ∷ []) (drop 1 here) + 1 =
    fitting_first c.loop-first.builder here j first room in
    record {
      within = omega arith;
      few = c.loop-first.invariant.few;
      room = ap (λ b. b.capacity) c.truncate_front.ensures ∙ c.loop-first.invariant.room;
      rest = left ∙ (ap (drop 1) c.loop-first.invariant.rest ∙ rest_after all m j at);
      gathered = built ∙ (ap (λ (b : List Judged). b ++ j ∷ []) c.loop-first.invariant.gathered ∙ sym (with_one_more c.args.builder.now all m j at));
      counted = omega (arith, c.loop-first.invariant.counted, one, same);
    }

pub returns-then-not-push-clause-moved : goal.returns-then-not-push-clause-moved
returns-then-not-push-clause-moved c =
    let here = c.loop-first.self-inside.items.items in
    let j = c.in-Some.first.now in
    let none : fitting c.loop-first.builder here ≡ 0 = fitting_no_first c.loop-first.builder here j (sym c.in-Some.ensures) (sym c.if-not-push.ensures.room) in
    let all : c.loop-first.moved ≡ fitting c.args.builder.now c.self.inside.items.items = omega (arith, c.loop-first.invariant.counted, none) in
    all ∙ ap (fitting c.args.builder.now) c.self.view_is

pub returns-in_default-clause-moved : goal.returns-in_default-clause-moved
returns-in_default-clause-moved c =
    let here = c.loop-first.self-inside.items.items in
    let none : fitting c.loop-first.builder here ≡ 0 = fitting_none c.loop-first.builder here (sym c.in_default.ensures) in
    let all : c.loop-first.moved ≡ fitting c.args.builder.now c.self.inside.items.items = omega (arith, c.loop-first.invariant.counted, none) in
    all ∙ ap (fitting c.args.builder.now) c.self.view_is

pub loop-first-init : goal.loop-first-init
loop-first-init c = search rules
