use Rattle.std.proofs.Common.{◌≡◌, ◌+◌, ◌<◌, List, ◌∷◌, take, drop, slice_get, Some, sym, ap, subst, ◌∙◌, arith}
use Rattle.std.specs.Option.{option_copied}
use Rattle.rep_types.specs.declared.judged.Judged.{Judged}
use Rattle.rep_record.specs.Blocks.{SeqnosFrom}
use Rattle.rep_versions.specs.Versions.{Kept, IsTakenBack}
use Rattle.rep_engine.specs.Accepting.{AddsItems}
use Rattle.rep_engine.proofs.Replying.{drop_one_more, take_first}
use Rattle.rep_engine.proofs.Accepting.{within_one, undone}
use Rattle.rep_engine.proofs.accept.+add_items.Goals as goal

pub overflow_add-from : goal.overflow_add-from
overflow_add-from n c = let small = c.requires.few in omega (arith, small)

pub add_items-requires : goal.add_items-requires
add_items-requires n c =
    let some = c.if-count-eq0.false in
    let least : 0 < c.args.count = omega (arith, some) in
    (omega (arith, c.decreases, least), (omega (arith, c.requires.within, least), omega (arith, c.requires.few, least)))

pub returns-in-Err-clause-unchanged : goal.returns-in-Err-clause-unchanged
returns-in-Err-clause-unchanged n c = λ base last le follow within.
    let js = c.args.backlog.now in
    let j = c.in-Some.judged.now in
    let at : slice_get js c.args.from ≡ Some j = sym c.get.ensures ∙ ap option_copied c.in-Some.is in
    let order : SeqnosFrom (last + 1) (j ∷ drop (c.args.from + 1) js) = subst (SeqnosFrom (last + 1)) (drop_one_more js c.args.from j at) follow in
    let adds = c.in_ok-add_item.ensures.added in
    let mid = within_one base last j c.args.versions.now c.add_item.new.versions le order.0 within adds in
    let same = c.in-Err.ensures.unchanged base (last + 1) (omega (arith, le)) order.1 mid in
    undone c.add_is_taken_back.ensures base last j c.args.versions.now c.add_item.new.versions c.take_back.new.self order.0 within adds
    (subst (λ (k : Kept). IsTakenBack j.seqno k c.take_back.new.self) same c.take_back.ensures)

pub returns-clause-added : goal.returns-clause-added
returns-clause-added n c =
    let js = c.args.backlog.now in
    let j = c.in-Some.judged.now in
    let at : slice_get js c.args.from ≡ Some j = sym c.get.ensures ∙ ap option_copied c.in-Some.is in
    let some = c.if-count-eq0.false in
    let least : 0 < c.args.count = omega (arith, some) in
    let front = ap (take c.args.count) (drop_one_more js c.args.from j at) ∙ take_first c.args.count j (drop (c.args.from + 1) js) least in
    subst (λ (ks : List Judged). AddsItems ks c.args.versions.now c.add_items.new.versions) (sym front) (c.add_item.new.versions, c.in_ok-add_item.ensures.added, c.in_default-add_items.ensures.added)
