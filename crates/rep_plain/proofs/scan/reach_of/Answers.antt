use Rattle.std.proofs.Common.{◌+◌, get_or, sym, ap, ◌∙◌}
use Rattle.rep_types.specs.declared.reach.Reach.{Reach}
use Rattle.rep_types.specs.Reaches.{reach_after}
use Rattle.rep_plain.proofs.Scans.{reach_more}
use Rattle.rep_plain.proofs.scan.reach_of.Goals as goal

pub loop-place-preserved : goal.loop-place-preserved
loop-place-preserved c =
    let n = c.loop-place.place in
    let read = c.index-items-place.result in
    c.after-reach.ensures
    ∙ (ap (λ (r : Reach). reach_after r (n + 1) (get_or c.args.items.now n read).item) c.loop-place.invariant
    ∙ sym (reach_more c.args.params.now c.args.items.now n read c.loop-place-test.true))
