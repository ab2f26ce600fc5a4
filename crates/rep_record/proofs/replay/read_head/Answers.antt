use Rattle.std.proofs.Common.{◌≡◌, arith}
use Rattle.std.proofs.lemmas.Option.{same_Some}
use Rattle.rep_record.specs.Blocks.{head_with}
use Rattle.rep_record.proofs.replay.read_head.Goals as goal

pub returns-in_err-head-clause-none : goal.returns-in_err-head-clause-none
returns-in_err-head-clause-none c = λ none count rest has.
    let some = c.in_err-head.ensures.only (head_with c.args.cell c.args.seqno count) rest has.fits has.there in
    absurd cc

pub returns-then-head-cell-clause-none : goal.returns-then-head-cell-clause-none
returns-then-head-cell-clause-none c = λ none count rest has.
    let some = c.in_ok-head.ensures.only (head_with c.args.cell c.args.seqno count) rest has.fits has.there in
    let same : (c.in_ok-head.head, c.in_ok-head.rest.now) ≡ (head_with c.args.cell c.args.seqno count, rest) = same_Some _ _ some in
    grind (arith, same, has.some, has.few, c.then-head-cell)
