use Rattle.std.proofs.Common.{◌≤◌, ap, sym, subst}
use Rattle.rep_snap.specs.Lists.{published, front_of}
use Rattle.rep_snap.specs.Doors.{FoundShut}
use Rattle.uses_snap.proofs.Folding.{peeked_row}
use Rattle.uses_snap.proofs.folded.row_at.Goals as goal

pub returns : goal.returns
returns g c =
    let v = c.learn.new.self in
    let told = c.args.told.now.list in
    let start = ap (λ t. t.start) c.learn.ensures.learnt in
    peeked_row c.histories_grow.ensures c.peeks_follow_the_fold.ensures g.A.Admits.allows (FoundShut g.D.Door.knows g.D.Door.shut) v c.peek.result.0 told c.args.key c.args.snapshot
    c.learn.ensures.told (subst (λ n. c.args.snapshot ≤ front_of n (published told)) (sym start) c.requires.told) c.peek.result.1 c.peek.ensures.answer
