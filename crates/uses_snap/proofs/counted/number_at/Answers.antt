use Rattle.std.proofs.Common.{◌∙◌, ap, arith}
use Rattle.rep_snap.specs.Doors.{FoundShut}
use Rattle.uses_snap.proofs.Counting.{peeked, shorter}
use Rattle.uses_snap.proofs.counted.number_at.Goals as goal

pub returns : goal.returns
returns g c =
    let v = c.learn.new.self in
    let more = shorter c.histories_grow.ensures c.args.told.now.list v.told c.learn.ensures.told in
    let within = c.requires.told.1 in
    peeked c.histories_grow.ensures c.peeks_have_one_answer.ensures (FoundShut g.D.Door.knows g.D.Door.shut) v c.peek.result.0 c.args.snapshot c.peek.result.1 c.requires.told.0
    (omega (arith, within, more)) (ap (λ t. t.start) c.learn.ensures.learnt ∙ c.requires.start) c.peek.ensures.answer
