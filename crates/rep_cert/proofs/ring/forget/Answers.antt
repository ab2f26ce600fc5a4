use Rattle.std.proofs.Common.{◌≡◌, ◌-◌, List, length, slice_get, Some, sym, ap, ◌∙◌}
use Rattle.circular_buffer.specs.Buffer.{buffer}
use Rattle.rep_types.specs.Entries.{Entry}
use Rattle.rep_cert.proofs.Kept.{without_newest}
use Rattle.rep_cert.proofs.ring.forget.Goals as goal

pub returns-then-seqno : goal.returns-then-seqno
returns-then-seqno c =
    let es = c.args.entries.now.items in
    let last : slice_get es (length es - 1) ≡ Some c.in-Some.newest.now = sym (rw c.in-Some.is at c.back.ensures) in
    c.pop_back.ensures.items
    ∙ ap (λ (fs : List Entry). buffer fs c.args.entries.now.capacity) (without_newest c.args.seqno es c.in-Some.newest.now c.requires.one c.requires.last last (sym c.seqno.ensures ∙ c.if-seqno.true))
