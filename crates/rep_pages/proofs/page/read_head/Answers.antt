use Rattle.std.proofs.Common.{ap, arith}
use Rattle.rep_pages.specs.declared.page.Head.{Head}
use Rattle.rep_pages.proofs.Bodies.{head_read}
use Rattle.rep_pages.proofs.page.read_head.Goals as goal
use Rattle.rep_pages.proofs.page.read_head.Goals.{then-from-number-via-then-from-number, then-from-number-via-else-from-number+then-ne, then-from-number-via-else-from-number+else-ne+then-head-latest}

pub returns-in_err-head-clause-only : goal.returns-in_err-head-clause-only
returns-in_err-head-clause-only c = λ position body le h.
    let read = c.in_err-head.ensures.only (record { number = c.args.number; first = h.first; position = position }) body h.head h.spelled in
    absurd cc

pub returns-then-from-number-clause-only : goal.returns-then-from-number-clause-only
returns-then-from-number-clause-only c = λ position body le h.
    let head = head_read h c.in_ok-head.ensures in
    let first = c.in_ok-first.ensures.only h.first h.begins in
    absurd (elim c.then-from-number.branch [
      | then-from-number-via-then-from-number b ↦ grind arith
      | then-from-number-via-else-from-number+then-ne b ↦ grind arith
      | then-from-number-via-else-from-number+else-ne+then-head-latest b ↦ grind arith
    ])

pub returns-clause-only : goal.returns-clause-only
returns-clause-only c = λ position body le h.
    let head = head_read h c.in_ok-head.ensures in
    (ap (λ (x : Head). x.position) head.0, head.1)
