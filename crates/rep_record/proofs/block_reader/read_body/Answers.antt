use Rattle.std.proofs.Common.{◌≡◌, true, sym, ap, ◌∙◌, arith}
use Rattle.rep_forms.specs.Forms.{are_blank}
use Rattle.rep_record.specs.declared.block_reader.Head.{Head}
use Rattle.rep_record.proofs.Blocks.{matched}
use Rattle.rep_record.proofs.block_reader.read_body.Goals as goal
use Rattle.rep_record.proofs.block_reader.read_body.Goals.{then-head-eq0-via-then-head-eq0, then-head-eq0-via-else-head-eq0+then-head-gt-MAX_RECORDS}

pub returns-then-bytes-ne-BLOCK-clause-only : goal.returns-then-bytes-ne-BLOCK-clause-only
returns-then-bytes-ne-BLOCK-clause-only c = λ cell js s. absurd (c.if-bytes-ne-BLOCK.true s.has_head.size)

pub returns-in_default-clause-only : goal.returns-in_default-clause-only
returns-in_default-clause-only c = λ cell js s. let read = rw c.in_default.is at (c.read_front.ensures.only s.head s.body s.has_head.fits s.has_head.there) in absurd cc

pub returns-then-head-eq0-clause-only : goal.returns-then-head-eq0-clause-only
returns-then-head-eq0-clause-only c = λ cell js s.
    let same = ap (λ (head : Head). head.count) (matched s _ _ (c.in-Some.ensures.only s.head s.body s.has_head.fits s.has_head.there)).0 in
    absurd (elim c.then-head-eq0.branch [
      | then-head-eq0-via-then-head-eq0 w ↦ omega (arith, same, s.has_head.some, w.if-head-eq0.true)
      | then-head-eq0-via-else-head-eq0+then-head-gt-MAX_RECORDS w ↦ omega (arith, same, s.has_head.few, w.if-head-gt-MAX_RECORDS.true)
    ])

pub returns-in-Err-clause-only : goal.returns-in-Err-clause-only
returns-in-Err-clause-only c = λ cell js s.
    c.in-Err.ensures.only js s.rest (matched s _ _ (c.in-Some.ensures.only s.head s.body s.has_head.fits s.has_head.there)).1

pub returns-in-Ok-clause-only : goal.returns-in-Ok-clause-only
returns-in-Ok-clause-only c = λ cell js s.
    let read = c.in-Ok.ensures.only js s.rest (matched s _ _ (c.in-Some.ensures.only s.head s.body s.has_head.fits s.has_head.there)).1 in
    let blank : are_blank c.in-Ok.rest.now ≡ true = ap are_blank read.1 ∙ s.blank in
    absurd cc

pub returns-in-Ok-2-clause-only : goal.returns-in-Ok-2-clause-only
returns-in-Ok-2-clause-only c = λ cell js s.
    let front = matched s _ _ (c.in-Some.ensures.only s.head s.body s.has_head.fits s.has_head.there) in
    (ap (λ (head : Head). head.cell) front.0 ∙ sym s.is_cell, (c.in-Ok.ensures.only js s.rest front.1).0)
