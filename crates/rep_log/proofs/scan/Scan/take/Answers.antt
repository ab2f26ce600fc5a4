use Rattle.std.proofs.Common.{◌≡◌, ℕ, ◌+◌, length, ap, subst, ◌∙◌, arith}
use Rattle.rep_record.specs.Blocks.{IsNextBlock}
use Rattle.rep_log.specs.Scanning.{Found}
use Rattle.rep_log.proofs.Taking.{taken_small}
use Rattle.rep_log.proofs.scan.Scan.take.Goals as goal

pub invariant_of-self : goal.invariant_of-self
invariant_of-self g c =
    let was = c.self.invariant in
    let of = c.in_ok-count.ensures.replayed in
    let count : c.from.result ≡ length of.0 = c.from.ensures ∙ of.2 in
    (omega (arith, was.0), omega (arith, was.1, count, of.1.is_block.some), omega (arith, count, taken_small c.self.inside.next c.self.inside.seqno c.args.body.now of.0 of.1 was.2), was.3)

pub returns-clause-taken : goal.returns-clause-taken
returns-clause-taken g c =
    let scan : Found = c.args.self.now in
    let of = c.in_ok-count.ensures.replayed in
    let count : c.from.result ≡ length of.0 = c.from.ensures ∙ of.2 in (
      of.0,
      subst (λ (v : Found). IsNextBlock v.next v.seqno c.args.body.now of.0) c.self.view_is of.1,
      ap (λ (v : Found). record v { next = v.next + 1; seqno = v.seqno + c.from.result }) c.self.view_is
          ∙ ap (λ (n : ℕ). record scan { next = scan.next + 1; seqno = scan.seqno + n }) count,
      of.3,
    )
