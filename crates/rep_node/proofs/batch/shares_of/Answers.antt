use Rattle.std.proofs.Common.{rules, ◌≡◌, ◌+◌, ◌-◌, ◌<◌, ◌≤◌, [], ◌∷◌, ◌++◌, vec_capacity, arith, refl, subst, sym}
use Rattle.rep_node.specs.declared.batch.Share.{Share}
use Rattle.rep_node.specs.Jobs.{Adjoin, IsShare, share_from, share_to}
use Rattle.rep_node.proofs.Batching.{adjoin_more, some_each}
use Rattle.rep_node.proofs.batch.shares_of.Goals as goal

pub loop-to-preserved : goal.loop-to-preserved
loop-to-preserved c = let inv = c.loop-to.invariant in let some : 0 < c.loop-to.to = omega arith in
    let size : 0 < c.div_ceil-size.result = subst (λ n. 0 < n) (sym c.div_ceil-size.ensures) (some_each c.args.count c.args.workers (omega arith) c.requires) in
    let from : c.saturating_sub-from.result ≡ c.loop-to.to - c.div_ceil-size.result = search rules in
    let s : Share = record { from = c.saturating_sub-from.result; to = c.loop-to.to; receipts = c.in_ok-with_capacity.field-0 } in
    let room : c.loop-to.to ≤ c.saturating_sub-from.result + vec_capacity c.in_ok-with_capacity.field-0 = let cap = c.in_ok-with_capacity.ensures.capacity in omega arith in
    let items : c.push.new.self.items ≡ c.loop-to.shares.items ++ s ∷ [] = search rules in (
      subst (Adjoin share_to share_from (IsShare c.args.count) c.args.count c.saturating_sub-from.result) (sym items)
          (adjoin_more share_to share_from (IsShare c.args.count) c.args.count c.loop-to.to c.loop-to.shares.items s inv.0 refl (record { range = (omega arith, inv.1); room = (c.in_ok-with_capacity.ensures.items, room) })),
      omega arith,
    )
