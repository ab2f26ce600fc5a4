use Rattle.std.proofs.Common.{rules, ◌≡◌, ℕ, ◌-◌, [], ◌∷◌, ◌++◌, None, List, length, vec_capacity, arith, sym, ap, subst, length-append}
use Rattle.rep_types.specs.declared.judged.Judged.{Judged}
use Rattle.rep_ordered.specs.Seats.{Place}
use Rattle.rep_node.specs.declared.batch.Job.{Job}
use Rattle.rep_node.specs.declared.batch.Share.{Share}
use Rattle.rep_node.specs.declared.home.Home.{Home}
use Rattle.rep_node.specs.Jobs.{Adjoin, IsJob, IsShare, job_from, job_to, share_from, share_to}
use Rattle.rep_node.proofs.Batching.{adjoin_last, adjoin_more, job_of, split_more}
use Rattle.rep_node.proofs.node.Node.split_off.Goals as goal

-- the share that is split off is the next
next : (count place : ℕ) (shares rest : List Share) (s : Share) → shares ≡ rest ++ s ∷ [] → Adjoin share_to share_from (IsShare count) count place shares → Adjoin share_to share_from (IsShare count) count s.to rest × IsShare count s × (s.from ≡ place)
next count place shares rest s is h = adjoin_last share_to share_from (IsShare count) count place rest s (subst (Adjoin share_to share_from (IsShare count) count place) is h)

pub overflow_sub-to : goal.overflow_sub-to
overflow_sub-to g c = let all = c.requires.shares in let at = c.loop-from.invariant.1 all.0 all.1 in let items : c.loop-from.shares.items ≡ c.pop.new.self.items ++ c.in-Some.field-0 ∷ [] = search rules in
    let range = (next all.0 at.0 c.loop-from.shares.items c.pop.new.self.items c.in-Some.field-0 items at.1).1.range.0 in omega arith

pub split-other-requires-clause-some : goal.split-other-requires-clause-some
split-other-requires-clause-some g c = let all = c.requires.shares in let at = c.loop-from.invariant.1 all.0 all.1 in let items : c.loop-from.shares.items ≡ c.pop.new.self.items ++ c.in-Some.field-0 ∷ [] = search rules in
    let range = (next all.0 at.0 c.loop-from.shares.items c.pop.new.self.items c.in-Some.field-0 items at.1).1.range.0 in omega arith

pub split-other-requires-clause-less : goal.split-other-requires-clause-less
split-other-requires-clause-less g c = let all = c.requires.shares in let at = c.loop-from.invariant.1 all.0 all.1 in let items : c.loop-from.shares.items ≡ c.pop.new.self.items ++ c.in-Some.field-0 ∷ [] = search rules in
    let n = next all.0 at.0 c.loop-from.shares.items c.pop.new.self.items c.in-Some.field-0 items at.1 in let range = n.1.range in let low = range.0 in let high = range.1 in let place = n.2 in let most = all.2 in
    let left : c.loop-from.seat.view.allowance ≡ c.args.seat.now.view.allowance - at.0 = ap (λ (z : Place (Home g.row.D.Denot) Judged). z.view.allowance) at.2 in omega arith

pub loop-from-preserved : goal.loop-from-preserved
loop-from-preserved g c = let inv = c.loop-from.invariant in let s : Share = c.in-Some.field-0 in let items : c.loop-from.shares.items ≡ c.pop.new.self.items ++ s ∷ [] = search rules in
    let j : Job g.row.D.Denot = record { seat = c.split-other.result; from = s.from; to = s.to; receipts = s.receipts; end = None } in let jobs : c.push_reserved.new.self.items ≡ c.loop-from.jobs.items ++ j ∷ [] = search rules in (
      let room = inv.0 in let a = ap (λ (l : List Share). length l) items in let b = ap (λ (l : List (Job g.row.D.Denot)). length l) jobs in let cap : vec_capacity c.push_reserved.new.self ≡ vec_capacity c.loop-from.jobs = search rules in
          omega (arith, length-append c.pop.new.self.items (s ∷ []), length-append c.loop-from.jobs.items (j ∷ [])),
      λ count whole. let at = inv.1 count whole in let n = next count at.0 c.loop-from.shares.items c.pop.new.self.items s items at.1 in (
        s.to,
        n.0,
        split_more c.args.seat.now.lock c.args.seat.now.view at.0 s.from s.to c.loop-from.seat c.split-other.new.seat at.2 (search rules) n.2 n.1.range.0,
        subst (Adjoin job_from job_to (IsJob c.args.seat.now.lock c.args.seat.now.view count) 0 s.to) (sym jobs)
            (adjoin_more job_from job_to (IsJob c.args.seat.now.lock c.args.seat.now.view count) 0 at.0 c.loop-from.jobs.items j at.3 n.2 (job_of c.args.seat.now.lock c.args.seat.now.view count at.0 s c.loop-from.seat c.split-other.result at.2 (search rules) n.1)),
      ),
    )
