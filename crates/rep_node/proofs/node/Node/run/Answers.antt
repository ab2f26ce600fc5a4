use Rattle.std.proofs.Common.{rules, ◌≡◌, Bool, ℕ, [], ◌∷◌, ◌++◌, List, Option, get_or, length, arith, refl, sym, ap, ◌∙◌, subst}
use Rattle.std.specs.Option.{option_or}
use Rattle.rep_types.specs.declared.item.Item.{Item}
use Rattle.rep_types.specs.declared.judged.Judged.{Judged}
use Rattle.rep_types.specs.declared.refusal.Refusal.{Refusal}
use Rattle.atomic_table.specs.Seated.{TableId}
use Rattle.rep_ordered.specs.declared.view.View.{View}
use Rattle.rep_node.specs.declared.batch.Job.{Job}
use Rattle.rep_node.specs.declared.batch.Receipt.{Receipt}
use Rattle.rep_node.specs.declared.home.Home.{Home}
use Rattle.rep_node.specs.declared.pace.Point.{Point}
use Rattle.rep_node.specs.Jobs.{Adjoin, Gathered, IsDone, IsJob, IsReady, job_from, job_to}
use Rattle.rep_node.proofs.Batching.{adjoin_changed, adjoin_each, adjoin_last, done_of, gathered_next, gathered_none, lent_whole, ready_of}
use Rattle.rep_node.proofs.node.Node.run.Goals as goal

-- the job that is taken in is the last that is out
next : {D : Type 0} (lets : Point → ℕ → Type 0) (keeps : Bool) (table : TableId) (v : View (Home D) Judged) (items : List Item) (count place : ℕ) (jobs rest : List (Job D)) (k : Job D) → jobs ≡ rest ++ k ∷ [] → Adjoin job_from job_to (IsDone lets keeps table v items count) 0 place jobs → Adjoin job_from job_to (IsDone lets keeps table v items count) 0 k.from rest × IsDone lets keeps table v items count k × (k.to ≡ place)
next lets keeps table v items count place jobs rest k is h = adjoin_last job_from job_to (IsDone lets keeps table v items count) 0 place rest k (subst (Adjoin job_from job_to (IsDone lets keeps table v items count) 0 place) is h)

pub work_all-requires-clause-ready : goal.work_all-requires-clause-ready
work_all-requires-clause-ready g c κs within = let jobs : c.as_mut_slice.result.now ≡ c.args.jobs.items = search rules in
    adjoin_each job_from job_to (IsJob c.args.self.now c.args.seat.now.view (length c.args.items.now)) (IsReady g.D.Disk c.args.self.now (length c.args.items.now)) 0 (length c.args.items.now) c.as_mut_slice.result.now
    (λ (j : Job g.row.D.Denot) h. ready_of g.D.Disk c.args.self.now c.args.seat.now.view (length c.args.items.now) j c.requires.seat h)
    (subst (Adjoin job_from job_to (IsJob c.args.self.now c.args.seat.now.view (length c.args.items.now)) 0 (length c.args.items.now)) (sym jobs) c.requires.jobs)

pub loop-job-init : goal.loop-job-init
loop-job-init g c = let jobs : c.as_mut_slice.result.now ≡ c.args.jobs.items = search rules in let count : ℕ = length c.args.items.now in let v : View (Home g.row.D.Denot) Judged = c.args.seat.now.view in let ws : List Item = c.args.items.now in
    let len : c.args.jobs.len ≡ length c.args.jobs.items = search rules in let same : length c.work_all.new.jobs ≡ length c.args.jobs.items = c.work_all.ensures.len ∙ ap (λ (l : List (Job g.row.D.Denot)). length l) jobs in (
      refl,
      omega arith,
      count,
      subst (Adjoin job_from job_to (IsDone (g.P.Pace.lets c.args.pace.now) c.args.keeps c.args.seat.now.lock v ws count) 0 count) (sym (lent_whole c.args.jobs.items c.work_all.new.jobs c.args.jobs.len same len))
          (adjoin_changed job_from job_to (IsJob c.args.self.now v count) (IsDone (g.P.Pace.lets c.args.pace.now) c.args.keeps c.args.seat.now.lock v ws count) 0 count c.as_mut_slice.result.now c.work_all.new.jobs c.work_all.ensures.len
          (λ i d inside is_job. let w = c.work_all.ensures.worked i d inside in (subst (λ table. IsDone (g.P.Pace.lets c.args.pace.now) c.args.keeps table v ws count (get_or c.work_all.new.jobs i d)) (sym c.requires.lock) (done_of (g.P.Pace.lets c.args.pace.now) c.args.keeps c.args.self.now v ws count (get_or c.as_mut_slice.result.now i d) (get_or c.work_all.new.jobs i d) is_job w), w.range.0, w.range.1))
          (subst (Adjoin job_from job_to (IsJob c.args.self.now v count) 0 count) (sym jobs) c.requires.jobs)),
      gathered_none (g.P.Pace.lets c.args.pace.now) c.args.keeps ws count v c.args.receipts.now.items c.requires.free c.requires.runs c.requires.seat.once c.requires.sees c.requires.passed c.requires.room.0,
    )

pub take_in-requires-clause-lock : goal.take_in-requires-clause-lock
take_in-requires-clause-lock g c = let inv = c.loop-job.invariant in let items : c.loop-job.jobs.items ≡ c.pop.new.self.items ++ c.in-Some.job ∷ [] = search rules in
    let n = next (g.P.Pace.lets c.args.pace.now) c.args.keeps c.args.seat.now.lock c.args.seat.now.view c.args.items.now (length c.args.items.now) inv.2 c.loop-job.jobs.items c.pop.new.self.items c.in-Some.job items inv.3 in (inv.0 ∙ c.requires.lock, n.1.lock ∙ c.requires.lock)

pub take_in-requires-clause-free : goal.take_in-requires-clause-free
take_in-requires-clause-free g c = let inv = c.loop-job.invariant in let items : c.loop-job.jobs.items ≡ c.pop.new.self.items ++ c.in-Some.job ∷ [] = search rules in
    let n = next (g.P.Pace.lets c.args.pace.now) c.args.keeps c.args.seat.now.lock c.args.seat.now.view c.args.items.now (length c.args.items.now) inv.2 c.loop-job.jobs.items c.pop.new.self.items c.in-Some.job items inv.3 in n.1.went.free

pub take_in-requires-clause-room : goal.take_in-requires-clause-room
take_in-requires-clause-room g c = let inv = c.loop-job.invariant in let items : c.loop-job.jobs.items ≡ c.pop.new.self.items ++ c.in-Some.job ∷ [] = search rules in
    let n = next (g.P.Pace.lets c.args.pace.now) c.args.keeps c.args.seat.now.lock c.args.seat.now.view c.args.items.now (length c.args.items.now) inv.2 c.loop-job.jobs.items c.pop.new.self.items c.in-Some.job items inv.3 in
    let at = n.2 in let room = c.requires.room.1 in let cap = inv.1 in let few = n.1.part.few in let most = n.1.part.most in let other = inv.4.part.few in let others = inv.4.part.most in omega arith

pub loop-job-preserved : goal.loop-job-preserved
loop-job-preserved g c = let inv = c.loop-job.invariant in let items : c.loop-job.jobs.items ≡ c.pop.new.self.items ++ c.in-Some.job ∷ [] = search rules in let count : ℕ = length c.args.items.now in let v : View (Home g.row.D.Denot) Judged = c.args.seat.now.view in let ws : List Item = c.args.items.now in
    let k : Job g.row.D.Denot = c.in-Some.job in let n = next (g.P.Pace.lets c.args.pace.now) c.args.keeps c.args.seat.now.lock v ws count inv.2 c.loop-job.jobs.items c.pop.new.self.items k items inv.3 in
    let end : c.or-end.result ≡ option_or k.end c.loop-job.end = c.or-end.ensures ∙ ap (λ (e : Option Refusal). option_or e c.loop-job.end) c.take_in.ensures.end in
    let gathered : Gathered (g.P.Pace.lets c.args.pace.now) c.args.keeps ws k.to count v c.loop-job.seat.view c.loop-job.receipts.items c.loop-job.end = subst (λ place. Gathered (g.P.Pace.lets c.args.pace.now) c.args.keeps ws place count v c.loop-job.seat.view c.loop-job.receipts.items c.loop-job.end) (sym n.2) inv.4 in (
      c.take_in.ensures.lock ∙ inv.0,
      let a = inv.1 in let b = c.take_in.ensures.receipts.1 in omega arith,
      k.from,
      n.0,
      subst (λ (z : List Receipt × Option Refusal). Gathered (g.P.Pace.lets c.args.pace.now) c.args.keeps ws k.from count v c.take_in.new.seat.view z.0 z.1) (λ i. (sym c.take_in.ensures.receipts.0 i, sym end i))
          (gathered_next (g.P.Pace.lets c.args.pace.now) c.args.keeps c.args.seat.now.lock ws count v c.loop-job.seat.view c.take_in.new.seat.view k c.loop-job.receipts.items c.loop-job.end c.requires.runs gathered n.1 c.take_in.ensures.joined c.take_in.ensures.halted),
    )
