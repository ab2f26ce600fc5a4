use Rattle.std.proofs.Common.{rules, ℕ, List, arith, sym, ap, subst, ◌<◌}
use Rattle.atomic_table.specs.Seated.{TableId}
use Rattle.rep_ordered.specs.declared.view.View.{View}
use Rattle.rep_ordered.specs.Counts.{times}
use Rattle.rep_ordered.specs.Seats.{Place}
use Rattle.rep_ordered.proofs.Drawing.{claims}
use Rattle.rep_ordered.proofs.Places.{seated_claim, times_last}
use Rattle.rep_ordered.proofs.lock.OrderedLock.claim.Goals as goal

pub fetch_add-requires : goal.fetch_add-requires
fetch_add-requires g c = let same = ap (λ (z : Place g.row.V.Denot g.row.E.Denot). z.view.allowance) c.seat.view_is in (search rules, search rules, claims _ _ _ _ (g.V.Keeps.grows _) _ _ _ _ (omega arith))

pub invariant_of-seat : goal.invariant_of-seat
invariant_of-seat g c = let same = ap (λ (z : Place g.row.V.Denot g.row.E.Denot). z.view.allowance) c.seat.view_is in let t = c.fetch_add.ensures.2 in let claim = t.0 in seated_claim _ _ _ _ _ (ap (λ (z : TableId). z.slots) c.fetch_add.ensures.0) c.seat.invariant claim.view t.1 claim.limit (omega arith)

pub returns-clause-drawn : goal.returns-clause-drawn
returns-clause-drawn g c = let t = c.fetch_add.ensures.2.0 in subst (λ (l : List ℕ). 0 < times c.fetch_add.result l) (sym (ap (λ (z : View g.row.V.Denot g.row.E.Denot). z.own) t.view)) (times_last _ _)
