use Rattle.std.proofs.Common.{◌≡◌, Err, subst}
use Rattle.rep_types.specs.declared.judged.Judged.{Judged}
use Rattle.rep_types.specs.declared.refusal.Refusal.TheVariants.{LogFull}
use Rattle.rep_ordered.specs.Seats.{Place}
use Rattle.rep_node.specs.declared.home.Home.{Home}
use Rattle.rep_node.specs.Homes.{Start, values_of}
use Rattle.rep_node.specs.Keeping.{FoundFull}
use Rattle.rep_node.proofs.Keeps.{invariant_idle}
use Rattle.rep_node.proofs.node.Node.keep.Goals as goal

pub invariant_of-seat : goal.invariant_of-seat
invariant_of-seat g c = invariant_idle g.D.Disk c.seat.inside.seat.view c.keep_upto.new.seat.view c.seat.inside.allowance c.seat.invariant c.keep_upto.ensures.idle

pub returns-clause-full : goal.returns-clause-full
returns-clause-full g c = subst (λ (z : Place (Home g.row.D.Denot) Judged). c.keep_upto.result ≡ Err LogFull → (s : Start g.row.D.Denot) → z.view.first ≡ values_of s → FoundFull g.D.Disk s c.keep_upto.new.seat.view) c.seat.view_is c.keep_upto.ensures.full
