use Rattle.std.proofs.Common.{◌≡◌, Bool, false, Some, map, ap, sym, ◌∙◌, subst}
use Rattle.rep_types.specs.declared.judged.Judged.{Judged}
use Rattle.rep_replica.specs.Replicas.{Replica}
use Rattle.rep_ordered.specs.Seats.{Place}
use Rattle.rep_ordered.specs.Views.{Later, HasAll}
use Rattle.rep_node.specs.declared.home.Home.{Home}
use Rattle.rep_node.specs.Homes.{Start, values_of}
use Rattle.rep_node.specs.Ending.{EndsAs}
use Rattle.rep_node.specs.Seats.{Rests}
use Rattle.rep_node.proofs.Closing.{was_halted, not_halted, one_end, close_parts, legal_before, replica_of}
use Rattle.rep_node.proofs.node.Node.close.Goals as goal
use Rattle.rep_node.proofs.node.Node.close.Goals.{After-close-homes, After-closed_values_of-certifier}

later : (g : _) (c : After-close-homes g) → Later c.args.seat.view c.front-stopped.new.seat.view
later g c = subst (λ (z : Place (Home g.row.D.Denot) Judged). Later z.view c.front-stopped.new.seat.view) c.seat.view_is c.front-stopped.ensures.later

-- the last look showed nothing new
last : (g : _) (c : After-close-homes g) → (c.front-stopped.new.seat.view.halted ≡ c.args.seat.view.halted) × (c.front-stopped.new.seat.view.seen ≡ c.args.seat.view.seen)
last g c = subst (λ (z : Place (Home g.row.D.Denot) Judged). HasAll z.view → (c.front-stopped.new.seat.view.halted ≡ z.view.halted) × (c.front-stopped.new.seat.view.seen ≡ z.view.seen)) c.seat.view_is c.front-stopped.ensures.last c.requires.all

-- what the lock was closed with, and the replica that it makes
closed : (g : _) (c : After-close-homes g) → (t : Start g.row.D.Denot) × (c.close-homes.result.items ≡ map Some (values_of t))
    × ((stopped : Bool) → (stopped ≡ false → c.front-stopped.new.seat.view.halted ≡ 0) → EndsAs g.D.Disk c.args.seat.view (replica_of t stopped))
closed g c = let owns = subst (λ (z : Place (Home g.row.D.Denot) Judged). Rests g.D.Disk z.view c.seat.inside.allowance) c.seat.view_is c.seat.invariant in
    close_parts g.D.Disk c.histories_go_on.ensures c.histories_lie_between_replicas.ensures c.histories_extend_the_order.ensures c.args.seat.view c.front-stopped.new.seat.view c.close-homes.result.items
    (later g c) (last g c) owns.free owns.seat owns.passed c.close-homes.ensures.values (c.close-homes.ensures.stations ∙ c.self.invariant)

abbrev taken : (g : _) → After-closed_values_of-certifier g → Start g.row.D.Denot
taken g c = record { certifier = c.closed_values_of-certifier.result.0; desk = c.closed_values_of-certifier.result.1; queue = c.closed_values_of-certifier.result.2 }

ends : (g : _) (c : After-close-homes g) (t : Start g.row.D.Denot) → c.close-homes.result.items ≡ map Some (values_of t) → EndsAs g.D.Disk c.args.seat.view (replica_of t c.front-stopped.result.halted)
ends g c t is = let p = closed g c in
    subst (λ (z : Start g.row.D.Denot). EndsAs g.D.Disk c.args.seat.view (replica_of z c.front-stopped.result.halted)) (one_end c.close-homes.result.items p.0 t p.1 is)
    (p.2 c.front-stopped.result.halted (not_halted c.front-stopped.result.halted c.front-stopped.new.seat.view.halted c.front-stopped.ensures.halted c.front-stopped.ensures.one_bit))

pub closed_values_of-certifier-requires : goal.closed_values_of-certifier-requires
closed_values_of-certifier-requires g c = let p = closed g c in (p.0, p.1)

pub from_parts-requires : goal.from_parts-requires
from_parts-requires g c = let at = goal.at.from_parts-requires g c in let e = ends g at.After-close-homes (taken g at.After-closed_values_of-certifier) c.closed_values_of-certifier.ensures in
    rw c.engine_of.ensures (c.histories_lie_between_replicas.ensures.ends e.start.desk.engine e.start.certifier.current c.args.seat.view.seen e.taken e.waits (replica_of (taken g at.After-closed_values_of-certifier) c.front-stopped.result.halted) e.ends)

pub returns-clause-stopped : goal.returns-clause-stopped
returns-clause-stopped g c = let f = c.front-stopped.ensures in
    was_halted c.from_parts.result.stopped c.front-stopped.result.halted c.args.seat.view.halted c.front-stopped.new.seat.view.halted (ap (λ (r : Replica g.row.D.Denot). r.stopped) c.from_parts.ensures) (last g (goal.at.returns-clause-stopped g c).After-close-homes).0 f.halted f.one_bit

pub returns-clause-legal : goal.returns-clause-legal
returns-clause-legal g c = let at = (goal.at.returns-clause-legal g c).After-close-homes in
    legal_before g.D.Disk c.args.seat.view c.front-stopped.new.seat.view (later g at) (last g at).1 c.close-homes.ensures.values.sees.legal

pub returns-clause-ends : goal.returns-clause-ends
returns-clause-ends g c = let at = goal.at.returns-clause-ends g c in subst (EndsAs g.D.Disk c.args.seat.view) (sym (rw c.engine_of.ensures at c.from_parts.ensures)) (ends g at.After-close-homes (taken g at.After-closed_values_of-certifier) c.closed_values_of-certifier.ensures)
