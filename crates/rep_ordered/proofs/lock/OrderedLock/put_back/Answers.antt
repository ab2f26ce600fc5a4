use Rattle.std.proofs.Common.{rules, ℕ, ◌<◌, arith, sym, ap, subst}
use Rattle.atomic_table.specs.Seated.{TableId}
use Rattle.rep_ordered.specs.declared.view.Hold.{Hold}
use Rattle.rep_ordered.specs.Views.{Every}
use Rattle.rep_ordered.proofs.Sums.{every_at}
use Rattle.rep_ordered.proofs.Bringing.{brings}
use Rattle.rep_ordered.proofs.lock.OrderedLock.put_back.Goals as goal

pub overflow_add-station : goal.overflow_add-station
overflow_add-station g c = let within = every_at (λ (h : Hold). h.station < c.args.self.now.slots) c.args.station _ c.requires.holds c.requires.seated.inside in let slots = ap (λ (z : TableId). z.slots) c.self.view_is in let words = c.self.invariant in let a = words.0 in let b = words.1 in omega arith

pub load-requires : goal.load-requires
load-requires g c = let within = every_at (λ (h : Hold). h.station < c.args.self.now.slots) c.args.station _ c.requires.holds c.requires.seated.inside in let slots = ap (λ (z : TableId). z.slots) c.self.view_is in let words = c.self.invariant.0 in
    let inside = subst (λ (n : ℕ). Every (λ (h : Hold). h.station < n) c.args.seat.now.me.0.view.held) (sym slots) c.requires.seated.inside in
    (search rules, omega arith, brings _ _ _ _ _ _ _ _ _ c.requires.seated.slots inside c.requires.holds)

pub returns-clause-within : goal.returns-clause-within
returns-clause-within g c = every_at (λ (h : Hold). h.station < c.args.self.now.slots) c.args.station _ c.requires.holds c.requires.seated.inside
