use Rattle.std.proofs.Common.{rules, ◌≡◌, ◌≤◌, [], ◌∙◌, refl, ap, sym, subst, arith, All}
use Rattle.rep_types.specs.declared.judged.Judged.{Judged}
use Rattle.rep_types.specs.declared.limits.TheConstants.{MAX_SEQNO}
use Rattle.rep_engine.specs.Engines.{durable_of}
use Rattle.rep_ordered.specs.Seats.{Place}
use Rattle.rep_snap.specs.Views.{Listing, Watching, watching}
use Rattle.rep_node.specs.declared.home.Home.{Home}
use Rattle.rep_node.specs.declared.origin.Origin.{Origin}
use Rattle.rep_node.specs.Homes.{Start, Begins, position_of, values_of}
use Rattle.rep_node.proofs.Beginning.{begins, all_name, all_meet, first_seat, readers_own}
use Rattle.rep_node.proofs.ends.start_from.Goals as goal
use Rattle.rep_node.proofs.ends.start_from.Goals.{After-push_reserved-3}

-- what the node is started with
abbrev start_of : (g : _) → After-push_reserved-3 g → Start g.row.D.Denot
start_of g c = record {
  certifier = c.args.certifier;
  desk = record { engine = c.in-Ok.space.engine; publisher = c.in-Ok-start.publisher; waiting = c.in-Ok.space.waiting };
  queue = record { backlog = c.args.backlog; accepted = c.durable-position.result };
}

items_are : (g : _) (c : After-push_reserved-3 g) → c.push_reserved-3.new.self.items ≡ values_of (start_of g c)
items_are g c = search rules

durable_is : (g : _) (c : After-push_reserved-3 g) → c.durable-position.result ≡ durable_of c.in-Ok.space.engine.log
durable_is g c = rw c.get.ensures at c.durable-position.ensures.durable

node_begins : (g : _) (c : After-push_reserved-3 g) → Begins g.D.Disk (start_of g c)
node_begins g c = let p = c.in-Ok-start.ensures.publisher in let r = c.requires.parts in let none : c.in-Ok.space.waiting ≡ [] = search rules in
    begins g.D.Disk r.0 (start_of g c) c.durable-position.result r.1.parts r.1.works r.1.defined r.1.same_certifier r.1.same_backlog (c.in-Ok.ensures.engine ∙ r.1.same_engine) (durable_is g c)
    (ap (λ (l : Listing Origin). l.basis.certifier.log) p ∙ c.of-origin.ensures) (ap (λ (l : Listing Origin). l.start) p) (ap (λ (l : Listing Origin). l.list) p) none refl

here : (g : _) (c : After-push_reserved-3 g) → c.durable-position.result ≡ position_of (start_of g c)
here g c = durable_is g c ∙ sym (node_begins g c).at

low : (g : _) (c : After-push_reserved-3 g) → c.durable-position.result ≤ MAX_SEQNO
low g c = let limit = c.durable-position.ensures.engine.limit in let is = c.durable-position.ensures.durable in omega arith

pub new-requires-clause-names : goal.new-requires-clause-names
new-requires-clause-names g c = all_name g.D.Disk (start_of g c) c.push_reserved-3.new.self.items (node_begins g c) (items_are g c)

pub new-requires-clause-values : goal.new-requires-clause-values
new-requires-clause-values g c = all_meet g.D.Disk c.histories_go_on.ensures (start_of g c) c.durable-position.result c.push_reserved-3.new.self.items (node_begins g c) (here g c) (items_are g c)

pub invariant_of-seat : goal.invariant_of-seat
invariant_of-seat g c = let at = (goal.at.invariant_of-seat g c).After-push_reserved-3 in
    first_seat g.D.Disk (start_of g at) c.durable-position.result c.push_reserved-3.new.self.items c.in-Ok-new.lock c.in-Ok-new.seat (node_begins g at) (here g at) (low g at) (items_are g at) c.in-Ok-new.ensures.seat

pub values_of-certifier-requires : goal.values_of-certifier-requires
values_of-certifier-requires g c = let at = (goal.at.values_of-certifier-requires g c).After-push_reserved-3 in (start_of g at, c.in-Err-new.ensures.refused ∙ items_are g at)

pub with_params-readers-requires-clause-own : goal.with_params-readers-requires-clause-own
with_params-readers-requires-clause-own g c =
    let b = node_begins g (goal.at.with_params-readers-requires-clause-own g c).After-push_reserved-3 in
    readers_own c.copied-params.result c.args.certifier (watching c.in-Ok-start.publisher) c.in-Ok-start.readers.items (c.copied-params.ensures ∙ ((rw c.get-2.ensures at c.params.ensures) ∙ b.taken.setting)) b.origin c.in-Ok-start.ensures.readers.1

pub returns-in-Ok-new-clause-starts : goal.returns-in-Ok-new-clause-starts
returns-in-Ok-new-clause-starts g c = λ r parts. let at = (goal.at.returns-in-Ok-new-clause-starts g c).After-push_reserved-3 in record {
  start = start_of g at;
  first = ap (λ (z : Place (Home g.row.D.Denot) Judged). z.view.first) c.in-Ok-new.ensures.seat ∙ items_are g at;
  begins = node_begins g at;
  certifier = parts.same_certifier;
  engine = c.in-Ok.ensures.engine ∙ parts.same_engine;
  stands = parts.parts.stands;
  readers = subst (All (λ (reader : Watching Origin). reader ≡ watching c.in-Ok-start.publisher)) (sym c.with_params-readers.ensures) c.in-Ok-start.ensures.readers.1;
}
