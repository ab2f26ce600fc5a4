use Rattle.std.proofs.Common.{ℕ, length, arith, sym, refl, ◌∙◌, subst, Option, List, []}
use Rattle.std.specs.Prelude.{IsSome}
use Rattle.atomic_table.specs.Table.{opening}
use Rattle.rep_ordered.specs.declared.rule.Opening.{Opening}
use Rattle.rep_ordered.specs.Views.{Every, opened, untold}
use Rattle.rep_ordered.specs.Rule.{Kept, first_of}
use Rattle.rep_ordered.specs.Ends.{AllMeet}
use Rattle.rep_ordered.proofs.Making.{opens, all_some, same_values}
use Rattle.rep_ordered.proofs.lock.OrderedLock.open.Goals as goal

pub new-requires : goal.new-requires
new-requires g c = let k : Opening g.row.V.Denot = c.args.opening.now in let values : List g.row.V.Denot = c.args.values.items in let first = c.requires.first in let low = c.requires.numbers.0 in let wide = c.requires.numbers.1 in
    let meet = subst (λ (fs : List g.row.V.Denot). AllMeet (g.V.Keeps.legal fs) (g.V.Keeps.at_home fs) g.V.Keeps.durable_of g.V.Keeps.common_of k.start k.durable values) (sym first) c.requires.values in
    let lawful = subst (λ (fs : List g.row.V.Denot). g.V.Keeps.legal fs []) (sym first) c.requires.legal in
    subst (λ (z : List ℕ × List (Option g.row.V.Denot)). Kept (g.V.Keeps.legal (first_of k)) (g.V.Keeps.at_home (first_of k)) g.V.Keeps.durable_of g.V.Keeps.common_of k (opening z.0 z.1 (untold (opened g.V.Keeps.durable_of g.V.Keeps.common_of k.start k.whole (first_of k) k.durable))))
    (λ i. (sym (c.as_slice.ensures.value ∙ c.requires.words) i, sym c.wrap.ensures.slots i))
    (opens (g.V.Keeps.legal (first_of k)) (g.V.Keeps.at_home (first_of k)) g.V.Keeps.durable_of g.V.Keeps.common_of k values (length values) refl (omega arith) (omega arith) (omega arith) lawful first c.requires.names c.requires.covered meet)

pub handed_back-requires-clause-full : goal.handed_back-requires-clause-full
handed_back-requires-clause-full g c = subst (Every IsSome) (sym (c.in-Err.ensures.err ∙ c.wrap.ensures.slots)) (all_some c.args.values.items)

pub returns-clause-refused : goal.returns-clause-refused
returns-clause-refused g c = same_values _ _ (c.handed_back.ensures ∙ (c.in-Err.ensures.err ∙ c.wrap.ensures.slots))
