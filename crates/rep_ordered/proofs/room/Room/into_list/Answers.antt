use Rattle.std.proofs.Common.{rules, ◌≡◌, ◌≤◌, [], vec_capacity, arith, sym, ap, ◌∙◌, subst}
use Rattle.std.proofs.Common.{Global, Vec}
use lib.ListN.{get_elem?}
use mathlib.Core.Option.{some-injective}
use Rattle.rep_ordered.proofs.room.Room.into_list.Goals as goal

pub returns : goal.returns
returns g c = let final = c.close-closed.ensures.values.2 in let laid = final.1 in let key : c.self.inside.table.shared.key ≡ c.args.self = search rules in
    let same : laid.0 ≡ c.take-values.result = some-injective laid.0 c.take-values.result (sym (final.4 0 laid.0 (ap (λ hs. get_elem? hs 0) laid.1)) ∙ c.take-values.ensures.value) in
    subst (λ (v : Vec g.row.V.Denot Global). (v.items ≡ []) × (c.args.self ≤ vec_capacity v)) same (laid.2, let room = laid.3 in omega arith)
