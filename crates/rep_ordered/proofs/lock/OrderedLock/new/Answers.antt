use Rattle.std.proofs.Common.{ℕ, List, sym, subst}
use Rattle.rep_ordered.specs.Ends.{AllMeet}
use Rattle.rep_ordered.proofs.lock.OrderedLock.new.Goals as goal

pub open-requires-clause-values : goal.open-requires-clause-values
open-requires-clause-values g c = let start = c.opening_at-opening.ensures.start in let same = c.opening_at-opening.ensures.durable in let values : List g.row.V.Denot = c.args.values.items in
    subst (λ (z : ℕ × ℕ). AllMeet (g.V.Keeps.legal values) (g.V.Keeps.at_home values) g.V.Keeps.durable_of g.V.Keeps.common_of z.0 z.1 values) (λ i. (sym start i, sym same i)) c.requires.values
