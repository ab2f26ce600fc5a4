use Rattle.std.proofs.Common.{rules, ◌≡◌, [], ◌∷◌, map, ap}
use Rattle.std.proofs.Common.{Global, Vec}
use mathlib.Core.Option.{some}
use Rattle.rep_ordered.proofs.room.Room.new.Goals as goal

pub new-requires : goal.new-requires
new-requires g c = let items : c.push_reserved.new.self.items ≡ c.in_ok-values.values ∷ [] = search rules in
    (c.in_ok-values.values, ap (map (λ (x : Vec g.row.V.Denot Global). some x)) items, search rules, search rules)
