use Rattle.std.proofs.Common.{rules, ◌≡◌, ℕ, List, [], ◌∷◌, arith, ap, ◌∙◌, sym}
use Rattle.std.specs.Prelude.{slice_get}
use Rattle.uses_ordered.specs.declared.three.Part.{Part}
use Rattle.uses_ordered.proofs.Passes.{each_of_three}
use Rattle.uses_ordered.proofs.three.lock_of_parts.Goals as goal

pub new-requires-clause-names : goal.new-requires-clause-names
new-requires-clause-names c = let items : c.push-3.new.self.items ≡ c.part_at.result ∷ c.part_at-2.result ∷ c.part_at-3.result ∷ [] = search rules in
    (c.args.position, λ j x is some_name. each_of_three (λ (p : Part). p.taken ≡ c.args.position) c.part_at.result c.part_at-2.result c.part_at-3.result x j c.part_at.ensures.0 c.part_at-2.ensures.0 c.part_at-3.ensures.0 (ap (λ (l : List Part). slice_get l j) (sym items) ∙ is))

pub new-requires-clause-values : goal.new-requires-clause-values
new-requires-clause-values c = let items : c.push-3.new.self.items ≡ c.part_at.result ∷ c.part_at-2.result ∷ c.part_at-3.result ∷ [] = search rules in let n : ℕ = c.args.position in
    λ j x is. let at = each_of_three (λ (p : Part). (p.taken ≡ n) × (p.waiting ≡ 0)) c.part_at.result c.part_at-2.result c.part_at-3.result x j c.part_at.ensures c.part_at-2.ensures c.part_at-3.ensures (ap (λ (l : List Part). slice_get l j) (sym items) ∙ is) in let taken = at.0 in let waiting = at.1 in
    (λ at_two. omega arith, λ at_one. omega arith)
