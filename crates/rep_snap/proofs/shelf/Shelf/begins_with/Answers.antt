use Rattle.std.proofs.Common.{◌≡◌, ◌<◌, ◌≤◌, ℕ, Bool, true, false, nat_le, MatchBool, List, length, subst, ap, refl, arith}
use Rattle.std.proofs.lemmas.Bool.Decides.{nat_tests}
use mathlib.Core.List.{IsPrefix}
use Rattle.rep_snap.specs.declared.change.Change.{Change}
use Rattle.rep_snap.specs.Views.{Telling}
use Rattle.rep_snap.proofs.Prefixes.{prefix_shorter}
use Rattle.rep_snap.proofs.shelf.Shelf.begins_with.Goals as goal

-- two lengths tell which list begins the other
told_apart : (k l m n : ℕ) (P : Type 0) → k ≡ m → l ≡ n → (m ≤ n → P) → (b : Bool) → nat_le k l ≡ b → MatchBool b P (n < m)
told_apart k l m n P p q begins true is = begins (grind (arith, nat_tests, is, p, q))
told_apart k l m n P p q begins false is = grind (arith, nat_tests, is, p, q)

pub returns : goal.returns
returns g c =
    let both = c.learn.new.self.log in
    let mine : List Change = c.args.self.now.sight.seen.log in
    let theirs : List Change = c.told.inside.seen.log in
    let this : IsPrefix mine both = subst (λ (l : List Change). IsPrefix l both) (ap (λ s. s.log) c.again-both.ensures) c.learn.ensures.2 in
    subst (λ (t : Telling). MatchBool (nat_le c.told.inside.count c.args.self.now.count) (IsPrefix t.list mine) (length mine < length t.list)) c.told.view_is
    (told_apart c.told.inside.count c.args.self.now.count (length theirs) (length mine) (IsPrefix theirs mine) c.told.invariant c.requires.count
    (prefix_shorter theirs mine both c.learn.ensures.3 this) _ refl)
