-- What comes before an item.
use Rattle.std.proofs.Common.{◌≡◌, ℕ, true, false, List, Option, Result, Ok, refl, sym, subst}
use Rattle.rep_types.specs.declared.refusal.Refusal.{Refusal}
use Rattle.rep_disk.specs.declared.disk.Disk.{Ghosts}
use Rattle.rep_replica.specs.Replicas.{Replica, facts_of}
use Rattle.rep_follow.specs.declared.counts.Counts.{Counts}
use Rattle.rep_follow.specs.Committing.{TellsAndBegins}
use Rattle.rep_follow.specs.Taking.{is_backlogged, MakesRoom}

module _ {D : Type 0} (g : Ghosts D) where
  pub makes_room : (old mid : Replica D) (was between : Counts) (before after : Option (List ℕ)) (made : Result (Unit {0}) Refusal) → is_backlogged (facts_of g old) ≡ true → TellsAndBegins g old mid was between before after made
      → MakesRoom g (is_backlogged (facts_of g old)) old mid was between before after made
  makes_room old mid was between before after made is block = subst (λ b. MakesRoom g b old mid was between before after made) (sym is) block

  pub needs_none : (old : Replica D) (was : Counts) (text : Option (List ℕ)) → is_backlogged (facts_of g old) ≡ false → MakesRoom g (is_backlogged (facts_of g old)) old old was was text text (Ok tt)
  needs_none old was text is = subst (λ b. MakesRoom g b old old was was text text (Ok tt)) (sym is) (refl, refl, refl, refl)
