-- The front after a change that was made.
use Rattle.std.proofs.Common.{◌≡◌, ◌∙◌, sym, ap, subst, ℕ, List, Result, Ok}
use Rattle.rep_types.specs.declared.refusal.Refusal.{Refusal}
use Rattle.rep_types.specs.declared.value.Write.{Write}
use Rattle.rep_snap.specs.declared.change.Change.TheVariants.{Prune}
use Rattle.rep_snap.specs.Lists.{published, front_of, pair_of}
use Rattle.rep_snap.specs.Views.{Listing, IsChange, IsPublish}
use Rattle.rep_snap.specs.Laws.{HistoriesGrow}

module _ (laws : HistoriesGrow) {A : Type 0} (p q : Listing A) (r : Result (Unit {0}) Refusal) (u : Unit {0}) (ok : r ≡ Ok u) where
  pub pruned : (c front : ℕ) → front ≡ front_of p.start (published p.list) → IsChange (Prune c) p q r → front ≡ front_of q.start (published q.list)
  pruned c front is h =
      let after = (subst (IsChange (Prune c) p q) ok h).1 in
      subst (λ (t : Listing A). front ≡ front_of t.start (published t.list)) (sym after) (is ∙ ap (front_of p.start) (sym (laws.prune p.list c)))

  pub longer : (seqno : ℕ) (writes : List Write) → IsPublish seqno writes p q r → seqno ≡ front_of q.start (published q.list)
  longer seqno writes h =
      let after = (subst (IsPublish seqno writes p q) ok h).2 in
      let pair = pair_of seqno writes in
      subst (λ (t : Listing A). seqno ≡ front_of t.start (published t.list)) (sym after) (sym (ap (front_of p.start) (laws.publish p.list pair) ∙ laws.front p.start (published p.list) pair))
