-- The steps keep the rule of the two copies.
use Rattle.std.proofs.Common.{ap, fold, ◌≡◌, ◌≢◌, ◌∙◌, refl, sym, subst, ℕ, List, [], ◌∷◌, ◌++◌, Option, None, Some, set, ⊎_elim}
use Rattle.std.proofs.lemmas.List.Sums.{fold-append}
use mathlib.Core.Option.{some}
use lib.ListN.{get_elem?}
use Rattle.crossbeam_utils.specs.Register.{Admits, TurnsAt, Forks, Merges}
use Rattle.atomic_table.proofs.Lists.{at_set, at_snoc}
use Rattle.rep_snap.specs.declared.change.Pair.{Pair}
use Rattle.rep_snap.specs.declared.change.Change.{Change}
use Rattle.rep_snap.specs.declared.shelf.Sight.{Sight}
use Rattle.rep_snap.specs.declared.shelf.Shelf.{Shelf}
use Rattle.rep_snap.specs.Views.{Later, Telling}
use Rattle.rep_snap.specs.Rule.{Shows, Leads, Sound, Precedes, Keeps, Shown}
use Rattle.rep_snap.specs.declared.shelf.Step.{Step}
use Rattle.rep_snap.specs.Lists.{published, Follows}
use Rattle.rep_snap.specs.Shelves.{changed}
use Rattle.rep_snap.proofs.Prefixes.{prefix_self, prefix_trans}
use Rattle.rep_snap.proofs.Changing.{shows_changed}

module _ {A : Type 0} where
  pub later_self : (s : Sight A) → Later s s
  later_self s = record { book = refl; basis = refl; start = refl; seen = prefix_self s.seen.log }

  pub later_trans : (s t u : Sight A) → Later s t → Later t u → Later s u
  later_trans s t u h k = record { book = k.book ∙ h.book; basis = k.basis ∙ h.basis; start = k.start ∙ h.start; seen = prefix_trans s.seen.log t.seen.log u.seen.log h.seen k.seen }

  -- nothing is added yet
  pub leads_none : (x : Shelf A) (added : List Step) (t : Telling) → added ≡ [] → Shows x → t ≡ record { book = x.sight.seen.book; list = x.sight.seen.log } → Leads x (fold changed x added) t
  leads_none x added t none shows told = subst (λ y. Leads x y t) (ap (fold changed x) (sym none))
      (record { shows = shows; later = later_self x.sight; book = ap (λ u. u.book) told; list = ap (λ u. u.list) told })

  -- one more change is added
  pub leads_more : (x : Shelf A) (added more : List Step) (t u : Telling) (step : Step) → more ≡ added ++ step ∷ [] → u ≡ record { book = step.seen.book; list = step.seen.log }
      → Leads x (fold changed x added) t → step.seen.book ≡ t.book → step.seen.log ≡ t.list ++ step.change ∷ [] → Follows x.sight.start t.list step.change → Leads x (fold changed x more) u
  leads_more x added more t u step is told h book log follows =
      let y : Shelf A = fold changed x added in
      let list : step.seen.log ≡ y.sight.seen.log ++ step.change ∷ [] = log ∙ ap (λ l. l ++ step.change ∷ []) h.list in
      let next : Later y.sight (changed y step).sight = record { book = book ∙ h.book; basis = refl; start = refl; seen = (step.change ∷ [], sym list) } in
      subst (λ z. Leads x z u) (sym (ap (fold changed x) is ∙ fold-append changed x added (step ∷ []))) (record {
        shows = shows_changed y step h.shows list (subst (λ (z : ℕ × List Change). Follows z.0 z.1 step.change) (λ i. (sym h.later.start i, h.list i)) follows);
        later = later_trans x.sight y.sight (changed y step).sight h.later next;
        book = ap (λ v. v.book) told;
        list = ap (λ v. v.list) told;
      })

module _ {A : Type 0} (allows : A → ℕ → List Pair → Type 0) where
  abbrev Rule : Shelf A → List (Option (Sight A)) → Type 0
  Rule = Keeps allows

  precedes_later : (v : Option (Sight A)) (s t : Sight A) → Precedes allows v s → Later s t → Precedes allows v t
  precedes_later None s t h k = tt
  precedes_later (Some u) s t h k = later_trans u s t h k

  nowhere : (j : ℕ) (v : Option (Sight A)) → get_elem? [] j ≡ some v → ⊥
  nowhere j v e = cc e

  -- each view among those with one changed
  each_set : (x : Shelf A) (views : List (Option (Sight A))) (seat : ℕ) (w : Option (Sight A))
      → ((j : ℕ) (v : Option (Sight A)) → get_elem? views j ≡ some v → Precedes allows v x.sight) → Precedes allows w x.sight
      → (j : ℕ) (v : Option (Sight A)) → get_elem? (set views seat w) j ≡ some v → Precedes allows v x.sight
  each_set x views seat w h k j v e = ⊎_elim (λ (t : (j ≡ seat) × (w ≡ v)). subst (λ z. Precedes allows z x.sight) t.1 k) (λ (t : (j ≢ seat) × (get_elem? views j ≡ some v)). h j v t.1) (at_set views seat j w v e)

  each_snoc : (x : Shelf A) (views : List (Option (Sight A))) (w : Option (Sight A))
      → ((j : ℕ) (v : Option (Sight A)) → get_elem? views j ≡ some v → Precedes allows v x.sight) → Precedes allows w x.sight
      → (j : ℕ) (v : Option (Sight A)) → get_elem? (views ++ w ∷ []) j ≡ some v → Precedes allows v x.sight
  each_snoc x views w h k j v e = ⊎_elim (h j v) (λ (is : w ≡ v). subst (λ z. Precedes allows z x.sight) is k) (at_snoc views w v j e)

  -- a step to a sound shelf, which goes on from the one before
  pub steps : (seat : ℕ) (v : Option (Sight A)) (x y : Shelf A) → (Sound allows x → Sound allows y × Later x.sight y.sight) → TurnsAt Rule seat v x y (Shown allows)
  steps seat v x y goes views h at =
      let next = goes h.sound in
      let all = λ (j : ℕ) (u : Option (Sight A)) (e : get_elem? views j ≡ some u). precedes_later u x.sight y.sight (h.each j u e) next.1 in (
        Some y.sight,
        record { sound = next.0; each = each_set y views seat (Some y.sight) all (later_self y.sight) },
        record { sound = next.0; later = all seat v at; now = refl },
      )

  pub looks : (seat : ℕ) (v : Option (Sight A)) (x : Shelf A) → TurnsAt Rule seat v x x (Shown allows)
  looks seat v x = steps seat v x x (λ sound. (sound, later_self x.sight))

  pub admits : Admits Rule None
  admits x views h = record { sound = h.sound; each = each_snoc x views None h.each tt }

  pub forks : (seat : ℕ) (v : Option (Sight A)) → Forks Rule seat v v v
  forks seat v x views h at = record { sound = h.sound; each = each_snoc x (set views seat v) v (each_set x views seat v h.each (h.each seat v at)) (h.each seat v at) }

  pub merges : (seat : ℕ) (v : Option (Sight A)) (other : ℕ) (w : Option (Sight A)) → Merges Rule seat v other w w None
  merges seat v other w x views h at apart there =
      let said : Precedes allows w x.sight = ⊎_elim (λ (t : (other ≡ seat) × (w ≡ w)). absurd (apart t.0)) (λ (t : (other ≢ seat) × (get_elem? views other ≡ some w)). h.each other w t.1) (at_set views seat other w w there) in
      record { sound = h.sound; each = each_set x (set views seat w) other None (each_set x views seat w h.each said) tt }

  one : (s : Sight A) (j : ℕ) (v : Option (Sight A)) → get_elem? (None ∷ []) j ≡ some v → Precedes allows v s
  one s j v e = ⊎_elim (λ (none : get_elem? [] j ≡ some v). absurd (nowhere j v none)) (λ (is : None ≡ v). subst (λ z. Precedes allows z s) is tt) (at_snoc [] None v j e)

  pub begins : (x : Shelf A) → Sound allows x → Rule x (None ∷ [])
  begins x sound = record { sound = sound; each = one x.sight }

  -- what was added is sound, if its list is allowed
  pub sound_next : (before x y : Shelf A) (t : Telling) (pairs : List Pair) → x ≡ before → Leads x y t → published t.list ≡ pairs → allows before.sight.basis before.sight.start pairs → Sound allows y
  sound_next before x y t pairs same h list ok =
      let basis : before.sight.basis ≡ y.sight.basis = ap (λ z. z.sight.basis) (sym same) ∙ sym h.later.basis in
      let start : before.sight.start ≡ y.sight.start = ap (λ z. z.sight.start) (sym same) ∙ sym h.later.start in
      let shown : pairs ≡ published y.sight.seen.log = sym list ∙ ap published h.list in
      record { shows = h.shows; allowed = subst (λ (z : A × ℕ × List Pair). allows z.0 z.1 z.2) (λ i. (basis i, start i, shown i)) ok }
