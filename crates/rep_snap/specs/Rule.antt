-- The rule of the two copies.
use Rattle.std.specs.Prelude.{◌≡◌, ℕ, List, length, Option, None, Some}
use mathlib.Core.Option as maybe
use lib.ListN.{get_elem?}
use Rattle.rep_types.specs.declared.key.Key.{Key}
use Rattle.rep_versions.specs.Versions.{version_at}
use Rattle.rep_snap.specs.declared.change.Pair.{Pair}
use Rattle.rep_snap.specs.declared.shelf.Sight.{Sight}
use Rattle.rep_snap.specs.declared.shelf.Shelf.{Shelf}
use Rattle.rep_snap.specs.Lists.{published, front_of, oldest_of, Ascends, left}
use Rattle.rep_snap.specs.Views.{Later, Telling}

module _ {A : Type 0} where
  -- the shelf shows its history
  pub record Shows (x : Shelf A) : Type 0 where
    pub count : x.count ≡ length x.sight.seen.log
    pub front : x.front ≡ front_of x.sight.start (published x.sight.seen.log)
    pub oldest : x.oldest ≡ oldest_of x.sight.start x.sight.seen.log
    pub kept : (key : Key) (s : ℕ) → version_at x.kept key s ≡ left x.oldest (published x.sight.seen.log) key s
    pub ascends : Ascends x.sight.start (published x.sight.seen.log)

  -- the second shelf shows the history that was told, which goes on from that of the first
  pub record Leads (x y : Shelf A) (t : Telling) : Type 0 where
    pub shows : Shows y
    pub later : Later x.sight y.sight
    pub book : t.book ≡ y.sight.seen.book
    pub list : t.list ≡ y.sight.seen.log

module _ {A : Type 0} (allows : A → ℕ → List Pair → Type 0) where
  -- the shelf shows its history, whose list is allowed
  pub record Sound (x : Shelf A) : Type 0 where
    pub shows : Shows x
    pub allowed : allows x.sight.basis x.sight.start (published x.sight.seen.log)

  -- what this view has seen is a beginning
  abbrev pub Precedes : Option (Sight A) → Sight A → Type 0
  Precedes None s = Unit {0}
  Precedes (Some t) s = Later t s

  -- what a reader has seen, where this is its view
  abbrev pub Knows : Option (Sight A) → Sight A → Type 0
  Knows None s = ⊥
  Knows (Some t) s = Later s t

  pub record Keeps (x : Shelf A) (views : List (Option (Sight A))) : Type 0 where
    pub sound : Sound x
    pub each : (seat : ℕ) (v : Option (Sight A)) → get_elem? views seat ≡ maybe.some v → Precedes v x.sight

  -- what a step tells: the view is then what is shown
  pub record Shown (v : Option (Sight A)) (x y : Shelf A) (w : Option (Sight A)) : Type 0 where
    pub sound : Sound y
    pub later : Precedes v y.sight
    pub now : w ≡ Some y.sight
