-- What a door gives, and what it is to find it shut.
use Rattle.std.specs.Prelude.{◌≡◌, ◌⊎◌, ℕ, List}
use mathlib.Core.List.{IsPrefix}
use Rattle.rep_snap.specs.declared.change.Pair.{Pair}
use Rattle.rep_snap.specs.declared.shelf.Sight.{Sight}
use Rattle.rep_snap.specs.declared.shelf.Shelf.{Shelf}
use Rattle.rep_snap.specs.Views.{Telling, Watching, Later}
use Rattle.rep_snap.specs.Rule.{Sound}

module _ {A : Type 0} (knows : Sight A → Type 0) where
  -- what was told is of the publisher that is known
  abbrev pub IsTold : Telling → Type 0
  IsTold t = (s : Sight A) × knows s × (t.book ≡ s.seen.book)

  -- nothing that was known is lost
  abbrev pub StillKnows : (Sight A → Type 0) → Type 0
  StillKnows after = (s : Sight A) → knows s → after s

  -- What a reader saw is of the publisher that is known; and it is known itself, or was told.
  pub record IsAt (s : Sight A) (t : Telling) : Type 0 where
    pub known : Sight A
    pub at : knows known
    pub later : Later known s
    pub begins : IsPrefix s.seen.log known.seen.log ⊎ IsPrefix s.seen.log t.list

  -- What is shown is what some allowed list of the same publisher makes, whose history goes on from all that is known and was told.
  pub record Opens (allows : A → ℕ → List Pair → Type 0) (t : Telling) (x : Shelf A) : Type 0 where
    pub sound : Sound allows x
    pub later : (s : Sight A) → knows s → Later s x.sight
    pub told : IsPrefix t.list x.sight.seen.log

module _ {A D : Type 0} (knows : D → Sight A → Type 0) (shut : D → D → Type 0) where
  -- A door at which the reader's publisher was known was found shut.
  pub record FoundShut (v : Watching A) : Type 0 where
    pub sight : Sight A
    pub own : (sight.seen.book ≡ v.book) × (sight.basis ≡ v.basis) × (sight.start ≡ v.start)
    pub before : D
    pub known : knows before sight
    pub after : D
    pub found : shut before after
