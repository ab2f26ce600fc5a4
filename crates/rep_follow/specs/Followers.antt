-- Lives of a node that follows the text of an order.
use Rattle.std.specs.Prelude.{◌≡◌, ℕ, ◌+◌, ◌-◌, ◌≤◌, List, [], ◌∷◌, ◌++◌, take, drop}
use Rattle.rep_types.specs.Settings.{Setting}
use Rattle.rep_types.specs.Order.{Order}
use Rattle.rep_disk.specs.declared.disk.Disk.{Ghosts}
use Rattle.rep_replica.specs.Replicas.{facts_of}
use Rattle.rep_replica.specs.Episodes.{Life, Lives, IsFrontIn, LivesFollow}
use Rattle.rep_follow.specs.Committing.{BringNothing, accepted_in}
use Rattle.rep_follow.specs.Taking.{items_in}

-- The lines are of the order behind the first of its items: the items of the lines are the order's next ones.
abbrev pub AreOfOrder : Order → ℕ → List (List ℕ) → Type 0
AreOfOrder O position lines = (rest : Order) × (take position O ++ (items_in (position + 1) lines ++ rest) ≡ O)

-- A life that was fed lines of the order, from a position on that is not behind what was durable at the opening: what was delivered in it are
-- items of these lines, in order and each once, from the one on that follows what was durable.
pub record IsFedLines {D : Type 0} (g : Ghosts D) (O : Order) (life : Life D) : Type 0 where
  pub position : ℕ
  pub lines : List (List ℕ)
  pub most : ℕ
  pub begins : position ≤ (facts_of g life.start).durable
  pub of : AreOfOrder O position lines
  pub own : BringNothing (life.past ++ life.begun)
  pub are : accepted_in (life.past ++ life.begun) ≡ take most (drop ((facts_of g life.start).durable - position) (items_in (position + 1) lines))

abbrev pub AreFedLines : {D : Type 0} → Ghosts D → Order → List (Life D) → Type 0
AreFedLines g O [] = Unit {0}
AreFedLines g O (life ∷ lives) = IsFedLines g O life × AreFedLines g O lives

-- Lives that are fed lines of an order follow it, from an image on that stands for a front of the h items of it that were delivered, with d of
-- them.
abbrev pub FollowersFollowTheOrder : {D : Type 0} → Ghosts D → Type 0
FollowersFollowTheOrder {D} g =
    (before uuid : List ℕ) (p : Setting) (O : Order) (d h : ℕ) (image : List ℕ) (lives : List (Life D)) → IsFrontIn before uuid p O h d image → Lives g image lives → AreFedLines g O lives
    → LivesFollow g before uuid p O d h [] lives
