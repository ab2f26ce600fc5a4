-- What an image means. It knows nothing of who wrote it.
use Rattle.std.specs.Prelude.{◌≡◌, ℕ, ◌+◌, List, [], ◌++◌, length}
use Rattle.rep_types.specs.declared.judged.Judged.{Judged}
use Rattle.rep_types.specs.Order.{Order, items_of, state}
use Rattle.rep_layout.specs.declared.super_body.SuperBody.{SuperBody}
use Rattle.rep_layout.specs.Places.{layout_of}
use Rattle.rep_layout.specs.Supers.{IsNil}
use Rattle.rep_steps.specs.Readings.{Reading, reading_of}
use Rattle.rep_steps.specs.Tail.{IsLog, records_of}
use Rattle.rep_steps.specs.Images.{Meaning, StandsFor, AreJudgedFrom}
use Rattle.rep_image.specs.Bases.{IsChosen, HasWindow, HasContent}

-- What a reading of a device of this size means: the chosen superblock gives UUID, parameters and position; the window beside it
-- and the pages in its slots the rest of the base; and the log from its first cell on the items behind that, each judged again.
-- Without a cluster there is no item.
pub record MeansBy (size : ℕ) (b : SuperBody) (r : Reading) (m : Meaning) : Type 0 where
  pub chosen : IsChosen size r b
  pub uuid : m.uuid ≡ b.uuid
  pub setting : m.setting ≡ b.params
  pub position : m.base.position ≡ b.position
  pub window : HasWindow r b m.base.kept
  pub content : HasContent r b m.base.content
  pub blocks : List (List Judged)
  pub log : IsLog r (layout_of b.params) b.start (b.position + 1) blocks
  pub undefined : IsNil b.uuid → blocks ≡ []
  pub tail : m.tail ≡ records_of blocks
  pub judged : AreJudgedFrom m.setting m.base m.tail

-- What an image means.
pub record Means (image : List ℕ) (m : Meaning) : Type 0 where
  pub super : SuperBody
  pub means : MeansBy (length image) super (reading_of (layout_of super.params) image) m

-- An image means one thing at most.
abbrev pub ImagesMeanOneThing : Type 0
ImagesMeanOneThing = (image : List ℕ) (m n : Meaning) → Means image m → Means image n → m ≡ n

-- Where its base is an order's state, it stands for the order with the items of its log at the end.
abbrev pub ImagesStandForOrders : Type 0
ImagesStandForOrders = (image : List ℕ) (m : Meaning) (L : Order) → Means image m → m.base ≡ state m.setting L
    → StandsFor m.uuid m.setting (L ++ items_of m.tail) m
