-- What follows from how a checkpoint stands.
use Rattle.std.specs.Prelude.{◌≡◌, ◌≢◌, ◌⊎◌, ℕ, Bool, false, is_some, List, Option}
use Rattle.rep_types.specs.declared.key.Key.{Key}
use Rattle.rep_types.specs.declared.judged.Judged.{Judged}
use Rattle.rep_types.specs.Order.{State}
use Rattle.rep_types.specs.Windows.{Window as WindowOf}
use Rattle.rep_disk.specs.History.{History, seen}
use Rattle.rep_layout.specs.declared.super_body.SuperBody.{SuperBody}
use Rattle.rep_layout.specs.declared.place.Layout.{Layout}
use Rattle.rep_layout.specs.declared.place.Place.{Place}
use Rattle.rep_layout.specs.declared.place.Place.TheVariants.{Super, Log}
use Rattle.rep_layout.specs.Places.{layout_of}
use Rattle.rep_layout.specs.Supers.{IsSuper}
use Rattle.rep_cells.specs.Readings.{Reading, reading_of}
use Rattle.rep_cells.specs.States.{States, Allowed}
use Rattle.rep_cells.specs.Known.{Assigns, found}
use Rattle.rep_pages.specs.declared.page.Page.{Page as PageBody}
use Rattle.rep_pages.specs.Rows.{row_at}
use Rattle.rep_log.specs.Standing.{Standing as LogStanding, LogIs}
use Rattle.rep_steps.specs.Standings.{Standing as Facts, Toward as is_toward, Flushing as to_flushing, check_refusal}
use Rattle.rep_steps.specs.Moves.{checked, flushed as flushed_at, synced_stage, base_after, start_after}
use Rattle.rep_image.specs.Bases.{IsChosen, HasWindow, HasContent}
use Rattle.rep_image.specs.Standing.{IsBaseAt}
use Rattle.rep_checkpoint.specs.declared.stage.Part.TheVariants.{SuperOpening}
use Rattle.rep_checkpoint.specs.declared.stage.Stage.TheVariants.{Off, Toward}
use Rattle.rep_checkpoint.specs.Next.{Next}
use Rattle.rep_checkpoint.specs.Standing.{Standing, spare_side, stage_of}
use Rattle.rep_checkpoint.specs.Moves.{begun, flushed, gone_on, after_sync, is_opening, found_at, next_refusal_at}
use Rattle.rep_checkpoint.specs.States.{CheckpointIs}
use Rattle.rep_checkpoint.specs.Pages.{IsStable, AreRows}
use Rattle.rep_pool.specs.BasePages.{IsBadPage, HasPage}

-- ---- what an image has as its base

-- A reading has this base, whole: the superblock that counts, the window beside it, and its pages, which say this state.
pub record HasBase (size : ℕ) (r : Reading) (b : SuperBody) (x : State) : Type 0 where
  pub chosen : IsChosen size r b
  pub position : x.position ≡ b.position
  pub window : HasWindow r b x.kept
  pub content : HasContent r b x.content

-- It is the base that stands, or the next one while its gate opens.
abbrev pub IsOneOf : Standing → State → State → SuperBody → State → Type 0
IsOneOf c x y b z = ((b ≡ c.base) × (z ≡ x)) ⊎ ((next : Next) × (c.stage ≡ Toward next SuperOpening) × (b ≡ next.super) × (z ≡ y))

-- In every image the base is the one that stands, or the next one while its gate opens, whole.
abbrev pub TheBaseInEveryImage : Type 0
TheBaseInEveryImage =
    (size : ℕ) (l : Layout) (s : States) (r : Reading) (c : Standing) (x y : State) → l ≡ layout_of c.base.params → CheckpointIs size c x y s → Allowed l s r
    → (b : SuperBody) × (z : State) × IsOneOf c x y b z × HasBase size r b z

-- But for that moment the base stands as one that stands still.
abbrev pub TheBaseStandsStill : Type 0
TheBaseStandsStill = (size : ℕ) (c : Standing) (x y : State) (s : States) → is_opening c.stage ≡ false → CheckpointIs size c x y s → IsBaseAt size c.base x.kept s

-- The states that a device shows on which nothing is pending are those of a checkpoint at the base that its bytes have.
abbrev pub TheBaseIsFound : Type 0
TheBaseIsFound =
    (size : ℕ) (l : Layout) (bytes : List ℕ) (b : SuperBody) (both : Bool) (x y : State) → HasBase size (reading_of l bytes) b x
    → both ≡ is_some (reading_of l bytes (Super (spare_side b))) → CheckpointIs size (found_at b both) x y (found l bytes)

-- ---- beside the log

-- What the log's calls do leaves the checkpoint as it stands, and what the checkpoint's do leaves the log.
abbrev pub TheLogIsApart : Type 0
TheLogIsApart = (size : ℕ) (c : Standing) (x y : State) (s t : States) → ((place : Place) → ((i : ℕ) → place ≢ Log i) → t place ≡ s place) → CheckpointIs size c x y s → CheckpointIs size c x y t

abbrev pub TheCheckpointIsApart : Type 0
TheCheckpointIsApart =
    (l : Layout) (log : LogStanding) (first : ℕ) (blocks : List (List Judged)) (sealed : List Judged) (s t : States) → ((i : ℕ) → t (Log i) ≡ s (Log i))
    → LogIs l log first blocks sealed s → LogIs l log first blocks sealed t

-- ---- as the facts of a replica see it

-- What the calls make of a checkpoint is what the events make of the facts' stage, base and first cell; and a check that goes on is
-- refused where its write is.
pub record TheStageIsTheFacts : Type 0 where
  pub begun : (c : Standing) (position start : ℕ) (v : WindowOf) (left : List ℕ) → stage_of (begun c position start v left) ≡ is_toward (record { position = position; start = start }) (to_flushing left)
  pub flushed : (c : Standing) (page : ℕ) → stage_of (flushed page c) ≡ flushed_at page (stage_of c)
  pub gone_on : (facts : Facts) (left : List ℕ) (c : Standing) → c.stage ≢ Off → stage_of (gone_on c) ≡ checked facts left (stage_of c)
  pub refused : (facts : Facts) (c : Standing) → c.stage ≢ Off → next_refusal_at (stage_of c) ≡ check_refusal facts (stage_of c)
  pub synced : (c : Standing) → stage_of (after_sync c) ≡ synced_stage (stage_of c)
  pub base : (c : Standing) → (after_sync c).base.position ≡ base_after c.base.position (stage_of c)
  pub start : (c : Standing) → (after_sync c).base.start ≡ start_after c.base.start (stage_of c)

-- ---- what the bytes say of a page

-- It is one thing: a reading that has the page has no bad one there, and none of other rows.
pub record BytesTellThePage : Type 0 where
  pub none : (r : Reading) (b : SuperBody) (number : ℕ) (page : PageBody) → HasPage r b number page → IsBadPage r b number → ⊥
  pub rows : (r : Reading) (b : SuperBody) (number : ℕ) (page other : PageBody) → HasPage r b number page → HasPage r b number other → (index : ℕ) → row_at page.rows index ≡ row_at other.rows index

-- What is read of a base that stands is its content: a page that the bytes have has its rows, and none is bad.
pub record StableBasesAreRead : Type 0 where
  pub rows : (l : Layout) (h : History) (b : SuperBody) (s : States) (content : Key → Option (List ℕ)) (number : ℕ) (page : PageBody) → IsSuper b → l ≡ layout_of b.params → Assigns l h s → IsStable b content s
      → HasPage (reading_of l (seen h)) b number page → AreRows b.params.rows number content page
  pub whole : (l : Layout) (h : History) (b : SuperBody) (s : States) (content : Key → Option (List ℕ)) (number : ℕ) → IsSuper b → l ≡ layout_of b.params → Assigns l h s → IsStable b content s
      → IsBadPage (reading_of l (seen h)) b number → ⊥
