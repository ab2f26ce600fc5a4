-- What certifier and engine are while a checkpoint is lent the certifier, and what a checkpoint came to.
use Rattle.std.specs.Prelude.{◌≡◌, ℕ, ◌+◌, ◌≤◌, max, List, ◌++◌, take, Option, None, Some}
use Rattle.rep_types.specs.declared.judged.Judged.{Judged}
use Rattle.rep_types.specs.declared.limits.TheConstants.{MAX_AHEAD}
use Rattle.rep_disk.specs.declared.disk.Disk.{Ghosts}
use Rattle.rep_cert.specs.Holdings.{Holding}
use Rattle.rep_engine.specs.Engines.{Engine, durable_of}
use Rattle.rep_stations.specs.Judging.{HasJudged}
use Rattle.rep_stations.specs.Taking.{HasTaken}
use Rattle.rep_checkpoint.specs.declared.stage.Stage.TheVariants.{Off}
use Rattle.rep_checkpoint.specs.declared.stage.Step.{Step}
use Rattle.rep_checkpoint.specs.declared.stage.Step.TheVariants.{Begin, Flush, Next, Sync}
use Rattle.rep_snap.specs.Lists.{oldest_of, published}
use Rattle.rep_snap.specs.Views.{telling}
use Rattle.rep_ordered.specs.declared.view.View.{View}
use Rattle.rep_node.specs.declared.home.Desk.{Desk}
use Rattle.rep_node.specs.declared.home.Home.{Home}
use Rattle.rep_node.specs.declared.checking.Checked.{Checked}
use Rattle.rep_node.specs.Publishing.{shown}
use Rattle.rep_node.specs.Homes.{Start, Begins, DeskAt, IsLegalBehind, position_of, values_of}

-- The certifier has judged what the engine has taken, and perhaps more, of one legal history, and is not too far ahead: so it holds the
-- window that a checkpoint asks for.
pub record MayLend {D : Type 0} (g : Ghosts D) (s : Start D) (taken more : List Judged) (h : Holding) (e : Engine D) : Type 0 where
  pub begins : Begins g s
  pub legal : IsLegalBehind s.certifier.current (taken ++ more)
  pub judged : HasJudged s.certifier.current (taken ++ more) h
  pub engine : HasTaken g s.desk.engine s.certifier.current taken e
  pub near : h.delivered ≤ durable_of e.log + MAX_AHEAD

-- What is said of a desk, by the step that was due: where the base stands and what readers may be told where a checkpoint may begin, and so none
-- is under way; and else nothing.
abbrev pub said_of : {D : Type 0} → Step → Desk D → Option Checked
said_of Begin d = Some (record { base = d.engine.checkpoint.base.position; told = telling d.publisher })
said_of (Flush page) d = None
said_of Next d = None
said_of Sync d = None

-- Where no checkpoint is under way, the base stands at what is durable: so none may begin.
abbrev pub HasNoneDue : {D : Type 0} → Engine D → Type 0
HasNoneDue e = e.checkpoint.stage ≡ Off → durable_of e.log ≤ e.checkpoint.base.position

-- An engine was found at the desk that has none to begin.
pub record FoundNoneDue {D : Type 0} (g : Ghosts D) (s : Start D) (w : View (Home D) Judged) : Type 0 where
  pub desk : Desk D
  pub here : DeskAt g s 0 w.seen desk
  pub none : HasNoneDue desk.engine

-- readers find no snapshot below the base, and each from there on
abbrev pub IsPruned : {D : Type 0} → Start D → Desk D → Type 0
IsPruned s d = oldest_of (position_of s) d.publisher.list ≡ max (position_of s) d.engine.checkpoint.base.position

-- What a checkpoint came to: a base that is durable, which the seat has seen so since; and readers may be told a list of items from the start
-- on, each with what it wrote, of which no snapshot below the base is left, and every one from there on.
pub record IsChecked {D : Type 0} (v w : View (Home D) Judged) (checked : Checked) : Type 0 where
  pub base : v.durable ≤ checked.base
  pub durable : checked.base ≤ w.durable
  pub told : (s : Start D) → v.first ≡ values_of s → checked.told.book ≡ s.desk.publisher.book
  pub oldest : (s : Start D) → v.first ≡ values_of s → oldest_of (position_of s) checked.told.list ≡ max (position_of s) checked.base
  pub list : (s : Start D) → v.first ≡ values_of s → (count : ℕ) × (published checked.told.list ≡ shown (take count w.seen)) × (checked.base ≤ position_of s + count)

-- the same for any seat of the node that had seen no more durable than the base
abbrev pub EndsAt : {D : Type 0} → List (Home D) → View (Home D) Judged → Checked → Type 0
EndsAt {D} first w checked = (v : View (Home D) Judged) → v.first ≡ first → v.durable ≤ checked.base → IsChecked v w checked
