-- How a checkpoint stands, and what is so of it on any device.
use Rattle.std.specs.Prelude.{◌≡◌, ℕ, ◌+◌, ◌<◌, true, false, List, [], ◌∷◌}
use Rattle.rep_types.specs.declared.key.Key.{Key}
use Rattle.rep_layout.specs.declared.super_body.SuperBody.{SuperBody}
use Rattle.rep_layout.specs.declared.page_state.PageState.TheVariants.{In}
use Rattle.rep_layout.specs.declared.place.Side.{Side}
use Rattle.rep_layout.specs.Places.{side_of}
use Rattle.rep_layout.specs.Supers.{IsSuper}
use Rattle.rep_layout.specs.Windows.{IsWindowBody}
use Rattle.rep_pages.specs.Slots.{state_of_page, spare_slot}
use Rattle.rep_pages.specs.Pages.{IsFirstRow}
use Rattle.rep_steps.specs.Standings.{Goal, Part as PartOf, Stage as StageOf, Flushing as to_flushing, Saving as to_saving, Ready as to_ready, SuperFilling as to_filling, SuperFilled as to_filled, SuperOpening as to_opening, Off as is_off, Toward as is_toward, Retiring as is_retiring}
use Rattle.rep_image.specs.Bases.{other}
use Rattle.rep_checkpoint.specs.declared.stage.Part.{Part}
use Rattle.rep_checkpoint.specs.declared.stage.Part.TheVariants.{Flushing, Saving, Ready, SuperFilling, SuperFilled, SuperOpening}
use Rattle.rep_checkpoint.specs.declared.stage.Stage.{Stage}
use Rattle.rep_checkpoint.specs.declared.stage.Stage.TheVariants.{Off, Toward, Retiring}
use Rattle.rep_checkpoint.specs.declared.stage.Step.{Step}
use Rattle.rep_checkpoint.specs.declared.stage.Step.TheVariants.{Begin, Flush, Next as GoOn, Sync}
use Rattle.rep_checkpoint.specs.Next.{Next, is_in, window_of}

-- what a checkpoint knows of itself: the superblock of the base, and where it is
pub record Standing : Type 0 where
  pub base : SuperBody
  pub stage : Stage

-- the side on which the next superblock is written, and its window
abbrev pub spare_side : SuperBody → Side
spare_side b = other (side_of b.number)

-- ---- as the facts of a replica see it

abbrev pub goal_of : Next → Goal
goal_of next = record { position = next.super.position; start = next.super.start }

abbrev pub part_of : Next → Part → PartOf
part_of next Flushing = to_flushing next.left
part_of next Saving = to_saving
part_of next Ready = to_ready
part_of next SuperFilling = to_filling
part_of next SuperFilled = to_filled
part_of next SuperOpening = to_opening

abbrev pub stage_in : Stage → StageOf
stage_in Off = is_off
stage_in (Toward next part) = is_toward (goal_of next) (part_of next part)
stage_in (Retiring written) = is_retiring written

abbrev pub stage_of : Standing → StageOf
stage_of c = stage_in c.stage

-- the pages that are left
abbrev pub left_in : Stage → List ℕ
left_in Off = []
left_in (Toward next Flushing) = next.left
left_in (Toward next part) = []
left_in (Retiring written) = []

-- what is due: the first of the pages that are left, or the write behind them
abbrev pub flush_due : List ℕ → Step
flush_due [] = GoOn
flush_due (page ∷ left) = Flush page

abbrev pub due_in : Stage → Step
due_in Off = Begin
due_in (Toward next Flushing) = flush_due next.left
due_in (Toward next Saving) = Sync
due_in (Toward next Ready) = GoOn
due_in (Toward next SuperFilling) = Sync
due_in (Toward next SuperFilled) = GoOn
due_in (Toward next SuperOpening) = Sync
due_in (Retiring false) = GoOn
due_in (Retiring true) = Sync

-- ---- what holds on any device

-- The next base can follow this one: its superblock and its window are of the form, of the same cluster and parameters and of a
-- later position; and the pages that are left are of the schema, and turned to the slots that the base doesn't use.
pub record IsNext (base : SuperBody) (next : Next) : Type 0 where
  pub is_super : IsSuper next.super
  pub number : next.super.number ≡ base.number + 1
  pub uuid : next.super.uuid ≡ base.uuid
  pub params : next.super.params ≡ base.params
  pub later : base.position < next.super.position
  pub is_window : IsWindowBody next.super.params (window_of next)
  pub pages : (page : ℕ) → is_in next.left page ≡ true → (first : Key) × IsFirstRow base.params.rows page first
  pub turned : (page : ℕ) → is_in next.left page ≡ true → state_of_page next.super page ≡ In (spare_slot (state_of_page base page))

abbrev pub IsGoing : SuperBody → Stage → Type 0
IsGoing base Off = Unit {0}
IsGoing base (Toward next part) = IsNext base next
IsGoing base (Retiring written) = Unit {0}

pub record IsCheckpoint (c : Standing) : Type 0 where
  pub is_super : IsSuper c.base
  pub going : IsGoing c.base c.stage
