-- What the checkpoint's calls refuse, and how it stands after each.
use Rattle.std.specs.Prelude.{◌≡◌, ℕ, zero, suc, ◌+◌, ◌<◌, ◌≤◌, ◌==◌, ◌&&◌, not, Bool, true, false, if◌then◌else◌, List, [], ◌∷◌, ◌++◌, length, filter, slice_index_or, Option, None, Some}
use Rattle.rep_types.specs.declared.refusal.Refusal.{Refusal}
use Rattle.rep_types.specs.declared.refusal.Refusal.TheVariants.{NotDue}
use Rattle.rep_types.specs.declared.limits.TheConstants.{MAX_SEQNO}
use Rattle.rep_types.specs.Windows.{Window as WindowOf}
use Rattle.rep_layout.specs.declared.format.Format.TheVariants.{Two}
use Rattle.rep_layout.specs.declared.super_body.SuperBody.{SuperBody}
use Rattle.rep_layout.specs.declared.page_state.PageState.{PageState}
use Rattle.rep_layout.specs.declared.page_state.PageState.TheVariants.{Nowhere, In}
use Rattle.rep_layout.specs.declared.place.Layout.{Layout}
use Rattle.rep_layout.specs.Places.{layout_of}
use Rattle.rep_layout.specs.Supers.{IsNil}
use Rattle.rep_layout.specs.Windows.{window, IsWindowBody}
use Rattle.rep_pages.specs.Slots.{spare_slot}
use Rattle.rep_steps.specs.Standings.{Stage as StageOf, Off as is_off, Toward as is_toward, Retiring as is_retiring, part_refusal, flush_refusal as flush_refusal_at}
use Rattle.rep_checkpoint.specs.declared.stage.Part.{Part}
use Rattle.rep_checkpoint.specs.declared.stage.Part.TheVariants.{Flushing, Saving, Ready, SuperFilling, SuperFilled, SuperOpening}
use Rattle.rep_checkpoint.specs.declared.stage.Stage.{Stage}
use Rattle.rep_checkpoint.specs.declared.stage.Stage.TheVariants.{Off, Toward, Retiring}
use Rattle.rep_checkpoint.specs.Next.{Next, is_in}
use Rattle.rep_checkpoint.specs.Standing.{Standing, stage_of}

-- ---- what is refused

-- whether the places are those of these parameters: nothing is due on others
abbrev pub is_layout : Layout → Layout → Bool
is_layout l k = (l.cells == k.cells) && (l.pages == k.pages)

abbrev pub unless_other : Layout → Standing → Option Refusal → Option Refusal
unless_other l c refusal = if is_layout l (layout_of c.base.params) then refusal else Some NotDue

-- of a page, as for a replica
abbrev pub flush_refusal : Layout → Standing → ℕ → Option Refusal
flush_refusal l c page = unless_other l c (flush_refusal_at (stage_of c) page)

-- of the write that comes next, as for a replica; none does where no checkpoint is under way
abbrev pub next_refusal_at : StageOf → Option Refusal
next_refusal_at is_off = Some NotDue
next_refusal_at (is_toward goal part) = part_refusal part
next_refusal_at (is_retiring written) = if written then Some NotDue else None

abbrev pub next_refusal : Layout → Standing → Option Refusal
next_refusal l c = unless_other l c (next_refusal_at (stage_of c))

-- A checkpoint to this position can begin: none is under way, the position is above the base's and at most the greatest, the node
-- is of a cluster, and a superblock and a window can say so.
pub record CanBegin (c : Standing) (position start : ℕ) (v : WindowOf) : Type 0 where
  pub off : c.stage ≡ Off
  pub later : c.base.position < position
  pub limit : position ≤ MAX_SEQNO
  pub started : start ≤ position
  pub defined : IsNil c.base.uuid → ⊥
  pub is_window : IsWindowBody c.base.params (window Two (c.base.number + 1) position v)

-- ---- how it stands after a call

-- where the next superblock has a page: in the slot in which the base hasn't it, where it is to be flushed
abbrev pub turn : PageState → Bool → PageState
turn state left = if left then In (spare_slot state) else state

-- of the first so many pages
abbrev pub turned : ℕ → List PageState → List ℕ → List PageState
turned zero states left = []
turned (suc n) states left = turned n states left ++ turn (slice_index_or states n Nowhere) (is_in left n) ∷ []

-- the superblock behind this one, at this position and with this first cell, for which these pages are flushed: it is of format 2, which
-- tells every window
abbrev pub next_super : SuperBody → ℕ → ℕ → List ℕ → SuperBody
next_super b position start left = record {
  format = Two;
  number = b.number + 1;
  uuid = b.uuid;
  params = b.params;
  position = position;
  start = start;
  pages = record { items = turned (length b.pages.items) b.pages.items left };
}

abbrev pub next_of : SuperBody → ℕ → ℕ → WindowOf → List ℕ → Next
next_of b position start v left = record { super = next_super b position start left; window = v; left = left }

abbrev pub begun : Standing → ℕ → ℕ → WindowOf → List ℕ → Standing
begun c position start v left = record c { stage = Toward (next_of c.base position start v left) Flushing }

-- a page is no longer left
abbrev pub without : ℕ → Next → Next
without page next = record next { left = filter (λ (p : ℕ). not (p == page)) next.left }

abbrev pub flushed_in : ℕ → Stage → Stage
flushed_in page Off = Off
flushed_in page (Toward next part) = Toward (without page next) part
flushed_in page (Retiring written) = Retiring written

abbrev pub flushed : ℕ → Standing → Standing
flushed page c = record c { stage = flushed_in page c.stage }

-- the position that the next base is to be at
abbrev pub position_in : Stage → ℕ
position_in Off = 0
position_in (Toward next part) = next.super.position
position_in (Retiring written) = 0

-- what comes next was written
abbrev pub next_part : Part → Part
next_part Flushing = Saving
next_part Ready = SuperFilling
next_part SuperFilled = SuperOpening
next_part part = part

abbrev pub gone_in : Stage → Stage
gone_in Off = Off
gone_in (Toward next part) = Toward next (next_part part)
gone_in (Retiring written) = Retiring true

abbrev pub gone_on : Standing → Standing
gone_on c = record c { stage = gone_in c.stage }

-- after a sync that succeeds
abbrev pub synced_in : Standing → Stage → Standing
synced_in c Off = c
synced_in c (Toward next Flushing) = c
synced_in c (Toward next Saving) = record c { stage = Toward next Ready }
synced_in c (Toward next Ready) = c
synced_in c (Toward next SuperFilling) = record c { stage = Toward next SuperFilled }
synced_in c (Toward next SuperFilled) = c
synced_in c (Toward next SuperOpening) = record { base = next.super; stage = Retiring false }
synced_in c (Retiring false) = c
synced_in c (Retiring true) = record c { stage = Off }

abbrev pub after_sync : Standing → Standing
after_sync c = synced_in c c.stage

-- whether it makes the next base the base
abbrev pub is_opening : Stage → Bool
is_opening (Toward next SuperOpening) = true
is_opening stage = false

-- the checkpoint that an opening finds: the other superblock has to be retired where it stands open too
abbrev pub stage_found : Bool → Stage
stage_found both = if both then Retiring false else Off

abbrev pub found_at : SuperBody → Bool → Standing
found_at b both = record { base = b; stage = stage_found both }
