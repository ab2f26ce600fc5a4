-- A snapshot on its way: what it is, and what stands of it on a device beside the base.
use Rattle.std.specs.Prelude.{◌≡◌, ◌⊎◌, ℕ, ◌+◌, ◌<◌, ◌≤◌, ◌==◌, ◌&&◌, Bool, List, [], length, replicate, slice_set, None, if◌then◌else◌}
use Rattle.rep_types.specs.declared.key.Key.{Key}
use Rattle.rep_types.specs.declared.limits.TheConstants.{MAX_SEQNO, ROWS_PER_PAGE}
use Rattle.rep_types.specs.Settings.{has_row}
use Rattle.rep_types.specs.Order.{State}
use Rattle.rep_types.specs.Windows.{Window as Kept}
use Rattle.rep_forms.specs.Forms.{IsPart}
use Rattle.rep_layout.specs.declared.format.Format.TheVariants.{Two}
use Rattle.rep_layout.specs.declared.super_body.SuperBody.{SuperBody}
use Rattle.rep_layout.specs.declared.page_state.PageState.TheVariants.{Nowhere, In}
use Rattle.rep_layout.specs.declared.place.Place.TheVariants.{Super}
use Rattle.rep_layout.specs.Rows.{row_place}
use Rattle.rep_layout.specs.Supers.{IsSuper, IsNil, super_bytes}
use Rattle.rep_layout.specs.Windows.{window, IsWindowBody}
use Rattle.rep_cells.specs.States.{States}
use Rattle.rep_pages.specs.Rows.{Rows}
use Rattle.rep_pages.specs.Images.{row_of}
use Rattle.rep_pages.specs.Pages.{IsFirstRow, EndWithTheTable}
use Rattle.rep_pages.specs.Slots.{state_of_page, spare_slot}
use Rattle.rep_checkpoint.specs.declared.stage.Part.{Part}
use Rattle.rep_checkpoint.specs.declared.stage.Part.TheVariants.{Flushing, Saving, Ready, SuperFilling, SuperFilled, SuperOpening}
use Rattle.rep_checkpoint.specs.declared.stage.Stage.TheVariants.{Off}
use Rattle.rep_checkpoint.specs.Next.{Next, window_of}
use Rattle.rep_checkpoint.specs.Standing.{Standing, spare_side}
use Rattle.rep_checkpoint.specs.Moves.{next_part}
use Rattle.rep_checkpoint.specs.States.{IsBase, IsFar, cell_in}

-- A snapshot on its way: the base that it makes, and how far that is. While its pages come, its superblock has in a slot those that
-- came, and none is left.
pub record Coming : Type 0 where
  pub next : Next
  pub part : Part

-- the superblock behind this one, of this cluster and position and with this first cell; no page is in a slot yet
abbrev pub coming_super : SuperBody → List ℕ → ℕ → ℕ → SuperBody
coming_super b uuid position start = record {
  format = Two;
  number = b.number + 1;
  uuid = uuid;
  params = b.params;
  position = position;
  start = start;
  pages = record { items = replicate (length b.pages.items) Nowhere };
}

abbrev pub coming : SuperBody → List ℕ → ℕ → ℕ → Kept → Coming
coming b uuid position start v = record { next = record { super = coming_super b uuid position start; window = v; left = [] }; part = Flushing }

-- A snapshot can come: no checkpoint is under way; it is of the node's cluster and of a later position, or the node belongs to no
-- cluster yet; and a superblock and a window can say so.
pub record CanInstall (c : Standing) (uuid : List ℕ) (position start : ℕ) (v : Kept) : Type 0 where
  pub off : c.stage ≡ Off
  pub sixteen : IsPart 16 uuid
  pub defined : IsNil uuid → ⊥
  pub cluster : (uuid ≡ c.base.uuid) ⊎ IsNil c.base.uuid
  pub later : (c.base.position < position) ⊎ IsNil c.base.uuid
  pub limit : position ≤ MAX_SEQNO
  pub started : start ≤ position
  pub is_window : IsWindowBody c.base.params (window Two (c.base.number + 1) position v)

-- What is so of it on any device: it can follow the base, and the pages that came are in the slots that the base doesn't use.
pub record IsComing (base : SuperBody) (next : Next) : Type 0 where
  pub is_super : IsSuper next.super
  pub number : next.super.number ≡ base.number + 1
  pub params : next.super.params ≡ base.params
  pub defined : IsNil next.super.uuid → ⊥
  pub is_window : IsWindowBody next.super.params (window_of next)
  pub none : next.left ≡ []
  pub turned : (page : ℕ) → (state_of_page next.super page ≡ Nowhere) ⊎ (state_of_page next.super page ≡ In (spare_slot (state_of_page base page)))

-- ---- how it goes on

-- with this page in the slot that the base doesn't use
abbrev pub placed_in : SuperBody → ℕ → SuperBody → SuperBody
placed_in base page b = record b { pages = record { items = slice_set b.pages.items page (In (spare_slot (state_of_page base page))) } }

abbrev pub placed : SuperBody → ℕ → Coming → Coming
placed base page i = record i { next = record i.next { super = placed_in base page i.next.super } }

-- what comes next was written; and after a sync that succeeds
abbrev pub gone : Coming → Coming
gone i = record i { part = next_part i.part }

abbrev pub synced_part : Part → Part
synced_part Saving = Ready
synced_part SuperFilling = SuperFilled
synced_part part = part

abbrev pub settled : Coming → Coming
settled i = record i { part = synced_part i.part }

-- A write is due: of the window behind the pages, of the superblock's body, or of its open gate.
abbrev pub IsDue : Part → Type 0
IsDue Flushing = Unit {0}
IsDue Saving = ⊥
IsDue Ready = Unit {0}
IsDue SuperFilling = ⊥
IsDue SuperFilled = Unit {0}
IsDue SuperOpening = ⊥

-- The page can come: it is one of the schema, with no row past the end of its table, and it didn't come yet.
pub record IsNewPage (base : SuperBody) (next : Next) (page : ℕ) (rows : Rows) : Type 0 where
  pub first : Key
  pub begins : IsFirstRow base.params.rows page first
  pub size : length rows ≡ ROWS_PER_PAGE
  pub past : EndWithTheTable base.params.rows page rows
  pub new : state_of_page next.super page ≡ Nowhere

-- ---- the state that it brings

-- the state without a row
abbrev pub blank : ℕ → Kept → State
blank position v = record { position = position; content = λ key. None; kept = v }

-- whether the key is a row of this page
abbrev pub is_of_page : List ℕ → ℕ → Key → Bool
is_of_page schema page key = has_row schema key && ((row_place schema key).page == page)

-- the state with the rows of one page more
abbrev pub with_page : List ℕ → ℕ → Rows → State → State
with_page schema page rows y = record y { content = λ key. if is_of_page schema page key then row_of schema rows key else y.content key }

-- ---- the states of the places

-- The base stands and names x, and the snapshot is as far beside it as it says, and brings y.
pub record InstallationIs (size : ℕ) (base : SuperBody) (i : Coming) (x y : State) (s : States) : Type 0 where
  pub stands : IsBase size base x s
  pub coming : IsComing base i.next
  pub position : y.position ≡ i.next.super.position
  pub kept : y.kept ≡ i.next.window
  pub far : IsFar i.part (spare_side base) i.next y s
  pub cell : s (Super (spare_side base)) ≡ cell_in i.part (super_bytes i.next.super)
