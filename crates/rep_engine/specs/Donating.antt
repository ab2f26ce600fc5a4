-- What a donor reads for a joiner: the base's window and pages, and the durable blocks behind it.
use Rattle.std.specs.Prelude.{◌≡◌, ◌⊎◌, ℕ, ◌+◌, ◌-◌, List, [], length, take, Option, None, Some, Result, Err, IfOk, IfErr, IfSome, get_or}
use Rattle.rep_types.specs.declared.key.Key.{Key}
use Rattle.rep_types.specs.declared.judged.Judged.{Judged}
use Rattle.rep_types.specs.declared.refusal.Refusal.{Refusal}
use Rattle.rep_types.specs.declared.refusal.Refusal.TheVariants.{Stopped, DiskFault, Corrupt}
use Rattle.rep_types.specs.declared.refusal.Part.{Part}
use Rattle.rep_types.specs.Settings.{IsRow}
use Rattle.rep_types.specs.Windows.{Window as Kept}
use Rattle.rep_record.specs.Blocks.{Contents, IsBlock, block_bytes}
use Rattle.rep_disk.specs.declared.disk.Disk.{Ghosts}
use Rattle.rep_disk.specs.History.{History, IsImage}
use Rattle.rep_disk.specs.Devices.{Calls, SameHistory}
use Rattle.rep_layout.specs.declared.place.Layout.{Layout}
use Rattle.rep_layout.specs.declared.place.Slot.{Slot}
use Rattle.rep_layout.specs.declared.place.Place.TheVariants.{Window as in_window_area}
use Rattle.rep_layout.specs.declared.page_state.PageState.TheVariants.{In}
use Rattle.rep_layout.specs.declared.super_body.SuperBody.{SuperBody}
use Rattle.rep_layout.specs.Places.{log_of, side_of}
use Rattle.rep_layout.specs.Rows.{row_place}
use Rattle.rep_layout.specs.Windows.{Window, window_bytes, IsWindowBody, beside}
use Rattle.rep_cells.specs.Readings.{Reading, reading_of}
use Rattle.rep_pages.specs.declared.page.Page.{Page as PageBody}
use Rattle.rep_pages.specs.Images.{row_of}
use Rattle.rep_pages.specs.Pages.{IsPage}
use Rattle.rep_pages.specs.Slots.{state_of_page}
use Rattle.rep_pool.specs.BasePages.{IsBadPage, HasPage}
use Rattle.rep_log.specs.Moves.{fault_of}
use Rattle.rep_log.specs.Standing.{Standing as Log}
use Rattle.rep_log.specs.Tail.{Stand, Shows, records_of}
use Rattle.rep_steps.specs.Nodes.{Node}
use Rattle.rep_engine.specs.Engines.{Engine, OnlyAsks}
use Rattle.rep_engine.specs.Reading.{halted_by}

-- The device is asked, and nothing else changes but whether the engine is stopped: a stopped engine refuses, and one that the device
-- fails is stopped. What isn't of its form is refused as corrupt.
pub record Asks {D T : Type 0} (g : Ghosts D) (part : Part) (old new : Engine D) (result : Result T Refusal) : Type 0 where
  pub call : Calls g old.disk new.disk (fault_of result)
  pub same : SameHistory g old.disk new.disk
  pub rest : OnlyAsks old new
  pub stopped : IfSome old.halted (λ _. (result ≡ Err Stopped) × (new ≡ old))
  pub running : old.halted ≡ None → (new.halted ≡ halted_by old.log.phase result) × IfErr result (λ e. (e ≡ DiskFault) ⊎ (e ≡ Corrupt part))

-- ---- the blocks behind the base

-- The durable blocks of a node, as its device has them: they hold its durable items behind its base, and stand so in every image.
pub record IsTail (n : Node) (l : Layout) (h : History) (base : SuperBody) (log : Log) (blocks : List (List Judged)) : Type 0 where
  pub items : records_of blocks ≡ take (n.facts.durable - n.facts.base) n.items
  pub count : log.next ≡ log.start + length blocks
  pub stand : (image : List ℕ) → IsImage h image → Stand (Shows (reading_of l image) l) log.start (base.position + 1) blocks

-- So there is one such list at most.
abbrev pub TheTailIsTold : Type 0
TheTailIsTold = (n : Node) (l : Layout) (h : History) (base : SuperBody) (log : Log) (a b : List (List Judged)) → IsTail n l h base log a → IsTail n l h base log b → a ≡ b

-- The block of this index behind the base, of a node.
pub record IsTailBlock (n : Node) (l : Layout) (h : History) (base : SuperBody) (log : Log) (index : ℕ) (records : List Judged) : Type 0 where
  pub blocks : List (List Judged)
  pub tail : IsTail n l h base log blocks
  pub here : records ≡ get_or blocks index []

-- The bytes of a reading decide: what is given is the block of this number as they spell it, and it is corrupt only where they spell none.
pub record IsBlockAsSpelled (r : Reading) (l : Layout) (number : ℕ) (result : Result (Option Contents) Refusal) (part : Part) : Type 0 where
  pub block : IfOk result (λ found. IfSome found (λ b. r (log_of l number) ≡ Some (block_bytes number b.records)))
  pub corrupt : result ≡ Err (Corrupt part) → (records : List Judged) → IsBlock number records → r (log_of l number) ≡ Some (block_bytes number records) → ⊥

-- ---- the base

-- The rows of the page are those of the content, and where the base has it in a slot it is one of the schema.
pub record IsBasePage (b : SuperBody) (content : Key → Option (List ℕ)) (number : ℕ) (page : PageBody) : Type 0 where
  pub is_it : page.number ≡ number
  pub form : (slot : Slot) → state_of_page b number ≡ In slot → (first : Key) × IsPage b.params.rows first page
  pub rows : (key : Key) → IsRow b.params.rows key → (row_place b.params.rows key).page ≡ number → content key ≡ row_of b.params.rows page.rows key

-- Rows of a page that the base has in no slot are absent.
abbrev pub HasNoRow : SuperBody → (Key → Option (List ℕ)) → ℕ → Type 0
HasNoRow b content number = (key : Key) → IsRow b.params.rows key → (row_place b.params.rows key).page ≡ number → content key ≡ None

-- The bytes of a reading decide: what is given is the window beside this superblock as they spell it, and it is corrupt only where they spell
-- none of its format, number and position.
pub record IsWindowAsSpelled (r : Reading) (b : SuperBody) (result : Result Window Refusal) (part : Part) : Type 0 where
  pub given : IfOk result (λ w. r (in_window_area (side_of b.number)) ≡ Some (window_bytes w))
  pub corrupt : result ≡ Err (Corrupt part) → (v : Kept) → IsWindowBody b.params (beside b v) → r (in_window_area (side_of b.number)) ≡ Some (window_bytes (beside b v)) → ⊥

-- So it is with a page of the superblock's.
pub record IsBasePageAsSpelled (r : Reading) (b : SuperBody) (number : ℕ) (result : Result (Option PageBody) Refusal) (part : Part) : Type 0 where
  pub given : IfOk result (λ found. IfSome found (HasPage r b number))
  pub corrupt : result ≡ Err (Corrupt part) → IsBadPage r b number
