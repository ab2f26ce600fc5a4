-- In which slot a page stands, and in which it is written next.
use Rattle.std.specs.Prelude.{ℕ, slice_index_or}
use Rattle.rep_layout.specs.declared.place.Slot.{Slot}
use Rattle.rep_layout.specs.declared.place.Slot.TheVariants.{First, Second}
use Rattle.rep_layout.specs.declared.page_state.PageState.{PageState}
use Rattle.rep_layout.specs.declared.page_state.PageState.TheVariants.{Nowhere, In}
use Rattle.rep_layout.specs.declared.super_body.SuperBody.{SuperBody}

-- in which slot a superblock has a page
abbrev pub state_of_page : SuperBody → ℕ → PageState
state_of_page s page = slice_index_or s.pages.items page Nowhere

-- the slot that isn't the page's: the first where it has none
abbrev pub spare_slot : PageState → Slot
spare_slot Nowhere = First
spare_slot (In First) = Second
spare_slot (In Second) = First
