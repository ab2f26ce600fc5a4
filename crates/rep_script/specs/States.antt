-- The state of a node as a text.
use Rattle.std.specs.Prelude.{◌≡◌, ◌≢◌, ℕ, false, List, Option, None, Some}
use Rattle.uuid.specs.Parts.{is_nil_bytes}
use Rattle.rep_types.specs.Gtids.{Gtid}
use Rattle.rep_saved.specs.declared.saved.SavedState.{SavedState}
use Rattle.rep_saved.specs.Saved.{saved_text}

-- A saved state is of another cluster than a node with this UUID: it names a cluster, and it is not the node's. The nil UUID names
-- none.
abbrev pub IsOfAnother : Option SavedState → List ℕ → Type 0
IsOfAnother None uuid = ⊥
IsOfAnother (Some saved) uuid = (is_nil_bytes saved.gtid.uuid ≡ false) × (saved.gtid.uuid ≢ uuid)

-- how the state of a node at this GTID is written: it is not said to be safe to bootstrap
abbrev pub node_text : Gtid → List ℕ
node_text gtid = saved_text (record { gtid = gtid; safe_to_bootstrap = false })
