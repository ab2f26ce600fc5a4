-- How items come from the backlog into an engine.
use Rattle.std.specs.Prelude.{◌≡◌, ℕ, ◌+◌, ◌≤◌, Bool, true, false, List, [], ◌∷◌, ◌++◌, take, length, IsTrue}
use Rattle.uuid.specs.Parts.{is_nil_bytes}
use Rattle.rep_types.specs.declared.judged.Judged.{Judged}
use Rattle.rep_types.specs.declared.limits.TheConstants.{MAX_SEQNO}
use Rattle.rep_types.specs.Items.{writes_of}
use Rattle.rep_types.specs.Order.{counts}
use Rattle.rep_record.specs.Blocks.{SeqnosFrom}
use Rattle.rep_record.specs.Fronts.{fitting}
use Rattle.rep_versions.specs.Versions.{Kept, IsAdded}
use Rattle.rep_log.specs.declared.phase.Phase.{Phase}
use Rattle.rep_log.specs.declared.phase.Phase.TheVariants.{Resting, Closing, Filling, Filled, Opening}
use Rattle.rep_steps.specs.Standings.{Standing, delivered}

-- The items come behind those that were accepted, none without a seqno that is left, and none without a cluster.
pub record ComeNext (s : Standing) (js : List Judged) : Type 0 where
  pub follow : SeqnosFrom (delivered s + 1) js
  pub limit : delivered s + length js ≤ MAX_SEQNO
  pub undefined : IsTrue (is_nil_bytes s.uuid) → js ≡ []

-- An item that takes effect is added at its seqno.
abbrev pub AddsWhere : Bool → Judged → Kept → Kept → Type 0
AddsWhere true j before after = IsAdded j.seqno (writes_of j.item) before after
AddsWhere false j before after = after ≡ before

-- So are these, one after another.
abbrev pub AddsItems : List Judged → Kept → Kept → Type 0
AddsItems [] before after = after ≡ before
AddsItems (j ∷ js) before after = (mid : Kept) × AddsWhere (counts j) j before mid × AddsItems js mid after

-- whether the next block's body wasn't written: it may take more
abbrev pub is_gathering : Phase → Bool
is_gathering Resting = true
is_gathering Closing = true
is_gathering (Filling n) = false
is_gathering (Filled n) = false
is_gathering (Opening n) = false

-- how many items of a backlog come next: the longest front that fits the block, while that isn't written
abbrev pub accepted_in : Phase → List Judged → List Judged → ℕ
accepted_in Resting block backlog = fitting block backlog
accepted_in Closing block backlog = fitting block backlog
accepted_in (Filling n) block backlog = 0
accepted_in (Filled n) block backlog = 0
accepted_in (Opening n) block backlog = 0

-- What comes next is a front of what waits: no more than there is; with what was gathered it still fits one block; and at rest that
-- block then takes no more of what waits, so that it is what it would be of all of it.
pub record AcceptedItemsAreAFront : Type 0 where
  pub within : (phase : Phase) (block js : List Judged) → accepted_in phase block js ≤ length js
  pub fits : (phase : Phase) (block js : List Judged) → fitting [] block ≡ length block → fitting [] (block ++ take (accepted_in phase block js) js) ≡ length (block ++ take (accepted_in phase block js) js)
  pub all : (block js : List Judged) → fitting [] (block ++ take (accepted_in Resting block js) js) ≡ length (block ++ take (accepted_in Resting block js) js)
      → fitting [] (block ++ take (accepted_in Resting block js) js) ≡ fitting [] (block ++ js)
