-- What the log's next write makes of the log, and what is read of the base.
use Rattle.std.specs.Prelude.{◌≡◌, ◌≢◌, ℕ, Bool, true, false, List, [], length, Option, None, Result, Err, IfOk, IfErr}
use Rattle.rep_types.specs.declared.key.Key.{Key}
use Rattle.rep_types.specs.declared.judged.Judged.{Judged}
use Rattle.rep_types.specs.declared.refusal.Refusal.{Refusal}
use Rattle.rep_types.specs.declared.refusal.Refusal.TheVariants.{DiskFault, Corrupt}
use Rattle.rep_types.specs.declared.refusal.Part.TheVariants.{Pages}
use Rattle.rep_types.specs.Settings.{IsRow}
use Rattle.rep_disk.specs.declared.disk.Disk.{Ghosts}
use Rattle.rep_disk.specs.History.{seen}
use Rattle.rep_layout.specs.declared.place.Layout.{Layout}
use Rattle.rep_layout.specs.declared.place.Place.TheVariants.{Page}
use Rattle.rep_layout.specs.declared.super_body.SuperBody.{SuperBody}
use Rattle.rep_layout.specs.Rows.{row_place}
use Rattle.rep_cells.specs.Readings.{Reading, reading_of}
use Rattle.rep_cells.specs.States.{States, Stable}
use Rattle.rep_cells.specs.Known.{Assigns}
use Rattle.rep_versions.specs.Versions.{Kept, IsPruned}
use Rattle.rep_log.specs.declared.phase.Phase.{Phase}
use Rattle.rep_log.specs.declared.phase.Phase.TheVariants.{Opening}
use Rattle.rep_log.specs.declared.phase.Step.{Step}
use Rattle.rep_log.specs.declared.phase.Step.TheVariants.{Recycle, Seal, Gate, Sync, Full}
use Rattle.rep_log.specs.Standing.{Standing, LogIs}
use Rattle.rep_log.specs.Moves.{recycled, sealed_as, gated, Steps}
use Rattle.rep_pages.specs.declared.page.Page.{Page as PageBody}
use Rattle.rep_pages.specs.Images.{row_of}
use Rattle.rep_checkpoint.specs.Bases.{HaveContent}
use Rattle.rep_pool.specs.BasePages.{IsPageReadable, IsBadPage, HasPage}

-- There is something to write.
abbrev pub IsWrite : Step → Type 0
IsWrite Recycle = Unit {0}
IsWrite Seal = Unit {0}
IsWrite Gate = Unit {0}
IsWrite Sync = ⊥
IsWrite Full = ⊥

-- the log once it is written, and the records of the block that is then on its way
abbrev pub written_in : Step → ℕ → Standing → Standing
written_in Recycle n log = recycled log
written_in Seal n log = sealed_as n log
written_in Gate n log = gated log
written_in Sync n log = log
written_in Full n log = log

abbrev pub coming_in : Step → List Judged → List Judged → List Judged
coming_in Recycle block sealed = sealed
coming_in Seal block sealed = block
coming_in Gate block sealed = sealed
coming_in Sync block sealed = sealed
coming_in Full block sealed = sealed

-- The log's next write: the log stands so after it, also where it failed; only the device's fault is refused; and on an honest
-- device the log holds during the call and after it what it held, with this block in writing.
pub record WritesNext {D T : Type 0} (g : Ghosts D) (l : Layout) (step : Step) (block : List Judged) (before after : Standing) (old new : D) (result : Result T Refusal) : Type 0 where
  pub stands : after ≡ written_in step (length block) before
  pub fault : IfErr result (λ e. e ≡ DiskFault)
  pub steps :
      g.honest old → (s : States) (first : ℕ) (blocks : List (List Judged)) (sealed : List Judged) → Assigns l (g.history old) s → LogIs l before first blocks sealed s
      → Steps l (g.history old) (g.history new) s after first blocks (coming_in step block sealed) result

-- what a sync leaves of the block, and whose items it makes durable: those of a block whose gate was opened
abbrev pub left_of : Phase → List Judged → List Judged
left_of (Opening n) block = []
left_of phase block = block

abbrev pub told_of : Phase → List Judged → List Judged
told_of (Opening n) block = block
told_of phase block = []

-- Where the base rose, the versions up to it are gone.
abbrev pub PrunesIf : Bool → ℕ → Kept → Kept → Type 0
PrunesIf true position before after = IsPruned position before after
PrunesIf false position before after = after ≡ before

-- What is read of a base that stands on an honest device is its content, and none of its pages is corrupt.
abbrev pub ReadsBase : {D : Type 0} → Ghosts D → Layout → SuperBody → Key → D → Result (Option (List ℕ)) Refusal → Type 0
ReadsBase g l b key old result = g.honest old → (s : States) (content : Key → Option (List ℕ)) → Assigns l (g.history old) s
    → HaveContent b (λ number slot body. s (Page number slot) ≡ Stable body) content
    → IfOk result (λ value. value ≡ content key) × (result ≢ Err (Corrupt Pages))

-- The row under the key, as a reading has it: what the superblock's page has at its place. What is no row of the schema is absent.
pub record IsRowIn (r : Reading) (b : SuperBody) (key : Key) (row : Option (List ℕ)) : Type 0 where
  pub inside : IsRow b.params.rows key → (page : PageBody) × HasPage r b (row_place b.params.rows key).page page × (row ≡ row_of b.params.rows page.rows key)
  pub outside : (IsRow b.params.rows key → ⊥) → row ≡ None

-- The bytes decide: what is read is the row as they have it, and it is corrupt only where they have no page.
pub record IsRowAsSpelled (r : Reading) (b : SuperBody) (key : Key) (result : Result (Option (List ℕ)) Refusal) : Type 0 where
  pub row : IfOk result (IsRowIn r b key)
  pub corrupt : result ≡ Err (Corrupt Pages) → IsRow b.params.rows key × IsBadPage r b (row_place b.params.rows key).page

-- So it is of an honest device, whatever stands there, where no write failed in the slot of the row's page.
abbrev pub ReadsAsSpelled : {D : Type 0} → Ghosts D → Layout → SuperBody → Key → D → Result (Option (List ℕ)) Refusal → Type 0
ReadsAsSpelled g l b key old result =
    g.honest old → IsPageReadable l (g.history old) b (row_place b.params.rows key).page → IsRowAsSpelled (reading_of l (seen (g.history old))) b key result
