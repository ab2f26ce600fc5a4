-- How a row is read of the base.
use Rattle.std.specs.Prelude.{◌≡◌, ◌⊎◌, ℕ, ◌≤◌, List, Option, None, Some, Result, Ok, Err, IsErr, IfOk, IfErr}
use Rattle.rep_types.specs.declared.key.Key.{Key}
use Rattle.rep_types.specs.declared.refusal.Refusal.{Refusal}
use Rattle.rep_types.specs.declared.refusal.Refusal.TheVariants.{DiskFault, Corrupt}
use Rattle.rep_types.specs.declared.refusal.Part.TheVariants.{Pages}
use Rattle.rep_disk.specs.declared.disk.Disk.{Ghosts}
use Rattle.rep_disk.specs.Devices.{Calls, SameHistory}
use Rattle.rep_layout.specs.declared.super_body.SuperBody.{SuperBody}
use Rattle.rep_layout.specs.Rows.{row_place}
use Rattle.rep_cells.specs.Readings.{Reading}
use Rattle.rep_versions.specs.Versions.{Kept, Version, version_at, IsNewest}
use Rattle.rep_log.specs.declared.phase.Phase.{Phase}
use Rattle.rep_log.specs.Moves.{fault_of}
use Rattle.rep_pool.specs.BasePages.{IsBadPage}
use Rattle.rep_engine.specs.Engines.{Engine}
use Rattle.rep_engine.specs.Writing.{ReadsBase, IsRowIn, ReadsAsSpelled}

-- the phase in which the device stopped the engine, if it failed
abbrev pub halted_by : {T : Type 0} → Phase → Result T Refusal → Option Phase
halted_by phase (Ok x) = None
halted_by phase (Err DiskFault) = Some phase
halted_by phase (Err e) = None

-- A row is read of the base: the device is asked, and nothing else changes, but that a failure stops the engine.
pub record ReadsRow {D : Type 0} (g : Ghosts D) (key : Key) (old new : Engine D) (result : Result (Option (List ℕ)) Refusal) : Type 0 where
  pub call : Calls g old.disk new.disk (fault_of result)
  pub same : SameHistory g old.disk new.disk
  pub read : ReadsBase g old.layout old.checkpoint.base key old.disk result
  pub spelled : ReadsAsSpelled g old.layout old.checkpoint.base key old.disk result
  pub refused : IfErr result (λ e. (e ≡ DiskFault) ⊎ (e ≡ Corrupt Pages))
  pub after : new ≡ record old { disk = new.disk; halted = halted_by old.log.phase result }

-- No version of the row is at or below the position: it is there what it is at the base.
abbrev pub IsOfTheBase : Kept → Key → ℕ → Type 0
IsOfTheBase kept key s = (m : ℕ) → m ≤ s → version_at kept key m ≡ None

-- A read at a position. The row is what the newest version up to there made it; below them all the bytes decide: it is as they have
-- it; where they have no page, the read is refused, and it is corrupt only there.
pub record ReadsAt (r : Reading) (b : SuperBody) (kept : Kept) (key : Key) (s : ℕ) (result : Result (Option (List ℕ)) Refusal) : Type 0 where
  pub newest : IfOk result (λ row. (m : ℕ) (version : Version) → IsNewest kept key s m version → row ≡ version)
  pub row : IsOfTheBase kept key s → IfOk result (IsRowIn r b key)
  pub bad : IsOfTheBase kept key s → IsBadPage r b (row_place b.params.rows key).page → IsErr result
  pub corrupt : result ≡ Err (Corrupt Pages) → IsOfTheBase kept key s × IsBadPage r b (row_place b.params.rows key).page
