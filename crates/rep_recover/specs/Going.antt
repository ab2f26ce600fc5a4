-- What several calls of a device come to.
use Rattle.std.specs.Prelude.{◌≡◌, ℕ, ◌+◌, ◌*◌, ◌≤◌, get_or, Result, OnOk}
use Rattle.rep_disk.specs.declared.disk.Disk.{Ghosts}
use Rattle.rep_disk.specs.declared.disk.DiskFault.{DiskFault}
use Rattle.rep_disk.specs.History.{History, seen}
use Rattle.rep_disk.specs.Devices.{Calls}
use Rattle.rep_layout.specs.declared.place.TheConstants.{GATE, LOG_BODY, LOG}
use Rattle.rep_layout.specs.declared.place.Layout.{Layout}
use Rattle.rep_cells.specs.States.{States}
use Rattle.rep_cells.specs.Known.{Assigns}

-- the first byte of the pages, behind the log
abbrev pub pages_at : Layout → ℕ
pages_at l = LOG + (LOG_BODY + GATE) * l.cells

-- from this byte on the device reads as it did
abbrev pub StaysFrom : ℕ → History → History → Type 0
StaysFrom from old new = (byte : ℕ) → from ≤ byte → get_or (seen new) byte 0 ≡ get_or (seen old) byte 0

-- Calls of a device in this layout, which touch no page and no byte behind the pages: on an honest device they lead from states with
-- P to states with Q, where they succeed.
pub record Goes {D T : Type 0} (g : Ghosts D) (l : Layout) (P Q : States → Type 0) (old new : D) (result : Result T DiskFault) : Type 0 where
  pub call : Calls g old new result
  pub stays : g.honest old → StaysFrom (pages_at l) (g.history old) (g.history new)
  pub leads : g.honest old → (s : States) → Assigns l (g.history old) s → P s → OnOk result ((t : States) × Assigns l (g.history new) t × Q t)
