-- What a statement says of a device, by the one record of all that is known of it.
use Rattle.std.specs.Prelude.{◌≡◌, Result}
use Rattle.rep_disk.specs.declared.disk.DiskFault.{DiskFault}
use Rattle.rep_disk.specs.declared.disk.Disk.{Ghosts}
use Rattle.rep_disk.specs.Calls.{IsCall}

-- What any call does, on any device.
abbrev pub Calls : {D T : Type 0} → Ghosts D → D → D → Result T DiskFault → Type 0
Calls g old new result = IsCall g.size g.failures g.honest old new result

-- An honest device's history is as it was.
abbrev pub SameHistory : {D : Type 0} → Ghosts D → D → D → Type 0
SameHistory g old new = g.honest old → g.history new ≡ g.history old
