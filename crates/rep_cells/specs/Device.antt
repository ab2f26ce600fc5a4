-- A device and where its places lie.
use Rattle.rep_layout.specs.declared.place.Layout.{Layout}
use Rattle.rep_cells.specs.declared.cells.Cells.{Cells}

-- the device
abbrev pub disk_of : {D : Type 0} {g : _} → Cells D g → D
disk_of cells = cells.disk

-- where its places lie
abbrev pub layout_of : {D : Type 0} {g : _} → Cells D g → Layout
layout_of cells = cells.layout
