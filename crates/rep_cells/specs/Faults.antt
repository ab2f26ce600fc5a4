-- A device's failure among the refusals.
use Rattle.std.specs.Prelude.{Result, Ok, Err}
use Rattle.rep_layout.specs.Refusal.{Refusal}
use Rattle.rep_layout.specs.Refusal.TheVariants.{DiskFault}
use Rattle.rep_disk.specs.declared.disk.DiskFault.{DiskFault as Fault}

-- a refusal as what the device answered
abbrev pub fault_of : {T : Type 0} → Result T Refusal → Result (Unit {0}) Fault
fault_of (Ok x) = Ok tt
fault_of (Err DiskFault) = Err (record {})
fault_of (Err _) = Ok tt
