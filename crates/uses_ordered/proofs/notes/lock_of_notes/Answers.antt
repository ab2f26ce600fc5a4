use Rattle.std.proofs.Common.{◌^◌, refl}
use Rattle.uses_ordered.proofs.notes.lock_of_notes.Goals as goal

pub new-requires-clause-names : goal.new-requires-clause-names
new-requires-clause-names c = (2 ^ 60, λ j x is some_name. refl)
