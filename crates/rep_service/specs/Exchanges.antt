-- What a node that donates under names answers.
use Rattle.std.specs.Prelude.{◌≡◌, ◌⊎◌, ℕ}
use Rattle.rep_types.specs.declared.refusal.Refusal.{Refusal}
use Rattle.rep_types.specs.declared.refusal.Refusal.TheVariants.{OutOfMemory, StreamFault, Malformed}

-- A refusal that is one of names, and of what stands under them: none of the node, which goes on.
abbrev pub IsOfNames : Refusal → Type 0
IsOfNames e = (e ≡ StreamFault) ⊎ ((e ≡ OutOfMemory) ⊎ ((at : ℕ) × (e ≡ Malformed at)))
