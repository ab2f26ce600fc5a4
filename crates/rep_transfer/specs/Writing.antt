-- What is written of a transfer.
use Rattle.std.specs.Prelude.{◌≡◌, ◌<◌, ℕ, List, length, take, Option, Result, IfErr, OnOk, OnErr}
use Rattle.std.specs.Io.KnownBytes.{Appends}
use Rattle.rep_types.specs.declared.refusal.Refusal.{Refusal}
use Rattle.rep_types.specs.declared.refusal.Refusal.TheVariants.{StreamFault}

-- The bytes were written, or the sink failed, which has then taken a front of them, and not all.
pub record Wrote (old new : Option (List ℕ)) (bytes : List ℕ) (result : Result (Unit {0}) Refusal) : Type 0 where
  pub done : OnOk result (Appends old new bytes)
  pub cut : OnErr result ((k : ℕ) × (k < length bytes) × Appends old new (take k bytes))
  pub refused : IfErr result (λ e. e ≡ StreamFault)
