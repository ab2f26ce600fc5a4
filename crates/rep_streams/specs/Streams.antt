-- What is known of a stream that may fail.
use Rattle.std.specs.Prelude.{◌≡◌, ◌≢◌, ℕ, Bool, true, List, Result, Err}
use Rattle.rep_types.specs.declared.refusal.Refusal.{Refusal}
use Rattle.rep_types.specs.declared.refusal.Refusal.TheVariants.{StreamFault}

-- A call answers a stream fault only of a stream that has failed, and any other answer leaves the note as it was.
pub record Notes {T : Type 0} (old new : Bool) (result : Result T Refusal) : Type 0 where
  pub fault : result ≡ Err StreamFault → new ≡ true
  pub fine : result ≢ Err StreamFault → new ≡ old

-- What a sink in memory holds, and whether it found no room.
pub record Held : Type 0 where
  pub bytes : List ℕ
  pub failed : Bool
