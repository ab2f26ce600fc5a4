-- What a note is after a call whose answer is known.
use Rattle.std.proofs.Common.{◌≡◌, Bool, Ok}
use Rattle.rep_streams.specs.Streams.{Notes}

-- a call that succeeds leaves it as it was
pub noted_ok : {T : Type 0} (old new : Bool) (x : T) → Notes old new (Ok x) → new ≡ old
noted_ok old new x notes = notes.fine (λ e. cc)
