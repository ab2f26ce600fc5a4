-- The saved state that a text of any size is read as.
use Rattle.std.specs.Prelude.{◌≡◌, ◌⊎◌, ℕ, ◌==◌, nat_le, if◌then◌else◌, List, [], ◌∷◌, length, take, Result, Err}
use Rattle.rep_types.specs.declared.refusal.Refusal.{Refusal}
use Rattle.rep_types.specs.declared.refusal.Refusal.TheVariants.{OutOfMemory, StreamFault}
use Rattle.rep_saved.specs.declared.saved.SavedState.{SavedState}
use Rattle.rep_saved.specs.Saved.{saved_in, sayings_of, first_bad, unless_bad}

-- a byte before the lines that end
abbrev pub before_lines : ℕ → List ℕ → List ℕ
before_lines b [] = if b == 10 then b ∷ [] else []
before_lines b (c ∷ cs) = b ∷ c ∷ cs

-- the lines of these bytes that end there with their line feeds
abbrev pub ended_lines : List ℕ → List ℕ
ended_lines [] = []
ended_lines (b ∷ bs) = before_lines b (ended_lines bs)

-- What is answered for a text that is too long, by those of its lines that count: the first one with a bad value, if there is one.
abbrev pub fault_of_long : List ℕ → Result SavedState Refusal
fault_of_long lines = unless_bad (first_bad (sayings_of lines)) (Err StreamFault)

-- What a text says, of which 67,108,864 bytes are read.
abbrev pub saved_within : List ℕ → Result SavedState Refusal
saved_within text = if nat_le (length text) 67108864 then saved_in text else fault_of_long (ended_lines (take 67108864 text))

-- How a text that a reader gives was read: as what it says, unless memory was refused or the reader failed.
abbrev pub ReadsAs : List ℕ → Result SavedState Refusal → Type 0
ReadsAs text result = (result ≡ saved_within text) ⊎ ((result ≡ Err OutOfMemory) ⊎ (result ≡ Err StreamFault))
