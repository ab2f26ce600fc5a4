-- Answers that wait until they are written together, and lines that are written at once.
use Rattle.std.specs.Prelude.{◌≡◌, ◌≢◌, ◌⊎◌, ℕ, Bool, true, List, [], ◌++◌, take, codes, Option, Result, Ok, Err}
use Rattle.std.specs.Fmt.{decimal}
use Rattle.std.specs.List.{flat_map}
use Rattle.std.specs.Io.KnownBytes.{Appends}
use Rattle.rep_types.specs.declared.refusal.Refusal.{Refusal}
use Rattle.rep_types.specs.declared.refusal.Refusal.TheVariants.{StreamFault}
use Rattle.rep_types.specs.Gtids.{Gtid, gtid_text}
use Rattle.rep_types.specs.Entries.{Entry}
use Rattle.rep_types.specs.Windows.{Window}

-- Of these bytes, which are answered, all but those that wait were written.
abbrev pub Answered : Option (List ℕ) → Option (List ℕ) → List ℕ → List ℕ → Type 0
Answered before after waiting bytes = (sent : List ℕ) × (bytes ≡ sent ++ waiting) × Appends before after sent

-- A call that answers what it reads says a stream fault only where its reader or its writer has failed, or for this other cause; and any other
-- answer leaves both notes as they were.
pub record NotesBoth {T : Type 0} (Other : Type 0) (reader reader' writer writer' : Bool) (result : Result T Refusal) : Type 0 where
  pub fault : result ≡ Err StreamFault → (reader' ≡ true) ⊎ ((writer' ≡ true) ⊎ Other)
  pub reader_fine : result ≢ Err StreamFault → reader' ≡ reader
  pub writer_fine : result ≢ Err StreamFault → writer' ≡ writer

-- What is written of the line that says what was done: the line; a front of it where a stream failed; and nothing where that was refused.
abbrev pub Tells : List ℕ → Option (List ℕ) → Option (List ℕ) → Result (Unit {0}) Refusal → Type 0
Tells line old new (Ok _) = Appends old new line
Tells line old new (Err StreamFault) = (k : ℕ) × Appends old new (take k line)
Tells line old new (Err refusal) = Appends old new []

-- the line that is said of a window's limits: how many seqnos it spans, and the least seqno that it can hold
abbrev pub limits_line : Window → List ℕ
limits_line v = codes "size " ++ decimal v.size ++ codes " floor " ++ decimal v.floor ++ codes "\n"

-- the line that is said of a state: its GTID, the position of its base, and the seqnos of its window
abbrev pub state_line : Gtid → ℕ → List Entry → List ℕ
state_line gtid base window = (codes "state " ++ (gtid_text gtid ++ (codes " base " ++ (decimal base ++ codes " window")))) ++ (flat_map (λ (e : Entry). codes " " ++ decimal e.seqno) window ++ codes "\n")
