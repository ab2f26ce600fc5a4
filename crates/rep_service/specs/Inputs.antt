-- The lines of a text, handed out one by one and counted.
use Rattle.std.specs.Prelude.{◌≡◌, ℕ, ◌+◌, ◌-◌, ◌^◌, min, Bool, true, false, List, [], ◌∷◌, ◌++◌, Option, Result, Ok, Err}
use Rattle.std.specs.Io.KnownBytes.{Keeps, Consumes, IsAtEnd}
use Rattle.rep_types.specs.declared.refusal.Refusal.{Refusal}
use Rattle.rep_lines.specs.Lines.{HasNoFeed}

-- so many lines more are counted; a count stops at 2^64 - 1
abbrev pub counted : ℕ → ℕ → ℕ
counted number lines = min (number + lines) (2 ^ 64 - 1)

-- What comes of asking for the next line: it stood at the front of the text, with its line feed, and is counted; or the text has ended behind its
-- last line feed; or that is not known, and the text is as it was.
abbrev pub HandsNext : ℕ → List ℕ → Option (List ℕ) → Option (List ℕ) → Option (List ℕ) → List ℕ → Result Bool Refusal → ℕ → Type 0
HandsNext number left rest text behind line (Ok true) next = HasNoFeed line × Consumes text behind (line ++ 10 ∷ []) × (next ≡ counted number 1)
HandsNext number left rest text behind line (Ok false) next = HasNoFeed left × IsAtEnd rest × Keeps text behind × (next ≡ number)
HandsNext number left rest text behind line (Err e) next = Keeps text behind × (next ≡ number)
