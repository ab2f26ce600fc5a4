-- The rule of the book of a publisher's history, and what a step on it tells.
use Rattle.std.specs.Prelude.{ℕ, ◌≡◌, ◌==◌, true, List, [], ◌∷◌, ◌++◌, length, MatchBool}
use mathlib.Core.List.{IsPrefix}
use Rattle.logbook.specs.Pages.{Cell, Step, View, Book, Named}
use Rattle.rep_snap.specs.declared.change.Change.{Change}

-- the first word is the length of the history. A book has two words, of which this one leaves the second at 0
abbrev pub IsKept : List Cell → List Change → Type 0
IsKept cells log = cells ≡ (length log, true) ∷ (0, true) ∷ []

abbrev pub head_of : Book → Named
head_of b = record { tracked = true; key = 0; book = b }

-- the change was added to all that had been seen; or the history was longer, and was seen
abbrev pub Adds : Step Change → View Change ℕ → ℕ → View Change ℕ → Type 0
Adds s v found w = MatchBool (found == s.old) (w.0 ≡ v.0 ++ s.ask ∷ []) (IsPrefix v.0 w.0)
