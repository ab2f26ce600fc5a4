-- What the lines of a text are, in the words of its bytes.
use Rattle.std.specs.Prelude.{◌≡◌, ℕ, List, [], ◌∷◌, ◌++◌, map, take}
use Rattle.rep_lines.specs.Lines.{HasNoFeed, whole_lines, unended, clipped}

-- The lines of a text are these, one after another from its front, and what stands behind the last line feed.
pub record LinesAreHandedOut : Type 0 where
  pub first : (line rest : List ℕ) → HasNoFeed line → whole_lines (line ++ 10 ∷ rest) ≡ line ∷ whole_lines rest
  pub behind : (line rest : List ℕ) → HasNoFeed line → unended (line ++ 10 ∷ rest) ≡ unended rest
  pub none : (text : List ℕ) → HasNoFeed text → whole_lines text ≡ []
  pub all : (text : List ℕ) → HasNoFeed text → unended text ≡ text

-- A clipped text has the lines of the text, each cut behind its first 8,192 bytes.
pub record LongLinesAreClipped : Type 0 where
  pub first : (line rest : List ℕ) → HasNoFeed line → clipped (line ++ 10 ∷ rest) ≡ take 8192 line ++ 10 ∷ clipped rest
  pub last : (line : List ℕ) → HasNoFeed line → clipped line ≡ take 8192 line
  pub lines : (text : List ℕ) → whole_lines (clipped text) ≡ map (take 8192) (whole_lines text)
  pub rest : (text : List ℕ) → unended (clipped text) ≡ take 8192 (unended text)
