-- Lines as words, and words cut in two.
use Rattle.std.specs.Prelude.{ℕ, ◌+◌, Bool, true, false, ◌==◌, List, [], ◌∷◌, filter, take, drop, Option}
use Rattle.std.specs.List.{list_all, slice_split, position}
use Rattle.std.specs.Option.{option_map}

-- whether there is something
abbrev pub is_filled : List ℕ → Bool
is_filled [] = false
is_filled (b ∷ bs) = true

-- whether the byte is a space
abbrev pub is_space : ℕ → Bool
is_space b = b == 32

-- The words of a line: what stands between its spaces, where there is something.
abbrev pub words : List ℕ → List (List ℕ)
words line = filter is_filled (slice_split is_space line)

-- whether the line has no words
abbrev pub is_blank : List ℕ → Bool
is_blank line = list_all is_space line

-- the bytes before the first one that is the mark, and those after it
unfoldable pub cut : ℕ → List ℕ → Option (List ℕ × List ℕ)
cut mark word = option_map (λ at. (take at word, drop (at + 1) word)) (position (λ b. b == mark) word)
