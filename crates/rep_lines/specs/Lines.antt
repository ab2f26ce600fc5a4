-- The lines of a text that may have no end yet.
use Rattle.std.specs.Prelude.{◌≡◌, ℕ, ◌+◌, Bool, false, ◌==◌, nat_lt, if◌then◌else◌, List, [], ◌∷◌}
use Rattle.std.specs.List.{list_any}

-- whether the byte ends a line
abbrev pub is_feed : ℕ → Bool
is_feed b = b == 10

-- it stands within one line
abbrev pub HasNoFeed : List ℕ → Type 0
HasNoFeed text = list_any is_feed text ≡ false

-- a byte in front of the first of these lines, where there is one
abbrev pub onto_whole : ℕ → List (List ℕ) → List (List ℕ)
onto_whole b [] = []
onto_whole b (line ∷ lines) = (b ∷ line) ∷ lines

-- The lines of a text that came whole, each without its line feed.
abbrev pub whole_lines : List ℕ → List (List ℕ)
whole_lines [] = []
whole_lines (b ∷ bs) = if is_feed b then [] ∷ whole_lines bs else onto_whole b (whole_lines bs)

-- what stands behind the last line feed of a text

abbrev pub unended : List ℕ → List ℕ
unended [] = []
unended (b ∷ bs) = if list_any is_feed (b ∷ bs) then unended bs else b ∷ bs

-- The text where of each line the first 8,192 bytes are kept, where so many bytes of its first line stand before.
abbrev pub clipped_behind : ℕ → List ℕ → List ℕ
clipped_behind count [] = []
clipped_behind count (b ∷ bs) =
    if is_feed b then b ∷ clipped_behind 0 bs
    else if nat_lt count 8192 then b ∷ clipped_behind (count + 1) bs
    else clipped_behind count bs

abbrev pub clipped : List ℕ → List ℕ
clipped text = clipped_behind 0 text

-- how many bytes of its last line are kept, which has no end yet
abbrev pub kept_behind : ℕ → List ℕ → ℕ
kept_behind count [] = count
kept_behind count (b ∷ bs) = if is_feed b then kept_behind 0 bs else if nat_lt count 8192 then kept_behind (count + 1) bs else kept_behind count bs

abbrev pub kept : List ℕ → ℕ
kept text = kept_behind 0 text
