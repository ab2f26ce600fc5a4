-- What a feed still hands out.
use Rattle.std.specs.Prelude.{◌≡◌, ℕ, ◌<◌, List, ◌++◌, length, Option}
use Rattle.std.specs.Option.{option_map}
use Rattle.std.specs.Io.KnownBytes.{prepend_known, Consumes}
use Rattle.rep_lines.specs.Lines.{clipped_behind, kept}

-- The text that is not yet handed out, long lines clipped: what the feed holds, and behind it what the source has left, where that is known.
abbrev pub ahead : List ℕ → Option (List ℕ) → Option (List ℕ)
ahead held left = prepend_known held (option_map (clipped_behind (kept held)) left)

-- Some bytes were read behind what waited: of a line that has so many bytes already those that are kept of it.
pub record ReadsMore (old new : List ℕ) (before after : Option (List ℕ)) : Type 0 where
  pub bytes : List ℕ
  pub some : 0 < length bytes
  pub held : new ≡ old ++ clipped_behind (kept old) bytes
  pub read : Consumes before after bytes
