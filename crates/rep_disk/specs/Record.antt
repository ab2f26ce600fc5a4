-- How a disk in memory keeps its history.
use Rattle.std.specs.Prelude.{◌≡◌, ℕ, ◌+◌, ◌≤◌, List, [], ◌∷◌, length, replicate}
use Rattle.std.specs.List.{AllByRecursion}
use Rattle.rep_disk.specs.declared.memory.Call.{Call}
use Rattle.rep_disk.specs.declared.memory.Call.TheVariants.{Wrote, Synced}
use Rattle.rep_disk.specs.declared.memory.Range.{Range}
use Rattle.rep_disk.specs.declared.memory.Loss.{Loss}
use Rattle.rep_disk.specs.declared.memory.Loss.TheVariants.{Keep, Drop, Junk}
use Rattle.rep_disk.specs.Bytes.{put, part}
use Rattle.rep_disk.specs.History as past

-- the history after a call
abbrev pub after : past.History → Call → past.History
after h (Wrote at bytes) = past.Wrote at bytes.items h
after h Synced = past.Synced h

-- the history after these calls, the oldest of them first
abbrev pub replay : past.History → List Call → past.History
replay h [] = h
replay h (call ∷ calls) = replay (after h call) calls

-- the ranges, the newest first, onto older ones
abbrev pub ranges_onto : List (ℕ × ℕ) → List Range → List (ℕ × ℕ)
ranges_onto older [] = older
ranges_onto older (range ∷ ranges) = ranges_onto ((range.at, range.len) ∷ older) ranges

-- this byte written all over the ranges
abbrev pub filled : List Range → ℕ → List ℕ → List ℕ
filled [] byte bytes = bytes
filled (range ∷ ranges) byte bytes = filled ranges byte (put bytes range.at (replicate range.len byte))

-- the ranges of these bytes laid over others
abbrev pub laid : List Range → List ℕ → List ℕ → List ℕ
laid [] source bytes = bytes
laid (range ∷ ranges) source bytes = laid ranges source (put bytes range.at (part range.at range.len source))

-- what the bytes become in a crash, from the last stable ones and the pending ranges
abbrev pub lost : Loss → List ℕ → List ℕ → List Range → List ℕ
lost Keep bytes last ranges = bytes
lost Drop bytes last ranges = last
lost Junk bytes last ranges = filled ranges 0xEE bytes

-- each range lies within so many bytes
abbrev pub AreWithin : ℕ → List Range → Type 0
AreWithin size ranges = AllByRecursion (λ (range : Range). range.at + range.len ≤ size) ranges

-- What is kept is what the calls make of the bytes that were found.
pub record IsKept (found : List ℕ) (calls : List Call) (bytes last : List ℕ) (ranges : List Range) : Type 0 where
  pub bytes_are : bytes ≡ past.seen (replay (past.Begins found) calls)
  pub last_are : last ≡ past.stable (replay (past.Begins found) calls)
  pub ranges_are : ranges_onto [] ranges ≡ past.pending (replay (past.Begins found) calls)
  pub found_length : length found ≡ length bytes
  pub last_length : length last ≡ length bytes
  pub within : AreWithin (length bytes) ranges
