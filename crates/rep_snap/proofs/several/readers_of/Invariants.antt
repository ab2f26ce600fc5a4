use Rattle.std.proofs.Common.{◌≡◌, ◌-◌, length, All}
use Rattle.rep_snap.specs.Views.{watching}
use Rattle.rep_snap.proofs.several.readers_of.Given as goal

-- the publisher has so many readers less, and each that was made is one of it
abbrev pub invariant-loop : goal.invariant-loop
invariant-loop g l = (l.publisher ≡ record l.fn.publisher { ready = l.fn.publisher.ready - l.counter }) × (length l.made.items ≡ l.counter) × All (λ reader. reader ≡ watching l.fn.publisher) l.made.items
