use Rattle.std.proofs.Common.{◌≡◌, length, All}
use Rattle.rep_snap.specs.Views.{unaware}
use Rattle.rep_snap.proofs.publisher.Publisher.newcomers.Given as goal

-- the publisher is as it was, and each reader so far is one of it
abbrev pub invariant-loop : goal.invariant-loop
invariant-loop g l = (l.self ≡ l.fn.self) × (length l.made.items ≡ l.counter) × All (λ reader. reader ≡ unaware l.fn.self) l.made.items
