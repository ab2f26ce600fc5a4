use Rattle.std.proofs.Common.{◌≡◌, length}
use Rattle.rep_checkpoint.specs.Moves.{turned}
use Rattle.rep_checkpoint.proofs.checkpoint.turn_pages.Given as goal

abbrev pub invariant-loop-page : goal.invariant-loop-page
invariant-loop-page l = (l.pages.items ≡ turned l.page l.states l.left) × (length l.pages.items ≡ l.page)
