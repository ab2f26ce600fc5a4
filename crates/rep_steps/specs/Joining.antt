-- Runs one after another are one run.
use Rattle.std.specs.Prelude.{ℕ, List, [], ◌∷◌, ◌++◌}
use Rattle.rep_disk.specs.History.{History}
use Rattle.rep_disk.specs.Moments.{LeavesOnly}
use Rattle.rep_steps.specs.declared.event.Event.{Event}
use Rattle.rep_steps.specs.declared.answer.Answer.{Answer}
use Rattle.rep_steps.specs.Standings.{Standing}
use Rattle.rep_steps.specs.Moves.{Moves}
use Rattle.rep_steps.specs.Nodes.{Node, IsNode, Steps}
use Rattle.rep_steps.specs.Runs.{Runs}
use Rattle.rep_steps.specs.Images.{Meaning, IsFrontAt, RunsOn}

-- No event is a run; one step is a run of one event; and two runs, the second from where the first led, are the run of both lists. So
-- it is with the facts on any device, and at a node, with what a stop leaves at each moment.
pub record RunsAreJoined (means : List ℕ → Meaning → Type 0) : Type 0 where
  pub no_move : (s : Standing) → Runs Moves s [] [] s
  pub one_move : (s t : Standing) (e : Event) (a : Answer) → Moves s e a t → Runs Moves s (e ∷ []) (a ∷ []) t
  pub both_moves : (s t u : Standing) (events : List Event) (answers : List Answer) (more : List Event) (told : List Answer) → Runs Moves s events answers t → Runs Moves t more told u
      → Runs Moves s (events ++ more) (answers ++ told) u
  pub no_run : (h : History) (n : Node) → RunsOn means h h n [] [] n
  pub one_run : (old new : History) (n m : Node) (e : Event) (a : Answer) → IsNode n → Steps n e a m → LeavesOnly old new (IsFrontAt means n) → RunsOn means old new n (e ∷ []) (a ∷ []) m
  pub both_runs : (old mid new : History) (n k m : Node) (events : List Event) (answers : List Answer) (more : List Event) (told : List Answer)
      → IsNode n → RunsOn means old mid n events answers k → RunsOn means mid new k more told m → RunsOn means old new n (events ++ more) (answers ++ told) m
