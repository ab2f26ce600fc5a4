use Rattle.std.proofs.Common.{◌≡◌, ◌≤◌, length, take}
use Rattle.std.specs.Vec.{vec_len, vec_capacity}
use Rattle.rep_steps.specs.Moves.{Moves}
use Rattle.rep_steps.specs.Nodes.{Node}
use Rattle.rep_steps.specs.Runs.{Runs}
use Rattle.rep_steps.specs.Images.{RunsOn}
use Rattle.rep_steps.proofs.client.run.Given as goal

-- the events so far were run, and there is room for the answers to the others
abbrev pub invariant-loop-event : goal.invariant-loop-event
invariant-loop-event g l = record {
  moves : Runs Moves (g.C.Core.facts l.fn.core) (take l.event-index l.events) l.answers.items (g.C.Core.facts l.core);
  steps : (n : Node) → g.C.Core.holds n l.fn.core
      → (m : Node) × RunsOn g.C.Core.means (g.C.Core.history l.fn.core) (g.C.Core.history l.core) n (take l.event-index l.events) l.answers.items m × g.C.Core.holds m l.core;
  many : vec_len l.answers ≡ l.event-index;
  room : length l.events ≤ vec_capacity l.answers;
}
