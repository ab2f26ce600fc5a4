use Rattle.std.proofs.Common.{◌≡◌, sym, ◌∙◌, false}
use Rattle.std.specs.Prelude.{is_some}
use Rattle.rep_types.proofs.Choices.{or_both}
use Rattle.run_harness.proofs.node.together.Goals.{then-stopped, else-stopped}
use Rattle.run_harness.proofs.node.together.Goals as goal

runs : (g : _) (c : goal.After-into_parts-certifier g) → c.if-stopped.stopped ≡ false → c.args.node.stopped ≡ false
runs g c e = elim c.if-stopped.branch [
  | then-stopped w ↦ absurd cc
  | else-stopped w ↦ (or_both c.args.node.stopped (is_some c.args.node.engine.halted) (sym w.is_stopped-stopped.ensures ∙ sym w.stopped-is ∙ e)).0
]

pub from_parts-requires : goal.from_parts-requires
from_parts-requires g c =
    let parts = c.into_parts-certifier.ensures.parts in
    let replica = c.into_parts-certifier.ensures.replica in
    rw (parts.0, parts.1, parts.2) record { setting = replica.setting; askable = replica.askable; windows = replica.windows; items = λ e. replica.items (runs g c e) }
