use Rattle.std.proofs.Common.{subst}
use Rattle.std.proofs.lemmas.Result.{err_from_is_err_and}
use Rattle.rep_types.specs.Windows.{Window}
use Rattle.rep_cert.specs.Holdings.{window_of}
use Rattle.rep_catchup.specs.Engines.{durable_of}
use Rattle.rep_steps.specs.Nodes.{window_at}
use Rattle.rep_script.specs.Answering.{Tells, limits_line}
use Rattle.rep_script.proofs.Answering.{nothing_told}
use Rattle.rep_script.proofs.limits.write_limits_of.Goals as goal

-- ---- where there is no room for the window

pub returns-in_err-window-clause-told : goal.returns-in_err-window-clause-told
returns-in_err-window-clause-told g c =
    let p = err_from_is_err_and c.from_residual.result c.from_residual.ensures.1 in
    rw p.1 (nothing_told (limits_line (window_of c.args.replica.now.certifier.current (durable_of c.args.replica.now.engine.log))) (g.W.Sink.contents c.args.writer.now) p.0)

pub returns-in_err-window-clause-node : goal.returns-in_err-window-clause-node
returns-in_err-window-clause-node g c = λ n holds.
    let p = err_from_is_err_and c.from_residual.result c.from_residual.ensures.1 in
    rw p.1 (nothing_told (limits_line (window_at n n.facts.durable)) (g.W.Sink.contents c.args.writer.now) p.0)

-- ---- where there is

pub returns-clause-told : goal.returns-clause-told
returns-clause-told g c =
    subst (λ (v : Window). Tells (limits_line v) (g.W.Sink.contents c.args.writer.now) (g.W.Sink.contents c.write_limits.new.writer) c.write_limits.result) (rw c.in_ok-window.was at c.window.ensures.window) c.write_limits.ensures.told

pub returns-clause-node : goal.returns-clause-node
returns-clause-node g c = λ n holds.
    subst (λ (v : Window). Tells (limits_line v) (g.W.Sink.contents c.args.writer.now) (g.W.Sink.contents c.write_limits.new.writer) c.write_limits.result) (rw c.in_ok-window.was at (c.window.ensures.node n holds)) c.write_limits.ensures.told
