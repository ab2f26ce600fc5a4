use Rattle.std.proofs.Common.{ℕ, take, OnOk, OnErr, subst}
use Rattle.std.specs.Io.KnownBytes.{Appends}
use Rattle.rep_script.specs.States.{node_text}
use Rattle.rep_script.proofs.state.state_text.Goals as goal

pub returns-clause-written : goal.returns-clause-written
returns-clause-written g c =
    subst (λ gtid. OnOk c.write_to.result (Appends (g.W.Sink.contents c.args.writer.now) (g.W.Sink.contents c.write_to.new.writer) (node_text gtid))) c.gtid-gtid.ensures c.write_to.ensures.ok

pub returns-clause-cut : goal.returns-clause-cut
returns-clause-cut g c =
    subst (λ gtid. OnErr c.write_to.result ((k : ℕ) × Appends (g.W.Sink.contents c.args.writer.now) (g.W.Sink.contents c.write_to.new.writer) (take k (node_text gtid)))) c.gtid-gtid.ensures c.write_to.ensures.cut
