use Rattle.std.proofs.Common.{◌≡◌, ◌<◌, sym, subst, arith}
use Rattle.rep_layout.specs.declared.super_body.SuperBody.{SuperBody}
use Rattle.rep_cert.specs.Holdings.{IsAskable}
use Rattle.rep_engine.specs.Engines.{durable_of}
use Rattle.rep_engine.proofs.Checking.{begun_so}
use Rattle.rep_engine.proofs.check.begin_at_durable.Goals as goal
use Rattle.rep_engine.proofs.check.begin_at_durable.Goals.{After-durable-position}

at_durable : (c : After-durable-position) → c.durable-position.result ≡ durable_of c.args.log.now
at_durable c = omega (arith, c.durable-position.ensures)

pub window_at-requires : goal.window_at-requires
window_at-requires c = subst (IsAskable c.args.certifier.now.current) (sym (at_durable (goal.at.window_at-requires c).After-durable-position)) c.requires.askable

pub returns : goal.returns
returns c = record {
  begun = begun_so c.args.certifier.now.current c.args.log.now c.args.versions.now c.args.checkpoint.now c.begin.new.self c.durable-position.result c.next-start.result c.in_ok-window.window (at_durable (goal.at.returns c).After-durable-position) c.next-start.ensures.next
      c.in_ok-window.ensures.window (subst (λ (b : SuperBody). b.position < c.durable-position.result) c.base.ensures.base c.if-position-base.false) c.in_ok-begin.ensures.begun;
  refused = tt;
}
