use Rattle.std.proofs.Common.{◌≡◌, ◌≤◌, ◌-◌, false, [], Ok}
use Rattle.rep_replica.specs.Replicas.{facts_of}
use Rattle.rep_lines.specs.Feeds.{ahead}
use Rattle.rep_service.specs.Passing.{PassesOld}
use Rattle.rep_service.specs.Living.{PassesLines}
use Rattle.rep_service.proofs.past.pass_old.Given as goal

-- all that was delivered is durable, and no stream has failed
abbrev pub invariant-old : goal.invariant-old
invariant-old g l = record {
  passes : PassesOld l.base l.fn.position (ahead l.fn.input.feed (g.R.Source.remaining l.fn.source)) (ahead l.input.feed (g.R.Source.remaining l.source)) false l.position;
  lives : PassesLines g.D.Disk l.base (λ j. ⊥) l.fn.position l.fn.replica l.replica (ahead l.fn.input.feed (g.R.Source.remaining l.fn.source)) (ahead l.input.feed (g.R.Source.remaining l.source)) l.position (g.W.Sink.contents l.fn.writer) (g.W.Sink.contents l.writer) (Ok tt);
  within : l.fn.position ≤ (facts_of g.D.Disk l.fn.replica).durable → l.position ≤ (facts_of g.D.Disk l.fn.replica).durable;
  told : (facts_of g.D.Disk l.replica).ahead ≡ [];
  source : g.R.Source.failed l.source ≡ g.R.Source.failed l.fn.source;
  writer : g.W.Sink.failed l.writer ≡ g.W.Sink.failed l.fn.writer;
}

abbrev pub decreases-old : goal.decreases-old
decreases-old g l = l.base - l.position
