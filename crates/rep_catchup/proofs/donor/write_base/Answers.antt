use Rattle.std.proofs.Common.{◌≡◌, None, Some, refl, sym, ◌∙◌, rules}
use Rattle.std.proofs.KnownBytes.{Appends-nil}
use Rattle.std.proofs.lemmas.Result.{err_from_is_err_and}
use Rattle.rep_replica.specs.Replicas.{Replica}
use Rattle.rep_catchup.specs.Donating.{NeedsSnapshot}
use Rattle.rep_catchup.proofs.DonateReads.{leaves_passed, leaves_given, same_of}
use Rattle.rep_catchup.proofs.donor.write_base.Goals as goal

pub returns-in_err-write_snapshot-clause-leaves : goal.returns-in_err-write_snapshot-clause-leaves
returns-in_err-write_snapshot-clause-leaves g c =
    let p = err_from_is_err_and c.from_residual.result c.from_residual.ensures.1 in
    rw (p.1, p.2) (leaves_passed g.D.Disk c.args.replica.now c.write_snapshot.new.replica _ _ c.in_err-write_snapshot.field-0.0 c.in_err-write_snapshot.ensures.leaves)

pub returns-clause-leaves : goal.returns-clause-leaves
returns-clause-leaves g c = leaves_given g.D.Disk c.args.replica.now c.write_snapshot.new.replica _ _ c.in_ok-write_snapshot.field-0 c.base.result c.in_ok-write_snapshot.ensures.leaves

pub returns-in_err-write_snapshot-clause-writes : goal.returns-in_err-write_snapshot-clause-writes
returns-in_err-write_snapshot-clause-writes g c =
    let p = err_from_is_err_and c.from_residual.result c.from_residual.ensures.1 in
    let (s, is, front) = c.in_err-write_snapshot.ensures.writes.cut in
    rw (p.1, p.2) (record { done = tt; cut = (Some s, (is.0, (c.needs_snapshot.ensures.0 c.if-not-needs_snapshot.false, is.1)), front) })

pub returns-clause-writes : goal.returns-clause-writes
returns-clause-writes g c =
    let old = c.args.replica.now in
    let now = c.write_snapshot.new.replica in
    let same : now.engine.checkpoint.base.position ≡ old.engine.checkpoint.base.position = same_of g.D.Disk (λ (r : Replica g.row.D.Denot). r.engine.checkpoint.base.position) old now c.in_ok-write_snapshot.ensures.leaves.reads refl in
    let (s, is, known, written) = c.in_ok-write_snapshot.ensures.writes.done in
    record {
      done = (Some s, (is.0, (c.needs_snapshot.ensures.0 c.if-not-needs_snapshot.false, is.1)), record { is_behind = c.base.ensures ∙ same ∙ sym is.1.position; snapshot = known }, written);
      cut = tt;
    }

pub returns-then-not-needs_snapshot-clause-writes : goal.returns-then-not-needs_snapshot-clause-writes
returns-then-not-needs_snapshot-clause-writes g c =
    let never : NeedsSnapshot c.args.replica.now.engine.checkpoint.base.position c.args.have.now → ⊥ = search rules in
    record { done = (None, (tt, never), record { is_behind = refl; snapshot = tt }, Appends-nil (g.W.Sink.contents c.args.writer.now)); cut = tt }

pub returns-in_err-write_snapshot-clause-asked : goal.returns-in_err-write_snapshot-clause-asked
returns-in_err-write_snapshot-clause-asked g c = λ part is. c.needs_snapshot.ensures.0 c.if-not-needs_snapshot.false
