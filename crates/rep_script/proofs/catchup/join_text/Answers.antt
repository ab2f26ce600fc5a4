use Rattle.std.proofs.Common.{◌≡◌, true, Err, ap, refl, inl, inr, subst, rules}
use Rattle.std.proofs.KnownBytes.{Keeps-refl}
use Rattle.std.proofs.lemmas.Result.{IfErr-weaker}
use Rattle.rep_types.specs.declared.refusal.Refusal.TheVariants.{StreamFault}
use Rattle.rep_catchup.specs.Engines.{gtid_of}
use Rattle.rep_script.specs.Answering.{Tells}
use Rattle.rep_script.specs.CatchingUp.{joined_line}
use Rattle.rep_script.proofs.Answering.{nothing_told}
use Rattle.rep_script.proofs.CatchingUp.{taken, either_way, line_tells}
use Rattle.rep_script.proofs.Noting.{when_failed, not_taken, taken_and_told}
use Rattle.rep_script.proofs.catchup.join_text.Goals as goal

-- ---- where it is refused

pub returns-in-Err-clause-told : goal.returns-in-Err-clause-told
returns-in-Err-clause-told g c = nothing_told (joined_line (gtid_of c.join-replica.result.0.engine)) (g.W.Sink.contents c.args.writer.now) c.in-Err.refusal

pub returns-in-Err-clause-ended : goal.returns-in-Err-clause-ended
returns-in-Err-clause-ended g c = λ running. inl (
  rw c.in-Err.is at (c.join-replica.ensures.ended running),
  Keeps-refl (g.W.Sink.contents c.args.writer.now),
  λ is. (rw c.in-Err.is at c.join-replica.ensures.notes).fault (ap Err is),
  refl,
)

-- ---- where it is not

pub returns-clause-told : goal.returns-clause-told
returns-clause-told g c =
    let before = g.W.Sink.contents c.args.writer.now in
    let after = g.W.Sink.contents c.write_line-told.new.writer in
    let told : Tells (joined_line c.gtid-gtid.result) before after c.write_line-told.result = search rules in
    subst (λ gtid. Tells (joined_line gtid) before after c.write_line-told.result) c.gtid-gtid.ensures told

pub returns-clause-joined : goal.returns-clause-joined
returns-clause-joined g c =
    either_way c.write_line-told.result _ (taken _ _ _ _ _ c.join-replica.result.1 c.in_default.field-0 c.in_default.is c.join-replica.ensures.quiet c.join-replica.ensures.took (λ n holds. c.join-replica.ensures.joined n holds))

pub returns-clause-ended : goal.returns-clause-ended
returns-clause-ended g c = λ running.
    IfErr-weaker c.write_line-told.result (λ e. (e ≡ StreamFault) × (g.W.Sink.failed c.write_line-told.new.writer ≡ true)) _
    (λ e both. inr (both.0, both.1, taken _ _ _ _ _ c.join-replica.result.1 c.in_default.field-0 c.in_default.is c.join-replica.ensures.quiet c.join-replica.ensures.took (λ n holds. c.join-replica.ensures.joined n holds))) (when_failed _ _ c.write_line-told.result c.write_line-told.ensures.notes c.write_line-told.ensures.err)

-- ---- what is told of the device

pub returns-in-Err-clause-tells : goal.returns-in-Err-clause-tells
returns-in-Err-clause-tells g c = rw c.in-Err.is at c.join-replica.ensures.tells

pub returns-clause-tells : goal.returns-clause-tells
returns-clause-tells g c =
    line_tells g.D.Disk c.args.replica c.join-replica.result.0 c.write_line-told.result c.write_line-told.ensures.err (rw c.in_default.is at c.join-replica.ensures.tells)

-- ---- the notes of the streams

pub returns-in-Err-clause-notes : goal.returns-in-Err-clause-notes
returns-in-Err-clause-notes g c = not_taken _ _ _ _ c.in-Err.refusal (rw c.in-Err.is at c.join-replica.ensures.notes)

pub returns-clause-notes : goal.returns-clause-notes
returns-clause-notes g c = taken_and_told _ _ _ _ _ c.in_default.field-0 c.write_line-told.result (rw c.in_default.is at c.join-replica.ensures.notes) c.write_line-told.ensures.notes
