use Rattle.std.proofs.Common.{rules, ◌||◌, ◌∙◌, is_some, inl, inr, refl, sym, subst}
use Rattle.std.specs.Prelude.{IsFalse, ⊤}
use Rattle.std.proofs.KnownBytes.{Keeps-refl}
use Rattle.rep_types.proofs.Choices.{neither_some}
use Rattle.uuid.specs.Parts.{is_nil_bytes}
use Rattle.rep_replica.specs.Replicas.{facts_of}
use Rattle.rep_replica.specs.SettlingLaws.{settling_stays, settling_serves}
use Rattle.rep_serve.proofs.Settling.{not_refused, settle_own}
use Rattle.rep_script.proofs.Noting.{goes_on, own_stops}
use Rattle.rep_serve.proofs.serve.serve_text.Goals as goal

pub returns-in-Err-clause-stopped : goal.returns-in-Err-clause-stopped
returns-in-Err-clause-stopped g c = λ defined stopped.
    let s = c.settle.ensures.stopped stopped in
    ((λ i. (s.1 i, (sym c.in-Err.is ∙ s.0) i)), Keeps-refl (g.W.Sink.contents c.args.writer.now))

pub returns-in-Err-clause-serves : goal.returns-in-Err-clause-serves
returns-in-Err-clause-serves g c = λ defined running.
    inl (c.in-Err.refusal, refl, rw c.in-Err.is at (c.settle.ensures.works running), Keeps-refl (g.W.Sink.contents c.args.writer.now))

-- it ran, since it settled
pub serve_settled-requires-clause-running : goal.serve_settled-requires-clause-running
serve_settled-requires-clause-running g c κs within =
    let stands = not_refused (c.args.replica.stopped || is_some c.args.replica.engine.halted) _ c.settle.result c.in_default.field-0 _ c.in_default.is c.settle.ensures.stopped in
    let works = rw c.in_default.is at (c.settle.ensures.works stands) in
    let serves = settling_serves works.events works.answers (facts_of g.D.Disk c.args.replica) (facts_of g.D.Disk c.settle.new.self) works.ends works.moves in
    let ran = neither_some c.settle.new.self.stopped c.settle.new.self.engine.halted (serves.stopped ∙ stands) in
    record { inside = ran.0; device = ran.1 }

pub serve_settled-requires-clause-defined : goal.serve_settled-requires-clause-defined
serve_settled-requires-clause-defined g c κs within =
    let stands = not_refused (c.args.replica.stopped || is_some c.args.replica.engine.halted) _ c.settle.result c.in_default.field-0 _ c.in_default.is c.settle.ensures.stopped in
    let works = rw c.in_default.is at (c.settle.ensures.works stands) in
    let before : IsFalse (is_nil_bytes c.args.replica.engine.checkpoint.base.uuid) = search rules in
    let stays = settling_stays works.events works.answers (facts_of g.D.Disk c.args.replica) (facts_of g.D.Disk c.settle.new.self) works.moves in
    subst (λ u. IsFalse (is_nil_bytes u)) (sym stays.uuid) before

pub returns-clause-serves : goal.returns-clause-serves
returns-clause-serves g c = λ defined running.
    inr (c.settle.new.self, rw c.in_default.is at (c.settle.ensures.works running), rw c.in_default.is at c.settle.ensures.quiet, c.serve_settled.ensures.serves)

-- ---- the notes of the streams

pub returns-in-Err-clause-notes : goal.returns-in-Err-clause-notes
returns-in-Err-clause-notes g c = own_stops _ _ _ _ _ _ _ c.in-Err.refusal (goes_on ⊤ _ _) (settle_own c.in-Err.refusal (rw c.in-Err.is at c.settle.ensures.refused))
