use Rattle.std.proofs.Common.{sym}
use Rattle.rep_types.proofs.Choices.{of_no_failure}
use Rattle.uses_log.proofs.log.settle.Goals as goal

pub returns-then-is_err-clause-settled : goal.returns-then-is_err-clause-settled
returns-then-is_err-clause-settled g c = λ honest s first blocks sealed assigns is.
    let settled = c.sync.ensures.states honest s assigns in
    record { done = tt; images = settled.reaches.images; moments = settled.reaches.moments }

pub returns-clause-settled : goal.returns-clause-settled
returns-clause-settled g c = λ honest s first blocks sealed assigns is.
    let settled = c.sync.ensures.states honest s assigns in
    record {
      done = (settled.after, of_no_failure c.sync.result (sym c.if-is_err.ensures.value) settled.reaches.ok, c.synced.ensures.log _ s settled.after first blocks sealed settled.syncs is);
      images = settled.reaches.images;
      moments = settled.reaches.moments;
    }
