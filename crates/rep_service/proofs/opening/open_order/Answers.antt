use Rattle.std.proofs.Common.{ℕ, refl}
use Rattle.rep_streams.proofs.Noted.{noted_ok}
use Rattle.rep_service.proofs.Noting.{still_done, still_own, by_writer}
use Rattle.rep_service.proofs.opening.open_order.Goals as goal

pub returns-in-Err-position_of-clause-notes : goal.returns-in-Err-position_of-clause-notes
returns-in-Err-position_of-clause-notes g c = still_own _ _ _ _ c.in-Err-position_of.refusal (noted_ok _ _ _ c.in-Ok.ensures.notes) refl c.in-Err-position_of.ensures.own

pub returns-in-Ok-write_at-clause-notes : goal.returns-in-Ok-write_at-clause-notes
returns-in-Ok-write_at-clause-notes g c = still_done _ _ _ _ _ (noted_ok _ _ _ c.in-Ok.ensures.notes) (noted_ok _ _ _ c.in-Ok-write_at.ensures.notes)

pub returns-in-Err-write_at-clause-notes : goal.returns-in-Err-write_at-clause-notes
returns-in-Err-write_at-clause-notes g c = by_writer (Unit {0}) ℕ _ _ _ _ _ c.in-Err-write_at.refusal (noted_ok _ _ _ c.in-Ok.ensures.notes) refl c.in-Err-write_at.ensures.notes
