use Rattle.uses_ordered.proofs.notes.wait_for_turn.Goals as goal

pub returns-in-Err-clause-told : goal.returns-in-Err-clause-told
returns-in-Err-clause-told g c = c.in-Err.ensures.stopped.0
