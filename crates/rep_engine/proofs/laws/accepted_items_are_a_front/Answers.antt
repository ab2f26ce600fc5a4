use Rattle.rep_engine.proofs.Fronts.{accepted_within, accepted_fits, accepted_all}
use Rattle.rep_engine.proofs.laws.accepted_items_are_a_front.Goals as goal

pub returns : goal.returns
returns c = record { within = accepted_within; fits = accepted_fits; all = accepted_all c.fronts_are_determined.ensures }
