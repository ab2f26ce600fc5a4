-- What stays of a replica's facts while it settles.
use Rattle.std.proofs.Common.{◌≡◌, List, Ok, Err, sym, ap, ◌∙◌}
use Rattle.std.specs.Prelude.{◌≢◌}
use Rattle.rep_types.specs.declared.refusal.Refusal.TheVariants.{DiskFault}
use Rattle.rep_steps.specs.declared.event.Event.{Event}
use Rattle.rep_steps.specs.declared.answer.Answer.{Answer}
use Rattle.rep_steps.specs.declared.answer.Answer.TheVariants.{Refused}
use Rattle.rep_steps.specs.Standings.{Standing}
use Rattle.rep_steps.specs.FactLaws.{Stays, Serves, runs_stay, runs_serve}
use Rattle.rep_steps.specs.Runs.{Runs}
use Rattle.rep_replica.specs.Settling.{IsDue, AreDone, outcome_of}

-- the cluster and the parameters; and no less is delivered and durable
pub settling_stays : (events : List Event) (answers : List Answer) (s t : Standing) → Runs IsDue s events answers t → Stays s t
settling_stays = runs_stay IsDue (λ s e a t due. due.1)

-- what is done was no fault of the device
pub done_is_none : (a : Answer) → outcome_of a ≡ Ok tt → a ≢ Refused DiskFault
done_is_none a done is = let never : Err DiskFault ≡ Ok tt = sym (ap outcome_of is) ∙ done in cc

-- where all of it is done, it is stopped exactly where it was, and no failure is counted
pub settling_serves : (events : List Event) (answers : List Answer) (s t : Standing) → AreDone answers → Runs IsDue s events answers t → Serves s t
settling_serves = runs_serve IsDue (λ s e a t due. due.1) AreDone (λ a answers done. (done_is_none a done.0, done.1))
